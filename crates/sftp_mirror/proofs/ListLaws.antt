-- What a list of files that was read is good for, and a line of it that is refused.
use Rattle.std.proofs.Common.{◌≡◌, ◌≤◌, ℕ, ◌+◌, Bool, true, false, not, List, [], ◌∷◌, ◌++◌, length, Result, Ok, Err, if◌then◌else◌, refl, ap, subst, arith}
use Rattle.std.specs.Prelude.{◌&&◌, ◌||◌, ◌*◌, ◌-◌, ◌^◌, Option, Some, None, codes, map, nat_le, nat_lt}
use Rattle.std.specs.List.{list_all, list_any}
use Rattle.std.specs.Str.{bytes_eq}
use Rattle.std.proofs.Math.Bool.{or_comm}
use Rattle.std.proofs.lemmas.Bool.{and_parts}
use Rattle.std.proofs.lemmas.Bool.Decides.{nat_tests}
use Rattle.std.proofs.lemmas.List.{map-append}
use Rattle.std.proofs.lemmas.List.Folds.{list_all-append}
use Rattle.std.specs.Cmp.Lexicographic.{bytes_decides}
use Rattle.hex.specs.Hex.{decode_of}
use Rattle.hex.specs.declared.error.FromHexError.{FromHexError}
use Rattle.hex.proofs.HexLemmas.{decode_of-ok}
use Rattle.ssh_encoding.specs.Reading.{◌>>=◌}
use Rattle.machine_model.specs.Components.{Name, components, is_within, same_name}
use Rattle.machine_model.specs.FirstTree.{are_apart, may_be_named, stand_apart}
use Rattle.script_words.specs.declared.error.LineError.{LineError}
use Rattle.script_words.specs.declared.error.LineError.TheVariants as line
use Rattle.script_words.specs.declared.error.ScriptError.{ScriptError}
use Rattle.script_words.specs.declared.error.ScriptError.TheVariants as script
use Rattle.script_words.specs.declared.reason.Reason.{Reason}
use Rattle.script_words.specs.declared.reason.Reason.TheVariants as reason
use Rattle.script_grammar.specs.CanRun.{CanBegin}
use Rattle.script_words.specs.Lines.{
  bytes_in,
  go_on,
  or_hex,
  greatest_u32,
  is_comment,
  line_of,
  lines_of,
  number_in,
  number_of,
  or_read,
  read_by,
  read_line,
  two_words,
  within,
  words_of,
}
use Rattle.script_words.specs.Refusals.{RefusesLine, RefusesIn, RefusesScript}
use Rattle.script_grammar.specs.Scripts.{MAX_SCRIPT_LEN}
use Rattle.script_grammar.specs.Setup.{Draft, path_in, setup_line, unless_said}
use Rattle.script_words.proofs.FitCounts.{lines_cost, lines_fit, words_fit, words_len}
use Rattle.script_grammar.proofs.SetupLaws.{setup_kept}
use Rattle.mirror_jobs.specs.declared.job.Job.{Job}
use Rattle.mirror_jobs.specs.declared.job.Job.TheVariants as job
use Rattle.mirror_jobs.specs.Jobs.{are_ok, is_bounded, name_of}
use Rattle.sftp_mirror.proofs.SizeLaws.{cost_more, job_cost, jobs_cost, lanes_fit}
use Rattle.sftp_mirror.specs.CanCopy.{CanCopy}
use Rattle.sftp_mirror.specs.Lists.{
  ListDraft,
  content_in,
  down_line,
  job_line,
  line_by,
  list_in,
  list_of,
  may_stand_beside,
  name_in,
  nothing_read,
  up_line,
  with_job,
  with_setup,
}

-- ---- a line of setup

-- one that is refused
pub setup_refuses : (d : ListDraft) (read : Option (Result Draft Reason)) (other : Result ListDraft Reason)
    (e : LineError) → RefusesIn read e
    → RefusesLine (or_read (with_setup d read) other) e
setup_refuses d None other e refused = absurd refused
setup_refuses d (Some (Ok draft)) other line.OutOfMemory refused = tt
setup_refuses d (Some (Ok draft)) other (line.Refused why) refused =
    absurd (let both : Ok draft ≡ Err why = refused in cc)
setup_refuses d (Some (Err other_why)) other line.OutOfMemory refused = tt
setup_refuses d (Some (Err other_why)) other (line.Refused why) refused =
    (let same : other_why ≡ why = cc in ap Err same)

-- ---- names

apart_sym : (a b : Name) → are_apart a b ≡ are_apart b a
apart_sym a b = ap not (or_comm (is_within a b) (is_within b a))

apart_more : (names : List Name) (name : Name) → stand_apart names ≡ true → list_all (are_apart name) names ≡ true
    → stand_apart (names ++ name ∷ []) ≡ true
apart_more [] name h k = refl
apart_more (x ∷ names) name h k =
    let old = and_parts (list_all (are_apart x) names) (stand_apart names) h in
    let new = and_parts (are_apart name x) (list_all (are_apart name) names) k in
    rw (
      list_all-append (are_apart x) names (name ∷ []),
      old.0,
      apart_sym x name,
      new.0,
      apart_more names name old.1 new.1,
    ) refl

-- a name that may stand beside each of these and is none of them is apart from each
apart_from_all : (names : List Name) (name : Name) → list_all (may_stand_beside name) names ≡ true
    → list_any (same_name name) names ≡ false
    → list_all (are_apart name) names ≡ true
apart_from_all [] name beside new = refl
apart_from_all (x ∷ names) name beside new =
    let both = and_parts (may_stand_beside name x) (list_all (may_stand_beside name) names) beside in
    by_tests (same_name name x) (are_apart name x) both.0 new (apart_from_all names name both.1)
  where
    by_tests : (same apart : Bool) → (same || apart) ≡ true → (same || list_any (same_name name) names) ≡ false
        → (list_any (same_name name) names ≡ false → list_all (are_apart name) names ≡ true)
        → (apart && list_all (are_apart name) names) ≡ true
    by_tests true apart either none rest = absurd cc
    by_tests false apart either none rest = rw (either, rest none) refl

-- ---- words

-- what was read first, and what that led to
bound : {A B : Type 0} (m : Result A Reason) (f : A → Result B Reason) (y : B) → (m >>= f) ≡ Ok y → (x : A) × (m ≡ Ok x)
    × (f x ≡ Ok y)
bound (Ok x) f y e = (x, refl, e)
bound (Err why) f y e = absurd cc

tested : (m : Result (List ℕ) Reason) (test : List ℕ → Bool) (x : List ℕ)
    → (m >>= λ y. if test y then Ok y else Err reason.Range) ≡ Ok x
    → (m ≡ Ok x) × (test x ≡ true)
tested (Err why) test x e = absurd cc
tested (Ok y) test x e = let p = by_test (test y) refl e in (
  ap
      (λ (z : List ℕ). let r : Result (List ℕ) Reason = Ok z in r) p.0,
  p.1,
)
  where
    by_test : (b : Bool) → test y ≡ b → (if b then Ok y else Err reason.Range) ≡ Ok x → (y ≡ x) × (test x ≡ true)
    by_test false t e = absurd cc
    by_test true t e = let same : y ≡ x = cc in (same, subst (λ (z : List ℕ). test z ≡ true) same t)

below : (n : ℕ) → nat_le n greatest_u32 ≡ true → nat_lt n (2 ^ 32) ≡ true
below n e = grind (arith, nat_tests)

in_range : (number : Option ℕ) (n : ℕ) → within 1 greatest_u32 number ≡ Ok n → (nat_le 1 n && nat_lt n (2 ^ 32)) ≡ true
in_range None n e = absurd cc
in_range (Some m) n e = by_range (nat_le 1 m && nat_le m greatest_u32) refl e
  where
    by_range : (b : Bool) → (nat_le 1 m && nat_le m greatest_u32) ≡ b → (if b then Ok m else Err reason.Range) ≡ Ok n
        → (nat_le 1 n && nat_lt n (2 ^ 32)) ≡ true
    by_range false t e = absurd cc
    by_range true t e =
        let same : m ≡ n = cc in
        let both = and_parts (nat_le 1 m) (nat_le m greatest_u32) t in
        subst (λ (k : ℕ). (nat_le 1 k && nat_lt k (2 ^ 32)) ≡ true) same (rw (both.0, below m both.1) refl)

-- ---- lines

-- a server may begin as the lines of setup say, and the files may be copied together and count at most a number
record IsGood (n : ℕ) (d : ListDraft) : Type 0 where
  begins : CanBegin d.draft.script
  ok : are_ok d.jobs ≡ true
  count : jobs_cost d.jobs ≤ n

-- with more room for what they count
roomier : (n m : ℕ) (d : ListDraft) → n ≤ m → IsGood n d → IsGood m d
roomier n m d le h = record { begins = h.begins; ok = h.ok; count = let c = h.count in omega (arith, c, le) }

job_kept : (n m : ℕ) (d next : ListDraft) (j : Job) → IsGood n d → n + job_cost j ≤ m → is_bounded j ≡ true
    → may_be_named (name_of j) ≡ true
    → list_all (may_stand_beside (name_of j)) (map name_of d.jobs) ≡ true → with_job d j ≡ Ok next → IsGood m next
job_kept n m d next j h room bounded named beside e = by_said (list_any (same_name (name_of j)) (map name_of d.jobs))
    refl e
  where
    more : list_any (same_name (name_of j)) (map name_of d.jobs) ≡ false → are_ok (d.jobs ++ j ∷ []) ≡ true
    more new =
        let two = and_parts (list_all is_bounded d.jobs && list_all may_be_named (map name_of d.jobs))
        (stand_apart (map name_of d.jobs)) h.ok in
        let one = and_parts (list_all is_bounded d.jobs) (list_all may_be_named (map name_of d.jobs)) two.0 in
        rw (
          list_all-append is_bounded d.jobs (j ∷ []),
          map-append name_of d.jobs (j ∷ []),
          list_all-append may_be_named (map name_of d.jobs) (name_of j ∷ []),
          one.0,
          one.1,
          bounded,
          named,
          apart_more (map name_of d.jobs) (name_of j) two.1 (apart_from_all (map name_of d.jobs) (name_of j) beside
              new),
        ) refl

    by_said : (b : Bool) → list_any (same_name (name_of j)) (map name_of d.jobs) ≡ b
        → unless_said b (record d { jobs = d.jobs ++ j ∷ [] }) ≡ Ok next → IsGood m next
    by_said true is e = absurd cc
    by_said false is e =
        let same : record d { jobs = d.jobs ++ j ∷ [] } ≡ next = cc in
        subst (IsGood m) same (record {
          begins = h.begins;
          ok = more is;
          count = let c = h.count in let one =
              cost_more d.jobs j in omega (arith, c, one, room);
        })

named_path : (jobs : List Job) (word path : List ℕ) → name_in jobs word ≡ Ok path
    → (may_be_named (components path) ≡ true) × (list_all (may_stand_beside (components path)) (map name_of jobs)
    ≡ true)
named_path jobs word path e =
    let p = tested (path_in word) (λ y. list_all (may_stand_beside (components y)) (map name_of jobs)) path e in
    ((tested (bytes_in word) (λ y. may_be_named (components y)) path p.0).1, p.1)

-- digits spell half as many bytes
path_short : (word path : List ℕ) → bytes_in word ≡ Ok path → 2 * length path ≤ length word
path_short word path e = by_word (bytes_eq word (codes "-")) (decode_of word) refl e
  where
    by_word : (none : Bool) (r : Result (List ℕ) FromHexError) → decode_of word ≡ r → (if none then Ok [] else or_hex r)
        ≡ Ok path → 2 * length path ≤ length word
    by_word true r is e = let same : [] ≡ path = cc in subst (λ (p : List ℕ). 2 * length p ≤ length word) same
        (omega arith)
    by_word false (Err why) is e = absurd cc
    by_word false (Ok bytes) is e =
        let same : bytes ≡ path = cc in
        let twice = (decode_of-ok word bytes is).2 in
        subst (λ (p : List ℕ). 2 * length p ≤ length word) same (omega (arith, twice))

name_short : (jobs : List Job) (word path : List ℕ) → name_in jobs word ≡ Ok path → 2 * length path ≤ length word
name_short jobs word path e =
    let p = tested (path_in word) (λ y. list_all (may_stand_beside (components y)) (map name_of jobs)) path e in
    path_short word path (tested (bytes_in word) (λ y. may_be_named (components y)) path p.0).0

up_kept : (n k : ℕ) (d next : ListDraft) (a b : List ℕ) → IsGood n d → 2 + length a ≤ k → up_line d a b ≡ Ok next
    → IsGood (n + (65 + k)) next
up_kept n k d next a b h le e =
    let p = bound (name_in d.jobs a) (λ path. content_in b >>= λ content. with_job d (job.Up path content)) next e in
    let q = bound (content_in b) (λ content. with_job d (job.Up p.0 content)) next p.2 in
    let named = named_path d.jobs a p.0 p.1 in
    let short = name_short d.jobs a p.0 p.1 in
    job_kept n (n + (65 + k)) d next (job.Up p.0 q.0) h (omega (arith, short, le))
    (tested (bytes_in b) (λ c. nat_lt (length c) (2 ^ 32 - 1)) q.0 q.1).1 named.0 named.1 q.2

down_kept : (n k : ℕ) (d next : ListDraft) (a b : List ℕ) → IsGood n d → down_line d a b ≡ Ok next
    → IsGood (n + (65 + k)) next
down_kept n k d next a b h e =
    let p = bound (name_in d.jobs a) (λ path. number_in 1 greatest_u32 b >>= λ m. with_job d (job.Down path m)) next e
    in
    let q = bound (number_in 1 greatest_u32 b) (λ m. with_job d (job.Down p.0 m)) next p.2 in
    let named = named_path d.jobs a p.0 p.1 in
    job_kept n (n + (65 + k)) d next (job.Down p.0 q.0) h (omega arith) (in_range (number_of b) q.0 q.1) named.0 named.1
    q.2

two_kept : (m k : ℕ) (next : ListDraft) (f : List ℕ → List ℕ → Result ListDraft Reason) (words : List (List ℕ))
    → 2 + words_len words ≤ k
    → ((a b : List ℕ) → 2 + length a ≤ k → f a b ≡ Ok next → IsGood m next) → two_words f words ≡ Ok next
    → IsGood m next
two_kept m k next f [] le h e = absurd cc
two_kept m k next f (a ∷ []) le h e = absurd cc
two_kept m k next f (a ∷ b ∷ []) le h e = h a b (omega (arith, le)) e
two_kept m k next f (a ∷ b ∷ c ∷ words) le h e = absurd cc

-- a word is as long as the one that it is
up_len : (word : List ℕ) → bytes_eq word (codes "up") ≡ true → length word ≡ 2
up_len word e = ap length ((bytes_decides word (codes "up")).0 e)

job_line_kept : (n k : ℕ) (d next : ListDraft) (word : List ℕ) (words : List (List ℕ)) → IsGood n d
    → words_len (word ∷ words) ≤ k
    → job_line d word words ≡ Ok next → IsGood (n + (65 + k)) next
job_line_kept n k d next word words h le e = by_up (bytes_eq word (codes "up")) refl e
  where
    by_down : (down : Bool) → bytes_eq word (codes "down") ≡ down
        → (if down then two_words (down_line d) words else Err reason.Word) ≡ Ok next → IsGood (n + (65 + k)) next
    by_down true is e =
        let four : length word ≡ 4 = ap length ((bytes_decides word (codes "down")).0 is) in
        two_kept (n + (65 + k)) k next (down_line d) words (omega (arith, le, four))
        (λ a b short. down_kept n k d next a b h) e
    by_down false is e = absurd cc

    by_up : (up : Bool) → bytes_eq word (codes "up") ≡ up
        → (if up then two_words (up_line d) words else if bytes_eq word (codes "down") then
        two_words (down_line d) words else Err reason.Word) ≡ Ok next
        → IsGood (n + (65 + k)) next
    by_up true is e =
        let two = up_len word is in
        two_kept (n + (65 + k)) k next (up_line d) words (omega (arith, le, two))
        (λ a b short. up_kept n k d next a b h short) e
    by_up false is e = by_down (bytes_eq word (codes "down")) refl e

line_kept : (n k : ℕ) (d next : ListDraft) (word : List ℕ) (words : List (List ℕ)) → IsGood n d
    → words_len (word ∷ words) ≤ k
    → line_by d word words ≡ Ok next → IsGood (n + (65 + k)) next
line_kept n k d next word words h le e = by_setup (setup_line d.draft word words) refl e
  where
    by_setup : (r : Option (Result Draft Reason)) → setup_line d.draft word words ≡ r
        → or_read (with_setup d r) (job_line d word words) ≡ Ok next
        → IsGood (n + (65 + k)) next
    by_setup None is e = job_line_kept n k d next word words h le e
    by_setup (Some (Err why)) is e = absurd cc
    by_setup (Some (Ok draft)) is e =
        let same : record d { draft = draft } ≡ next = cc in
        subst (IsGood (n + (65 + k))) same (record {
          begins = setup_kept true d.draft draft word words is h.begins;
          ok =
              h.ok;
          count = let c = h.count in omega (arith, c);
        })

lines_kept : (m n number : ℕ) (d next : ListDraft) (lines : List (List ℕ)) → n + lines_cost lines ≤ m → IsGood n d
    → read_by line_by number d lines ≡ Ok next → IsGood m next
lines_kept m n number d next [] le h e = let same : d ≡ next = cc in
    subst (IsGood m) same (roomier n m d (omega (arith, le)) h)
lines_kept m n number d next (text ∷ lines) le h e =
    by_line (read_line line_by d text) refl
    (λ more good. lines_kept m (n + (65 + length text)) (number + 1) more next lines (omega (arith, le)) good) e
  where
    wider : IsGood (n + (65 + length text)) d
    wider = roomier n (n + (65 + length text)) d (omega arith) h

    by_words : (words : List (List ℕ)) (more : ListDraft) → words_len words ≤ length text → line_of line_by d words
        ≡ Ok more → IsGood (n + (65 + length text)) more
    by_words [] more fits e = let same : d ≡ more = cc in subst (IsGood (n + (65 + length text))) same wider
    by_words (word ∷ words) more fits e = line_kept n (length text) d more word words h fits e

    by_comment : (b : Bool) (more : ListDraft) → (if b then Ok d else line_of line_by d (words_of text)) ≡ Ok more
        → IsGood (n + (65 + length text)) more
    by_comment true more e = let same : d ≡ more = cc in subst (IsGood (n + (65 + length text))) same wider
    by_comment false more e = by_words (words_of text) more (words_fit text) e

    by_line : (r : Result ListDraft Reason) → read_line line_by d text ≡ r
        → ((more : ListDraft) → IsGood (n + (65 + length text)) more → read_by line_by (number + 1) more lines ≡ Ok next
        → IsGood m next)
        → go_on number r (λ more. read_by line_by (number + 1) more lines) ≡ Ok next → IsGood m next
    by_line (Err why) is rest e = absurd cc
    by_line (Ok more) is rest e = rest more (by_comment (is_comment text) more is) e

-- ---- lists

is_short : (m n : ℕ) → n ≤ m → nat_lt m n ≡ false
is_short m n le = grind (arith, nat_tests)

of_lines : (bytes : List ℕ) → length bytes ≤ MAX_SCRIPT_LEN → list_of bytes
    ≡ list_in (read_by line_by 1 nothing_read (lines_of bytes))
of_lines bytes le = rw (is_short MAX_SCRIPT_LEN (length bytes) le) refl

pub list_read : (bytes : List ℕ) (d : ListDraft) → length bytes ≤ MAX_SCRIPT_LEN
    → read_by line_by 1 nothing_read (lines_of bytes) ≡ Ok d
    → list_of bytes ≡ Ok (record { script = d.draft.script; jobs = d.jobs })
list_read bytes d le read = rw (of_lines bytes le, read) refl

refused_at : (bytes : List ℕ) (n : ℕ) (why : Reason) → length bytes ≤ MAX_SCRIPT_LEN
    → read_by line_by 1 nothing_read (lines_of bytes) ≡ Err (n, why) → list_of bytes ≡ Err (n, why)
refused_at bytes n why le read = rw (of_lines bytes le, read) refl

pub list_refused : (bytes : List ℕ) (e : ScriptError) → length bytes ≤ MAX_SCRIPT_LEN
    → RefusesScript (read_by line_by 1 nothing_read (lines_of bytes)) e → RefusesScript (list_of bytes) e
list_refused bytes script.OutOfMemory le refused = tt
list_refused bytes (script.Line n why) le refused = refused_at bytes n why le refused

nothing_good : IsGood 0 nothing_read
nothing_good = record {
  begins = record { begins = refl; known = omega arith; writes = omega arith; unfeigned = refl };
  ok = refl;
  count =
      omega arith;
}

pub draft_can_copy : (bytes : List ℕ) (d : ListDraft) → length bytes ≤ MAX_SCRIPT_LEN
    → read_by line_by 1 nothing_read (lines_of bytes) ≡ Ok d
    → CanCopy (record { script = d.draft.script; jobs = d.jobs })
draft_can_copy bytes d le read =
    let good = lines_kept (MAX_SCRIPT_LEN * 66) 0 1 nothing_read d (lines_of bytes)
    (let fit = lines_fit bytes in omega (arith, fit, le)) nothing_good read in
    record {
      begins = good.begins;
      ok = good.ok;
      lanes = λ width narrow. lanes_fit width d.jobs narrow
          (all_bounded d.jobs good.ok) good.count;
    }
  where
    all_bounded : (jobs : List Job) → are_ok jobs ≡ true → list_all is_bounded jobs ≡ true
    all_bounded jobs ok =
        (and_parts (list_all is_bounded jobs) (list_all may_be_named (map name_of jobs))
        (and_parts (list_all is_bounded jobs && list_all may_be_named (map name_of jobs))
        (stand_apart (map name_of jobs)) ok).0).0
