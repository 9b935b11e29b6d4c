-- What a list of operations that was read is good for, and a line of it that is refused.
use Rattle.std.proofs.Common.{
  ◌≡◌,
  ◌≤◌,
  ℕ,
  ◌+◌,
  Bool,
  true,
  false,
  List,
  [],
  ◌∷◌,
  ◌++◌,
  length,
  Result,
  Ok,
  Err,
  if◌then◌else◌,
  refl,
  ap,
  sym,
  ◌∙◌,
  subst,
  arith,
}
use Rattle.std.specs.Prelude.{◌&&◌, Option, Some, None, codes, nat_le, nat_lt}
use Rattle.std.specs.List.{list_all, sum_by}
use Rattle.std.specs.Str.{bytes_eq}
use Rattle.std.proofs.lemmas.Bool.{and_parts}
use Rattle.std.proofs.lemmas.Bool.Decides.{nat_tests}
use Rattle.std.proofs.lemmas.List.Folds.{list_all-append}
use Rattle.std.proofs.lemmas.List.Sums.{sum_by-append}
use Rattle.ssh_encoding.specs.Reading.{◌>>=◌}
use Rattle.script_words.specs.declared.error.LineError.{LineError}
use Rattle.script_words.specs.declared.error.LineError.TheVariants as line
use Rattle.script_words.specs.declared.error.ScriptError.{ScriptError}
use Rattle.script_words.specs.declared.error.ScriptError.TheVariants as script
use Rattle.script_words.specs.declared.reason.Reason.{Reason}
use Rattle.script_words.specs.declared.reason.Reason.TheVariants as reason
use Rattle.script_grammar.specs.CanRun.{CanBegin}
use Rattle.script_words.specs.Lines.{
  bytes_in,
  go_on,
  is_comment,
  line_of,
  lines_of,
  number_in,
  number_of,
  or_read,
  read_by,
  read_line,
  three_words,
  two_words,
  within,
  words_of,
}
use Rattle.script_words.specs.Refusals.{RefusesLine, RefusesIn, RefusesScript}
use Rattle.script_grammar.specs.Scripts.{MAX_SCRIPT_LEN}
use Rattle.script_grammar.specs.Setup.{Draft, setup_line}
use Rattle.script_grammar.proofs.SetupLaws.{setup_kept}
use Rattle.view_model.specs.ViewOps.{are_ok, count, count_limit, is_within}
use Rattle.view_model.specs.declared.op.ViewOp.{ViewOp}
use Rattle.view_model.specs.declared.op.ViewOp.TheVariants as op
use Rattle.view_model.specs.CanView.{CanView, refuses_nothing}
use Rattle.view_model.proofs.ChoiceLaws.{MayChoose, setup_unrefused}
use Rattle.view_model.specs.Lists.{ViewDraft, any_line, content_in, get_line, line_by, list_in, list_of, nothing_read, op_line, put_line, with_op, with_setup}

-- ---- a line of setup

-- one that is refused
pub setup_refuses : (d : ViewDraft) (read : Option (Result Draft Reason)) (other : Result ViewDraft Reason)
    (e : LineError) → RefusesIn read e
    → RefusesLine (or_read (with_setup d read) other) e
setup_refuses d None other e refused = absurd refused
setup_refuses d (Some (Ok draft)) other line.OutOfMemory refused = tt
setup_refuses d (Some (Ok draft)) other (line.Refused why) refused =
    absurd (let both : Ok draft ≡ Err why = refused in cc)
setup_refuses d (Some (Err other_why)) other line.OutOfMemory refused = tt
setup_refuses d (Some (Err other_why)) other (line.Refused why) refused =
    (let same : other_why ≡ why = cc in ap Err same)

-- ---- operations

-- one operation more
pub sum_more : (block : ℕ) (ops : List ViewOp) (o : ViewOp) → sum_by (count block) (ops ++ o ∷ [])
    ≡ sum_by (count block) ops + count block o
sum_more block ops o =
    (let e : sum_by (count block) (ops ++ o ∷ []) ≡ sum_by (count block) ops + (0 + count block o) =
    sum_by-append (count block) ops (o ∷ []) in
    omega (arith, e))

-- ---- lists

is_short : (m n : ℕ) → n ≤ m → nat_lt m n ≡ false
is_short m n le = grind (arith, nat_tests)

of_lines : (block : ℕ) (bytes : List ℕ) → length bytes ≤ MAX_SCRIPT_LEN → list_of block bytes
    ≡ list_in (read_by line_by 1 (nothing_read block) (lines_of bytes))
of_lines block bytes le = rw (is_short MAX_SCRIPT_LEN (length bytes) le) refl

pub list_read : (block : ℕ) (bytes : List ℕ) (d : ViewDraft) → length bytes ≤ MAX_SCRIPT_LEN
    → read_by line_by 1 (nothing_read block) (lines_of bytes) ≡ Ok d
    → list_of block bytes ≡ Ok (record { script = d.draft.script; ops = d.ops })
list_read block bytes d le read = rw (of_lines block bytes le, read) refl

refused_at : (block : ℕ) (bytes : List ℕ) (n : ℕ) (why : Reason) → length bytes ≤ MAX_SCRIPT_LEN
    → read_by line_by 1 (nothing_read block) (lines_of bytes) ≡ Err (n, why) → list_of block bytes ≡ Err (n, why)
refused_at block bytes n why le read = rw (of_lines block bytes le, read) refl

pub list_refused : (block : ℕ) (bytes : List ℕ) (e : ScriptError) → length bytes ≤ MAX_SCRIPT_LEN
    → RefusesScript (read_by line_by 1 (nothing_read block) (lines_of bytes)) e → RefusesScript (list_of block bytes) e
list_refused block bytes script.OutOfMemory le refused = tt
list_refused block bytes (script.Line n why) le refused = refused_at block bytes n why le refused

-- ---- what a list is good for

-- a server may begin as the lines of setup say, which refuse nothing, and the operations may be viewed
record IsGood (block : ℕ) (d : ViewDraft) : Type 0 where
  begins : CanBegin d.draft.script
  unrefused : list_all refuses_nothing d.draft.script.choices ≡ true
  same : d.block ≡ block
  ok : are_ok d.block d.ops ≡ true

-- what was read first, and what that led to
bound : {A B : Type 0} (m : Result A Reason) (f : A → Result B Reason) (y : B) → (m >>= f) ≡ Ok y → (x : A) × (m ≡ Ok x)
    × (f x ≡ Ok y)
bound (Ok x) f y e = (x, refl, e)
bound (Err why) f y e = absurd cc

in_range : (least most n : ℕ) (number : Option ℕ) → within least most number ≡ Ok n → nat_le n most ≡ true
in_range least most n None e = absurd cc
in_range least most n (Some m) e = by_range (nat_le least m && nat_le m most) refl e
  where
    by_range : (b : Bool) → (nat_le least m && nat_le m most) ≡ b → (if b then Ok m else Err reason.Range) ≡ Ok n
        → nat_le n most ≡ true
    by_range false t e = absurd cc
    by_range true t e = (let same : m ≡ n = cc in subst (λ (k : ℕ). nat_le k most ≡ true) same
        (and_parts (nat_le least m) (nat_le m most) t).1)

ends_within : (offset : ℕ) (content x : List ℕ) → (if nat_le (offset + length content) 16777216 then Ok content else
    Err reason.Range) ≡ Ok x
    → nat_le (offset + length x) 16777216 ≡ true
ends_within offset content x e = by_test (nat_le (offset + length content) 16777216) refl e
  where
    by_test : (b : Bool) → nat_le (offset + length content) 16777216 ≡ b → (if b then Ok content else Err reason.Range)
        ≡ Ok x
        → nat_le (offset + length x) 16777216 ≡ true
    by_test false t e = absurd cc
    by_test true t e = (let same : content ≡ x = cc in subst (λ (c : List ℕ). nat_le (offset + length c) 16777216
        ≡ true) same t)

op_kept : (long : ℕ) (d next : ViewDraft) (o : ViewOp) → IsGood long d → is_within o ≡ true → with_op d o ≡ Ok next
    → IsGood long next
op_kept long d next o h here e = by_test (nat_le (sum_by (count d.block) d.ops + count d.block o) count_limit) refl e
  where
    parts : (list_all is_within d.ops ≡ true) × (nat_le (sum_by (count d.block) d.ops) count_limit ≡ true)
    parts = and_parts (list_all is_within d.ops) (nat_le (sum_by (count d.block) d.ops) count_limit) h.ok

    by_test : (b : Bool) → nat_le (sum_by (count d.block) d.ops + count d.block o) count_limit ≡ b
        → (if b then Ok (record d { ops = d.ops ++ o ∷ [] }) else Err reason.Range) ≡ Ok next → IsGood long next
    by_test false t e = absurd cc
    by_test true t e =
        (let same : record d { ops = d.ops ++ o ∷ [] } ≡ next = cc in
        subst (IsGood long) same (record {
          begins = h.begins;
          unrefused = h.unrefused;
          same = h.same;
          ok = rw (list_all-append is_within d.ops (o ∷ []), parts.0, here, sum_more d.block d.ops o, t) refl;
        }))

get_kept : (long : ℕ) (d next : ViewDraft) (a b c : List ℕ) → IsGood long d → get_line d a b c ≡ Ok next
    → IsGood long next
get_kept long d next a b c h e =
    let p = bound (bytes_in a) (λ path. number_in 0 1099511627776 b >>= λ offset. number_in 0 1048576 c >>= λ len.
    with_op d (op.Get path offset len)) next e in
    let q = bound (number_in 0 1099511627776 b) (λ offset. number_in 0 1048576 c >>= λ len. with_op d
    (op.Get p.0 offset len)) next p.2 in
    let r = bound (number_in 0 1048576 c) (λ len. with_op d (op.Get p.0 q.0 len)) next q.2 in
    op_kept long d next (op.Get p.0 q.0 r.0) h (rw (
      in_range 0 1099511627776 q.0 (number_of b) q.1,
      in_range 0 1048576 r.0 (number_of c) r.1,
    ) refl) r.2

put_kept : (long : ℕ) (d next : ViewDraft) (a b c : List ℕ) → IsGood long d → put_line d a b c ≡ Ok next
    → IsGood long next
put_kept long d next a b c h e =
    let p = bound (bytes_in a) (λ path. number_in 0 16777216 b >>= λ offset. content_in offset c >>= λ content. with_op
    d (op.Put path offset content)) next e in
    let q = bound (number_in 0 16777216 b) (λ offset. content_in offset c >>= λ content. with_op d
    (op.Put p.0 offset content)) next p.2 in
    let r = bound (content_in q.0 c) (λ content. with_op d (op.Put p.0 q.0 content)) next q.2 in
    let s = bound (bytes_in c) (λ content. if nat_le (q.0 + length content) 16777216 then Ok content else
    Err reason.Range) r.0 r.1 in
    op_kept long d next (op.Put p.0 q.0 r.0) h (ends_within q.0 s.0 r.0 s.2) r.2

three_kept : (long : ℕ) (next : ViewDraft) (f : List ℕ → List ℕ → List ℕ → Result ViewDraft Reason)
    (words : List (List ℕ))
    → ((a b c : List ℕ) → f a b c ≡ Ok next → IsGood long next) → three_words f words ≡ Ok next → IsGood long next
three_kept long next f [] h e = absurd cc
three_kept long next f (a ∷ []) h e = absurd cc
three_kept long next f (a ∷ b ∷ []) h e = absurd cc
three_kept long next f (a ∷ b ∷ c ∷ []) h e = h a b c e
three_kept long next f (a ∷ b ∷ c ∷ x ∷ words) h e = absurd cc

op_line_kept : (long : ℕ) (d next : ViewDraft) (word : List ℕ) (words : List (List ℕ)) → IsGood long d
    → op_line d word words ≡ Ok next → IsGood long next
op_line_kept long d next word words h e = by_get (bytes_eq word (codes "get")) e
  where
    by_put : (put : Bool) → (if put then three_words (put_line d) words else Err reason.Word) ≡ Ok next
        → IsGood long next
    by_put true e = three_kept long next (put_line d) words (λ a b c. put_kept long d next a b c h) e
    by_put false e = absurd cc

    by_get : (get : Bool)
        → (if get then three_words (get_line d) words else if bytes_eq word (codes "put") then
        three_words (put_line d) words else Err reason.Word) ≡ Ok next
        → IsGood long next
    by_get true e = three_kept long next (get_line d) words (λ a b c. get_kept long d next a b c h) e
    by_get false e = by_put (bytes_eq word (codes "put")) e

any_line_kept : (long : ℕ) (d next : ViewDraft) (word : List ℕ) (words : List (List ℕ))
    → MayChoose (bytes_eq word (codes "choice")) words → IsGood long d → any_line d word words ≡ Ok next
    → IsGood long next
any_line_kept long d next word words may h e = by_setup (setup_line d.draft word words) refl e
  where
    by_setup : (r : Option (Result Draft Reason)) → setup_line d.draft word words ≡ r
        → or_read (with_setup d r) (op_line d word words) ≡ Ok next → IsGood long next
    by_setup None is e = op_line_kept long d next word words h e
    by_setup (Some (Err why)) is e = absurd cc
    by_setup (Some (Ok draft)) is e =
        (let same : record d { draft = draft } ≡ next = cc in
        subst (IsGood long) same (record {
          begins = setup_kept true d.draft draft word words is h.begins;
          unrefused = setup_unrefused d.draft h.unrefused draft word words may is;
          same = h.same;
          ok = h.ok;
        }))

line_kept : (long : ℕ) (d next : ViewDraft) (word : List ℕ) (words : List (List ℕ)) → IsGood long d
    → line_by d word words ≡ Ok next → IsGood long next
line_kept long d next word words h e = by_choice (bytes_eq word (codes "choice")) refl e
  where
    by_choice : (b : Bool) → bytes_eq word (codes "choice") ≡ b
        → (if b then (two_words (λ a b. number_in 0 0 a) words >>= λ n. any_line d word words) else
        any_line d word words) ≡ Ok next → IsGood long next
    by_choice true is e =
        let b = bound (two_words (λ a b. number_in 0 0 a) words) (λ n. any_line d word words) next e in
        any_line_kept long d next word words (λ choice. (b.0, b.1)) h b.2
    by_choice false is e = any_line_kept long d next word words
        (λ choice. absurd (let clash : false ≡ true = sym is ∙ choice in cc)) h e

words_kept : (long : ℕ) (d next : ViewDraft) (words : List (List ℕ)) → IsGood long d → line_of line_by d words ≡ Ok next
    → IsGood long next
words_kept long d next [] h e = (let same : d ≡ next = cc in subst (IsGood long) same h)
words_kept long d next (word ∷ words) h e = line_kept long d next word words h e

text_kept : (long : ℕ) (d next : ViewDraft) (text : List ℕ) → IsGood long d → read_line line_by d text ≡ Ok next
    → IsGood long next
text_kept long d next text h e = by_comment (is_comment text) e
  where
    by_comment : (b : Bool) → (if b then Ok d else line_of line_by d (words_of text)) ≡ Ok next → IsGood long next
    by_comment true e = (let same : d ≡ next = cc in subst (IsGood long) same h)
    by_comment false e = words_kept long d next (words_of text) h e

lines_kept : (long n : ℕ) (d next : ViewDraft) (lines : List (List ℕ)) → IsGood long d → read_by line_by n d lines
    ≡ Ok next → IsGood long next
lines_kept long n d next [] h e = (let same : d ≡ next = cc in subst (IsGood long) same h)
lines_kept long n d next (text ∷ lines) h e = by_line (read_line line_by d text) refl
    (λ more good. lines_kept long (n + 1) more next lines good) e
  where
    by_line : (r : Result ViewDraft Reason) → read_line line_by d text ≡ r
        → ((more : ViewDraft) → IsGood long more → read_by line_by (n + 1) more lines ≡ Ok next → IsGood long next)
        → go_on n r (λ more. read_by line_by (n + 1) more lines) ≡ Ok next → IsGood long next
    by_line (Err why) is rest e = absurd cc
    by_line (Ok more) is rest e = rest more (text_kept long d more text h is) e

nothing_good : (block : ℕ) → IsGood block (nothing_read block)
nothing_good block = record {
  begins = record { begins = refl; known = omega arith; writes = omega arith; unfeigned = refl };
  unrefused =
      refl;
  same = refl;
  ok = refl;
}

pub draft_can_view : (block : ℕ) (bytes : List ℕ) (d : ViewDraft)
    → read_by line_by 1 (nothing_read block) (lines_of bytes) ≡ Ok d
    → CanView block (record { script = d.draft.script; ops = d.ops })
draft_can_view block bytes d read =
    let good = lines_kept block 1 (nothing_read block) d (lines_of bytes) (nothing_good block) read in
    record {
      begins = good.begins;
      unrefused = good.unrefused;
      ok =
          subst (λ (n : ℕ). are_ok n d.ops ≡ true) good.same good.ok;
    }
