-- Each line of setup keeps that a server and a client can begin as the script says, and leaves the lanes alone.
use Rattle.std.proofs.Common.{
  ◌≡◌,
  ◌≤◌,
  ◌<◌,
  ◌⊎◌,
  Bool,
  true,
  false,
  ℕ,
  zero,
  suc,
  List,
  [],
  ◌∷◌,
  ◌++◌,
  Option,
  Some,
  None,
  Result,
  Ok,
  Err,
  if◌then◌else◌,
  refl,
  subst,
  sym,
  arith,
  inl,
  inr,
}
use Rattle.std.specs.Prelude.{◌&&◌, ◌==◌, MatchBool, nat_le, nat_lt, not, is_some, codes}
use Rattle.std.specs.Int.RustNames.{bit_or}
use Rattle.std.specs.List.{list_all}
use Rattle.std.specs.Str.{bytes_eq}
use Rattle.std.proofs.lemmas.Bool.{and_parts, leb-true}
use Rattle.std.proofs.lemmas.Bool.Decides.{nat_tests}
use Rattle.std.proofs.lemmas.List.Folds.{list_all-append}
use Rattle.ssh_encoding.specs.Reading.{◌>>=◌}
use Rattle.sftp_model.specs.declared.config.Choice.{Choice}
use Rattle.sftp_model.specs.declared.options.SftpOptions.{SftpOptions}
use Rattle.sftp_model.specs.Fits.{FitsSet}
use Rattle.sftp_model.specs.Numbers.{SSH_FX_EOF}
use Rattle.sftp_model.specs.Readings.{has_bit}
use Rattle.machine_model.specs.Components.{components}
use Rattle.machine_model.specs.FirstTree.{may_be_named, may_begin}
use Rattle.plan_model.specs.declared.call.Lane.{Lane}
use Rattle.script_words.specs.declared.reason.Reason.{Reason}
use Rattle.script_words.specs.declared.reason.Reason.TheVariants as reason
use Rattle.script_grammar.specs.declared.script.Script.{Script}
use Rattle.script_grammar.specs.CanRun.{CanBegin, feigns_no_end}
use Rattle.script_words.specs.Lines.{bytes_in, greatest_u32, greatest_u64, number_in, number_of, within}
use Rattle.script_grammar.specs.Setup.{
  Draft,
  choice_line,
  content_in,
  cut_line,
  dir_line,
  ext_line,
  extension_in,
  file_line,
  limits_line,
  may_add,
  meets_dir,
  meets_file,
  option_in,
  option_line,
  path_in,
  pick_line,
  refusal_in,
  server_line,
  setup_line,
  with_extension,
  with_options,
}
use Rattle.script_grammar.proofs.FirstLaws.{dir_begins, file_begins}
use Rattle.script_grammar.proofs.LineLaws.{Fact, Keeps, KeepsIn, bind_keeps, four_keeps, if_keeps, if_keeps_in, one_keeps, two_keeps, unless_keeps}

-- A server and a client can begin as the script says, no choice feigns an end, and this holds of its lanes. It is a
-- product, so that a line which leaves these parts unchanged passes it on as it is.
abbrev pub Sound : (List Lane → Type 0) → Fact
Sound L script = (may_begin script.files script.dirs ≡ true) × FitsSet script.server.extensions.0
    × (1 ≤ script.options.tokio_compat_file_write_limit) × (list_all feigns_no_end script.choices ≡ true)
    × L script.lanes

-- ---- what a word that was read says

tested : (m : Result (List ℕ) Reason) (test : List ℕ → Bool) (x : List ℕ)
    → (m >>= λ y. if test y then Ok y else Err reason.Range) ≡ Ok x → test x ≡ true
tested (Err why) test x e = absurd cc
tested (Ok y) test x e = by_test (test y) refl e
  where
    by_test : (b : Bool) → test y ≡ b → (if b then Ok y else Err reason.Range) ≡ Ok x → test x ≡ true
    by_test false t e = absurd cc
    by_test true t e = let same : y ≡ x = cc in subst (λ z. test z ≡ true) same t

from_least : (least most : ℕ) (number : Option ℕ) (n : ℕ) → within least most number ≡ Ok n → least ≤ n
from_least least most None n e = absurd cc
from_least least most (Some m) n e = by_range (nat_le least m && nat_le m most) refl e
  where
    by_range : (b : Bool) → (nat_le least m && nat_le m most) ≡ b → (if b then Ok m else Err reason.Range) ≡ Ok n
        → least ≤ n
    by_range false t e = absurd cc
    by_range true t e = let same : m ≡ n = cc in rw (sym same)
        (leb-true least m (and_parts (nat_le least m) (nat_le m most) t).0)

lt_or_is : (n set : ℕ) → set < suc n → (set < n) ⊎ (set ≡ n)
lt_or_is n set h = grind arith

both_of : (a b : Bool) → (a && b) ≡ true → (a ≡ true) × (b ≡ true)
both_of true b e = (refl, e)
both_of false b e = absurd cc

is_less : (n m : ℕ) → nat_lt n m ≡ true → n < m
is_less n m e = grind (arith, nat_tests)

-- ---- extensions: a bit that is added, tried for each of 64 sets

abbrev adds_known : ℕ → ℕ → Bool
adds_known bit zero = true
adds_known bit (suc n) = nat_lt (bit_or n bit) 64 && adds_known bit n

each_known : (bit n set : ℕ) → adds_known bit n ≡ true → set < n → bit_or set bit < 64
each_known bit zero set e h = absurd (omega (arith, h))
each_known bit (suc n) set e h =
    let both = both_of (nat_lt (bit_or n bit) 64) (adds_known bit n) e in
    elim (lt_or_is n set h) [
      | inl below ↦ each_known bit n set both.1 below
      | inr is ↦ rw is (is_less (bit_or n bit) 64 both.0)
    ]

abbrev IsBit : Result ℕ Reason → Type 0
IsBit (Ok bit) = adds_known bit 64 ≡ true
IsBit (Err why) = Unit {0}

record Bit (r : Result ℕ Reason) : Type 0 where
  is : IsBit r

if_bit : (b : Bool) (n : ℕ) (r : Result ℕ Reason) → adds_known n 64 ≡ true → Bit r → Bit (if b then Ok n else r)
if_bit true n r e h = record { is = e }
if_bit false n r e h = h

name_bit : (name : List ℕ) → Bit (extension_in name)
name_bit name = if_bit (bytes_eq name (codes "posix-rename")) 1 _ refl
    (if_bit (bytes_eq name (codes "hardlink")) 2 _ refl (if_bit (bytes_eq name (codes "fsync")) 4 _ refl
    (if_bit (bytes_eq name (codes "expand-path")) 8 _ refl (if_bit (bytes_eq name (codes "copy-data")) 16 _ refl
    (record { is = tt })))))

bit_keeps : {F : Fact} (m : Result ℕ Reason) (f : ℕ → Result Draft Reason) → Bit m
    → ((n : ℕ) → adds_known n 64 ≡ true → Keeps F (f n)) → Keeps F (m >>= f)
bit_keeps (Ok n) f b h = h n b.is
bit_keeps (Err why) f b h = record { is = tt }

-- ---- lines

option_keeps : (L : List Lane → Type 0) (d : Draft) (key least most : ℕ) (word : List ℕ) (set : ℕ → SftpOptions)
    → Sound L d.script
    → ((n : ℕ) → least ≤ n → 1 ≤ (set n).tokio_compat_file_write_limit)
    → Keeps (Sound L) (option_in d key least most word set)
option_keeps L d key least most word set k wrote = bind_keeps (number_in least most word) _
    (λ n e. unless_keeps _ (with_options d key (set n)) (λ free. (
      k.0,
      k.1,
      wrote n (from_least least most (number_of word) n e),
      k.3,
      k.4,
    )))

options_keep : (L : List Lane → Type 0) (d : Draft) (name word : List ℕ) → Sound L d.script
    → Keeps (Sound L) (option_line d name word)
options_keep L d name word k =
    let writes = k.2 in
    if_keeps (bytes_eq name (codes "max_pending_requests")) _ _ (option_keeps L d 0 1 65535 word _ k (λ n le. writes))
    (if_keeps (bytes_eq name (codes "requests_buffer_size")) _ _ (option_keeps L d 1 1 65536 word _ k (λ n le. writes))
    (if_keeps (bytes_eq name (codes "responses_buffer_size")) _ _ (option_keeps L d 2 1 65536 word _ k (λ n le. writes))
    (if_keeps (bytes_eq name (codes "tokio_compat_file_write_limit")) _ _
    (option_keeps L d 3 1 16777216 word _ k (λ n le. le))
    (if_keeps (bytes_eq name (codes "max_read_len")) _ _ (option_keeps L d 4 1 _ word _ k (λ n le. writes))
    (if_keeps (bytes_eq name (codes "max_write_len")) _ _ (option_keeps L d 5 1 _ word _ k (λ n le. writes))
    (if_keeps (bytes_eq name (codes "flush_interval")) _ _ (option_keeps L d 6 0 1000000 word _ k (λ n le. writes))
    (if_keeps (bytes_eq name (codes "read_window")) _ _ (option_keeps L d 7 1 64 word _ k (λ n le. writes))
    (record { is = tt }))))))))

ext_keeps : (L : List Lane → Type 0) (d : Draft) (name : List ℕ) → Sound L d.script → Keeps (Sound L) (ext_line d name)
ext_keeps L d name k = bit_keeps (extension_in name) _ (name_bit name)
    (λ n e. unless_keeps (has_bit d.script.server.extensions.0 n) (with_extension d n) (λ free. (
      k.0,
      each_known n 64 d.script.server.extensions.0 e k.1,
      k.2,
      k.3,
      k.4,
    )))

limits_keep : (L : List Lane → Type 0) (d : Draft) (p r w h : List ℕ) → Sound L d.script
    → Keeps (Sound L) (limits_line d p r w h)
limits_keep L d p r w h k =
    bind_keeps (number_in 0 greatest_u64 p) _ (λ a i. bind_keeps (number_in 0 greatest_u64 r) _
    (λ b j. bind_keeps (number_in 0 greatest_u64 w) _ (λ c l. bind_keeps (number_in 0 greatest_u64 h) _
    (λ e m. unless_keeps (is_some d.script.server.limits) _ (λ free. k)))))

cut_keeps : (L : List Lane → Type 0) (d : Draft) (word : List ℕ) → Sound L d.script → Keeps (Sound L) (cut_line d word)
cut_keeps L d word k = bind_keeps (number_in 1 greatest_u32 word) _
    (λ n e. unless_keeps (not (d.script.server.cut == 0)) _ (λ free. k))

pub server_keeps : (L : List Lane → Type 0) (d : Draft) (words : List (List ℕ)) → Sound L d.script
    → Keeps (Sound L) (server_line d words)
server_keeps L d [] k = record { is = tt }
server_keeps L d (kind ∷ words) k =
    if_keeps (bytes_eq kind (codes "ext")) _ _ (one_keeps (ext_line d) words (λ a. ext_keeps L d a k))
    (if_keeps (bytes_eq kind (codes "limits")) _ _ (four_keeps (limits_line d) words
    (λ p r w h. limits_keep L d p r w h k))
    (if_keeps (bytes_eq kind (codes "cut")) _ _ (one_keeps (cut_line d) words (λ a. cut_keeps L d a k))
    (record { is = tt })))

pub file_keeps : (L : List Lane → Type 0) (d : Draft) (a b : List ℕ) → Sound L d.script
    → Keeps (Sound L) (file_line d a b)
file_keeps L d a b k =
    bind_keeps (path_in a) _ (λ path e. bind_keeps (content_in d.script.files b) _
    (λ content i. unless_keeps (meets_file d.script (components path)) _
    (λ free. (
      file_begins d.script.files d.script.dirs path content k.0
          (tested (bytes_in a) (λ y. may_be_named (components y)) path e)
          (tested (bytes_in b) (may_add d.script.files) content i) free,
      k.1,
      k.2,
      k.3,
      k.4,
    ))))

pub dir_keeps : (L : List Lane → Type 0) (d : Draft) (a : List ℕ) → Sound L d.script → Keeps (Sound L) (dir_line d a)
dir_keeps L d a k =
    bind_keeps (path_in a) _ (λ path e. unless_keeps (meets_dir d.script (components path)) _ (λ free. (
      dir_begins d.script.files d.script.dirs path k.0
          (tested (bytes_in a) (λ y. may_be_named (components y)) path e) free,
      k.1,
      k.2,
      k.3,
      k.4,
    )))

-- a code that was read is not that of an end
is_no_end : (m : Result ℕ Reason) (x : ℕ) → (m >>= λ n. if n == 1 then Err reason.Range else Ok n) ≡ Ok x
    → not (x == SSH_FX_EOF) ≡ true
is_no_end (Err why) x e = absurd cc
is_no_end (Ok n) x e = by_test (n == 1) refl e
  where
    by_test : (b : Bool) → (n == 1) ≡ b → (if b then Err reason.Range else Ok n) ≡ Ok x → not (x == SSH_FX_EOF) ≡ true
    by_test true t e = absurd cc
    by_test false t e = let same : n ≡ x = cc in subst (λ (k : ℕ). not (k == SSH_FX_EOF) ≡ true) same (rw t refl)

another : (choices : List Choice) (refuse cap : ℕ) → list_all feigns_no_end choices ≡ true
    → not (refuse == SSH_FX_EOF) ≡ true
    → list_all feigns_no_end (choices ++ record { refuse = refuse; cap = cap } ∷ []) ≡ true
another choices refuse cap h e =
    rw (list_all-append feigns_no_end choices (record { refuse = refuse; cap = cap } ∷ []), h, e) refl

choice_keeps : (L : List Lane → Type 0) (d : Draft) (a b : List ℕ) → Sound L d.script
    → Keeps (Sound L) (choice_line d a b)
choice_keeps L d a b k = bind_keeps (refusal_in a) _ (λ x e. bind_keeps (number_in 0 greatest_u32 b) _
    (λ y i. record {
      is = (k.0, k.1, k.2, another d.script.choices x y k.3 (is_no_end (number_in 0 greatest_u32 a) x e), k.4);
    }))

pick_keeps : (L : List Lane → Type 0) (d : Draft) (a : List ℕ) → Sound L d.script → Keeps (Sound L) (pick_line d a)
pick_keeps L d a k = bind_keeps (number_in 0 greatest_u32 a) _ (λ x e. record { is = k })

pub setup_keeps : (L : List Lane → Type 0) (d : Draft) (word : List ℕ) (words : List (List ℕ)) → Sound L d.script
    → KeepsIn (Sound L) (setup_line d word words)
setup_keeps L d word words k =
    if_keeps_in (bytes_eq word (codes "option")) _ _ (two_keeps (option_line d) words (λ a b. options_keep L d a b k))
    (if_keeps_in (bytes_eq word (codes "server")) _ _ (server_keeps L d words k)
    (if_keeps_in (bytes_eq word (codes "file")) _ _ (two_keeps (file_line d) words (λ a b. file_keeps L d a b k))
    (if_keeps_in (bytes_eq word (codes "dir")) _ _ (one_keeps (dir_line d) words (λ a. dir_keeps L d a k))
    (if_keeps_in (bytes_eq word (codes "choice")) _ _ (two_keeps (choice_line d) words (λ a b. choice_keeps L d a b k))
    (if_keeps_in (bytes_eq word (codes "pick")) _ _ (one_keeps (pick_line d) words (λ a. pick_keeps L d a k))
    (record { is = tt }))))))

kept_in : (r : Option (Result Draft Reason)) (new : Draft) (F : Fact) → KeepsIn F r → r ≡ Some (Ok new) → F new.script
kept_in r new F k e = let kept : KeepsIn F (Some (Ok new)) =
    subst (λ (x : Option (Result Draft Reason)). KeepsIn F x) e k in kept.is.is

-- what a line of setup leaves, and another line changes nothing
pub setup_kept : (is : Bool) (old new : Draft) (word : List ℕ) (words : List (List ℕ))
    → MatchBool is (setup_line old word words ≡ Some (Ok new)) ((setup_line old word words ≡ None) × (new ≡ old))
    → CanBegin old.script → CanBegin new.script
setup_kept false old new word words h can = subst (λ (d : Draft). CanBegin d.script) (sym h.1) can
setup_kept true old new word words h can =
    let k = kept_in (setup_line old word words) new (Sound (λ (lanes : List Lane). Unit {0}))
    (setup_keeps (λ (lanes : List Lane). Unit {0}) old word words
    (can.begins, can.known, can.writes, can.unfeigned, tt)) h in
    record { begins = k.0; known = k.1; writes = k.2; unfeigned = k.3 }
