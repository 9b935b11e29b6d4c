-- The calls that lines read as are within their ranges, and count no more than their lines.
use Rattle.std.proofs.Common.{
  ◌≡◌,
  ◌≤◌,
  ℕ,
  ◌+◌,
  Bool,
  true,
  false,
  List,
  [],
  ◌∷◌,
  Result,
  Ok,
  Err,
  if◌then◌else◌,
  refl,
  arith,
  length,
}
use Rattle.std.specs.Prelude.{◌&&◌, nat_le, codes, Option, Some, None}
use Rattle.std.specs.Str.{bytes_eq}
use Rattle.std.specs.declared.io.traits.SeekFrom.{SeekFrom}
use Rattle.std.proofs.lemmas.Bool.Decides.{nat_tests}
use Rattle.ssh_encoding.specs.Reading.{◌>>=◌}
use Rattle.hex.specs.Hex.{decode_of}
use Rattle.hex.specs.declared.error.FromHexError.{FromHexError}
use Rattle.plan_model.specs.declared.call.Call.{Call}
use Rattle.plan_model.specs.declared.call.Call.TheVariants as call
use Rattle.script_words.specs.declared.reason.Reason.{Reason}
use Rattle.script_words.specs.declared.reason.Reason.TheVariants as reason
use Rattle.plan_model.specs.Lanes.{fits_u64, is_short, is_slot, is_some_long, is_within, weight}
use Rattle.script_words.specs.Lines.{
  map_ok,
  number_of,
  within,
  number_in,
  or_hex,
  bytes_in,
  flags_in,
  greatest_u32,
  greatest_u64,
}
use Rattle.ssh_encoding.specs.Writing.{or_else}
use Rattle.script_words.specs.Fields.{slot_in, number_u32, number_u64, mode_in, some_in, position_in, buffer_len, each_in, parts_in}
use Rattle.script_grammar.specs.Scripts.{one, two, three, seek, slot_call, number_call, write_call, place_call, path_call, paths_call, slots_call, call_in}
use Rattle.script_words.proofs.FitCounts.{words_len}
use Rattle.script_words.proofs.HexLaws.{AtMost, digits_fit}

-- ---- tests

pub both_true : (a b : Bool) → a ≡ true → b ≡ true → (a && b) ≡ true
both_true true b h k = k
both_true false b h k = absurd cc

pub first_true : (a b : Bool) → (a && b) ≡ true → (a ≡ true) × (b ≡ true)
first_true true b h = (refl, h)
first_true false b h = absurd cc

test_le : (a b : ℕ) → a ≤ b → nat_le a b ≡ true
test_le a b h = grind (arith, nat_tests)

is_le : (a b : ℕ) → nat_le a b ≡ true → a ≤ b
is_le a b e = grind (arith, nat_tests)

-- ---- calls

-- what was read passes a test, or it is refused
abbrev IsSo : {A : Type 0} → (A → Bool) → Result A Reason → Type 0
IsSo test (Ok x) = test x ≡ true
IsSo test (Err why) = Unit {0}

pub record So {A : Type 0} (test : A → Bool) (r : Result A Reason) : Type 0 where
  pub is : IsSo test r

-- a test that all pass
abbrev all : {A : Type 0} → A → Bool
all x = true

any_read : {A : Type 0} (r : Result A Reason) → So all r
any_read (Ok x) = record { is = refl }
any_read (Err why) = record { is = tt }

any : {A : Type 0} (read : List ℕ → Result A Reason) (word : List ℕ) → So all (read word)
any read word = any_read (read word)

-- ---- fields

if_so : (test : ℕ → Bool) (b : Bool) (n : ℕ) → (b ≡ true → test n ≡ true)
    → So test (if b then Ok n else Err reason.Range)
if_so test true n h = record { is = h refl }
if_so test false n h = record { is = tt }

within_so : (test : ℕ → Bool) (least most : ℕ) (o : Option ℕ)
    → ((n : ℕ) → (nat_le least n && nat_le n most) ≡ true → test n ≡ true) → So test (within least most o)
within_so test least most None h = record { is = tt }
within_so test least most (Some n) h = if_so test (nat_le least n && nat_le n most) n (h n)

below_slots : (n : ℕ) → (nat_le 0 n && nat_le n 15) ≡ true → is_slot n ≡ true
below_slots n e = grind (arith, nat_tests)

below_long : (n : ℕ) → (nat_le 0 n && nat_le n greatest_u64) ≡ true → fits_u64 n ≡ true
below_long n e = grind (arith, nat_tests)

from_one : (n : ℕ) → (nat_le 1 n && nat_le n greatest_u32) ≡ true → nat_le 1 n ≡ true
from_one n e = (first_true (nat_le 1 n) (nat_le n greatest_u32) e).0

-- a bound of READs
abbrev is_bound : ℕ → Bool
is_bound n = nat_le 1 n && is_short n

from_one_below : (n : ℕ) → (nat_le 1 n && nat_le n greatest_u32) ≡ true → is_bound n ≡ true
from_one_below n e = grind (arith, nat_tests)

from_one_to : (n : ℕ) → (nat_le 1 n && nat_le n 1048576) ≡ true → nat_le 1 n ≡ true
from_one_to n e = (first_true (nat_le 1 n) (nat_le n 1048576) e).0

a_slot : (word : List ℕ) → So is_slot (slot_in word)
a_slot word = within_so is_slot 0 15 (number_of word) below_slots

a_long : (word : List ℕ) → So fits_u64 (number_u64 word)
a_long word = within_so fits_u64 0 greatest_u64 (number_of word) below_long

a_bound : (word : List ℕ) → So (nat_le 1) (number_in 1 greatest_u32 word)
a_bound word = within_so (nat_le 1) 1 greatest_u32 (number_of word) from_one

a_bound_of_reads : (word : List ℕ) → So is_bound (number_in 1 greatest_u32 word)
a_bound_of_reads word = within_so is_bound 1 greatest_u32 (number_of word) from_one_below

a_len : (word : List ℕ) → So (nat_le 1) (buffer_len word)
a_len word = within_so (nat_le 1) 1 1048576 (number_of word) from_one_to

-- bytes that are no more than a number
abbrev are_few : ℕ → List ℕ → Bool
are_few k bytes = nat_le (length bytes) k

few_bytes : (k : ℕ) (word : List ℕ) → length word ≤ k → So (are_few k) (bytes_in word)
few_bytes k word le = by_word (bytes_eq word (codes "-")) (decode_of word) (digits_fit word)
  where
    by_word : (b : Bool) (r : Result (List ℕ) FromHexError) → AtMost (length word) r
        → So (are_few k) (if b then Ok [] else or_hex r)
    by_word true r h = record { is = test_le 0 k (omega arith) }
    by_word false (Err why) h = record { is = tt }
    by_word false (Ok bytes) h = record {
      is = let short : length bytes ≤ length word = h in
          test_le (length bytes) k (omega (arith, short, le));
    }

a_size : (word : List ℕ) → So is_some_long (some_in number_u64 word)
a_size word = by_word (bytes_eq word (codes "-")) (number_u64 word) (a_long word)
  where
    by_word : (b : Bool) (n : Result ℕ Reason) → So fits_u64 n → So is_some_long (if b then Ok None else map_ok Some n)
    by_word true n k = record { is = refl }
    by_word false (Ok n) k = record { is = k.is }
    by_word false (Err why) k = record { is = tt }

-- ---- calls by their fields

-- a call is within its ranges, and counts at most 65 and a number more
abbrev pub fits : ℕ → Call → Bool
fits k (call.BufWrite slot bytes) = is_slot slot && are_few k bytes
fits k (call.BufWriteAll slot bytes) = is_slot slot && are_few k bytes
fits k other = is_within other

pub fits_within : (k : ℕ) (c : Call) → fits k c ≡ true → is_within c ≡ true
fits_within k (call.BufWrite slot bytes) e = (first_true (is_slot slot) (are_few k bytes) e).0
fits_within k (call.BufWriteAll slot bytes) e = (first_true (is_slot slot) (are_few k bytes) e).0
fits_within k other e = e

pub fits_light : (k : ℕ) (c : Call) → fits k c ≡ true → weight c ≤ 65 + k
fits_light k (call.BufWrite slot bytes) e = let few = is_le (length bytes) k
    (first_true (is_slot slot) (are_few k bytes) e).1 in omega (arith, few)
fits_light k (call.BufWriteAll slot bytes) e = let few = is_le (length bytes) k
    (first_true (is_slot slot) (are_few k bytes) e).1 in omega (arith, few)
fits_light k other e = omega arith

made_one : {A : Type 0} (k : ℕ) (p : A → Bool) (made : A → Call) (x : Result A Reason) → So p x
    → ((x : A) → p x ≡ true → fits k (made x) ≡ true) → So (fits k) (map_ok made x)
made_one k p made (Ok x) s h = record { is = h x s.is }
made_one k p made (Err why) s h = record { is = tt }

made_two : {A B : Type 0} (k : ℕ) (p : A → Bool) (q : B → Bool) (made : A → B → Call) (x : Result A Reason)
    (y : Result B Reason) → So p x → So q y
    → ((x : A) (y : B) → p x ≡ true → q y ≡ true → fits k (made x y) ≡ true)
    → So (fits k) (map_ok (λ (p : A × B). made p.0 p.1) (x >>= λ x. y >>= λ y. Ok (x, y)))
made_two k p q made (Ok x) (Ok y) s t h = record { is = h x y s.is t.is }
made_two k p q made (Ok x) (Err why) s t h = record { is = tt }
made_two k p q made (Err why) y s t h = record { is = tt }

made_three : {A B C : Type 0} (k : ℕ) (p : A → Bool) (q : B → Bool) (r : C → Bool) (made : A → B → C → Call)
    (x : Result A Reason) (y : Result B Reason) (z : Result C Reason) → So p x → So q y → So r z
    → ((x : A) (y : B) (z : C) → p x ≡ true → q y ≡ true → r z ≡ true → fits k (made x y z) ≡ true)
    → So (fits k) (map_ok (λ (p : A × B × C). made p.0 p.1 p.2) (x >>= λ x. y >>= λ y. z >>= λ z. Ok (x, y, z)))
made_three k p q r made (Ok x) (Ok y) (Ok z) s t u h = record { is = h x y z s.is t.is u.is }
made_three k p q r made (Ok x) (Ok y) (Err why) s t u h = record { is = tt }
made_three k p q r made (Ok x) (Err why) z s t u h = record { is = tt }
made_three k p q r made (Err why) y z s t u h = record { is = tt }

one_so : {A : Type 0} (k : ℕ) (p : A → Bool) (first : List ℕ → Result A Reason) (made : A → Call)
    (words : List (List ℕ)) → ((a : List ℕ) → So p (first a))
    → ((x : A) → p x ≡ true → fits k (made x) ≡ true) → So (fits k) (one first made words)
one_so k p first made [] f h = record { is = tt }
one_so k p first made (a ∷ []) f h = made_one k p made (first a) (f a) h
one_so k p first made (a ∷ b ∷ words) f h = record { is = tt }

two_so : {A B : Type 0} (k : ℕ) (p : A → Bool) (q : B → Bool) (first : List ℕ → Result A Reason)
    (second : List ℕ → Result B Reason) (made : A → B → Call) (words : List (List ℕ))
    → ((a : List ℕ) → So p (first a)) → ((a : List ℕ) → So q (second a))
    → ((x : A) (y : B) → p x ≡ true → q y ≡ true → fits k (made x y) ≡ true)
    → So (fits k) (two first second made words)
two_so k p q first second made [] f g h = record { is = tt }
two_so k p q first second made (a ∷ []) f g h = record { is = tt }
two_so k p q first second made (a ∷ b ∷ []) f g h = made_two k p q made (first a) (second b) (f a) (g b) h
two_so k p q first second made (a ∷ b ∷ c ∷ words) f g h = record { is = tt }

three_so : {A B C : Type 0} (k : ℕ) (p : A → Bool) (q : B → Bool) (r : C → Bool) (first : List ℕ → Result A Reason)
    (second : List ℕ → Result B Reason) (third : List ℕ → Result C Reason) (made : A → B → C → Call)
    (words : List (List ℕ)) → ((a : List ℕ) → So p (first a)) → ((a : List ℕ) → So q (second a))
    → ((a : List ℕ) → So r (third a))
    → ((x : A) (y : B) (z : C) → p x ≡ true → q y ≡ true → r z ≡ true → fits k (made x y z) ≡ true)
    → So (fits k) (three first second third made words)
three_so k p q r first second third made [] f g i h = record { is = tt }
three_so k p q r first second third made (a ∷ []) f g i h = record { is = tt }
three_so k p q r first second third made (a ∷ b ∷ []) f g i h = record { is = tt }
three_so k p q r first second third made (a ∷ b ∷ c ∷ []) f g i h =
    made_three k p q r made (first a) (second b) (third c) (f a) (g b) (i c) h
three_so k p q r first second third made (a ∷ b ∷ c ∷ e ∷ words) f g i h = record { is = tt }

-- the shapes that several calls have
slot_alone : (k : ℕ) (made : ℕ → Call) (words : List (List ℕ)) → ((x : ℕ) → is_slot x ≡ true → fits k (made x) ≡ true)
    → So (fits k) (one slot_in made words)
slot_alone k made words h = one_so k is_slot slot_in made words a_slot h

slot_first : {B : Type 0} (k : ℕ) (second : List ℕ → Result B Reason) (made : ℕ → B → Call) (words : List (List ℕ))
    → ((x : ℕ) (y : B) → is_slot x ≡ true → fits k (made x y) ≡ true) → So (fits k) (two slot_in second made words)
slot_first k second made words h = two_so k is_slot all slot_in second made words a_slot (any second)
    (λ x y s t. h x y s)

text_alone : (k : ℕ) (made : List ℕ → Call) (words : List (List ℕ)) → ((x : List ℕ) → fits k (made x) ≡ true)
    → So (fits k) (one bytes_in made words)
text_alone k made words h = one_so k all bytes_in made words (any bytes_in) (λ x s. h x)

texts : (k : ℕ) (made : List ℕ → List ℕ → Call) (words : List (List ℕ)) → ((x y : List ℕ) → fits k (made x y) ≡ true)
    → So (fits k) (two bytes_in bytes_in made words)
texts k made words h = two_so k all all bytes_in bytes_in made words (any bytes_in) (any bytes_in) (λ x y s t. h x y)

slot_bytes : (k : ℕ) (made : ℕ → List ℕ → Call) (words : List (List ℕ)) → words_len words ≤ k
    → ((x : ℕ) (y : List ℕ) → is_slot x ≡ true → are_few k y ≡ true → fits k (made x y) ≡ true)
    → So (fits k) (two slot_in bytes_in made words)
slot_bytes k made [] le h = record { is = tt }
slot_bytes k made (a ∷ []) le h = record { is = tt }
slot_bytes k made (a ∷ b ∷ []) le h = made_two k is_slot (are_few k) made (slot_in a) (bytes_in b) (a_slot a)
    (few_bytes k b (omega (arith, le))) h
slot_bytes k made (a ∷ b ∷ c ∷ words) le h = record { is = tt }

a_seek : (k : ℕ) (made : ℕ → SeekFrom → Call) (words : List (List ℕ))
    → ((x : ℕ) (to : SeekFrom) → is_slot x ≡ true → fits k (made x to) ≡ true) → So (fits k) (seek made words)
a_seek k made [] h = record { is = tt }
a_seek k made (a ∷ []) h = record { is = tt }
a_seek k made (a ∷ b ∷ []) h = record { is = tt }
a_seek k made (a ∷ b ∷ c ∷ []) h = made_two k is_slot all made (slot_in a) (position_in b c) (a_slot a)
    (any (position_in b) c) (λ x to s t. h x to s)
a_seek k made (a ∷ b ∷ c ∷ e ∷ words) h = record { is = tt }

slot_parts : (k : ℕ) (made : ℕ → List (List ℕ) → Call) (words : List (List ℕ))
    → ((x : ℕ) (parts : List (List ℕ)) → is_slot x ≡ true → fits k (made x parts) ≡ true)
    → So (fits k) (map_ok (λ (p : ℕ × List (List ℕ)). made p.0 p.1) (parts_in words))
slot_parts k made [] h = record { is = tt }
slot_parts k made (a ∷ []) h = record { is = tt }
slot_parts k made (a ∷ b ∷ words) h = made_two k is_slot all made (slot_in a) (each_in bytes_in (b ∷ words)) (a_slot a)
    (any_read (each_in bytes_in (b ∷ words))) (λ x parts s t. h x parts s)

-- ---- the tables of calls

-- a call that was read fits, where the line is one
abbrev IsCall : ℕ → Option (Result Call Reason) → Type 0
IsCall k None = Unit {0}
IsCall k (Some read) = So (fits k) read

pub record Named (k : ℕ) (r : Option (Result Call Reason)) : Type 0 where
  pub is : IsCall k r

if_named : (k : ℕ) (b : Bool) (read : Result Call Reason) (more : Option (Result Call Reason)) → So (fits k) read
    → Named k more → Named k (if b then Some read else more)
if_named k true read more s h = record { is = s }
if_named k false read more s h = h

slot_named : (k : ℕ) (word : List ℕ) (words : List (List ℕ)) → Named k (slot_call word words)
slot_named k word words =
    if_named k (bytes_eq word (codes "meta")) _ _ (slot_alone k call.Meta words (λ x s. s))
    (if_named k (bytes_eq word (codes "sync")) _ _ (slot_alone k call.Sync words (λ x s. s))
    (if_named k (bytes_eq word (codes "close")) _ _ (slot_alone k call.Close words (λ x s. s))
    (if_named k (bytes_eq word (codes "unbuffer")) _ _ (slot_alone k call.Unbuffer words (λ x s. s))
    (if_named k (bytes_eq word (codes "buf_flush")) _ _ (slot_alone k call.BufFlush words (λ x s. s))
    (record { is = tt })))))

number_named : (k : ℕ) (word : List ℕ) (words : List (List ℕ)) → Named k (number_call word words)
number_named k word words =
    if_named k (bytes_eq word (codes "read")) _ _ (slot_first k number_u32 call.Read words (λ x y s. s))
    (if_named k (bytes_eq word (codes "read_all")) _ _ (slot_first k number_u32 call.ReadAll words (λ x y s. s))
    (if_named k (bytes_eq word (codes "set_len")) _ _ (two_so k is_slot fits_u64 slot_in number_u64 call.SetLen words
    a_slot a_long (λ x y s t. both_true (is_slot x) (fits_u64 y) s t))
    (if_named k (bytes_eq word (codes "set_perm")) _ _ (slot_first k mode_in call.SetPerm words (λ x y s. s))
    (if_named k (bytes_eq word (codes "buffer")) _ _ (two_so k is_slot (nat_le 1) slot_in buffer_len call.Buffer words
    a_slot a_len (λ x y s t. both_true (is_slot x) (nat_le 1 y) s t))
    (if_named k (bytes_eq word (codes "buf_read")) _ _ (slot_first k number_u64 call.BufRead words (λ x y s. s))
    (record { is = tt }))))))

write_named : (k : ℕ) (word : List ℕ) (words : List (List ℕ)) → words_len words ≤ k → Named k (write_call word words)
write_named k word words le =
    if_named k (bytes_eq word (codes "write")) _ _ (slot_first k bytes_in call.Write words (λ x y s. s))
    (if_named k (bytes_eq word (codes "write_all")) _ _ (slot_first k bytes_in call.WriteAll words (λ x y s. s))
    (if_named k (bytes_eq word (codes "write_parts")) _ _ (slot_parts k call.WriteParts words (λ x parts s. s))
    (if_named k (bytes_eq word (codes "buf_write")) _ _ (slot_bytes k call.BufWrite words le
    (λ x y s t. both_true (is_slot x) (are_few k y) s t))
    (if_named k (bytes_eq word (codes "buf_write_all")) _ _ (slot_bytes k call.BufWriteAll words le
    (λ x y s t. both_true (is_slot x) (are_few k y) s t))
    (record { is = tt })))))

place_named : (k : ℕ) (word : List ℕ) (words : List (List ℕ)) → Named k (place_call word words)
place_named k word words =
    if_named k (bytes_eq word (codes "open")) _ _ (three_so k is_slot all all slot_in flags_in bytes_in call.OpenFile
    words a_slot (any flags_in) (any bytes_in) (λ x y z s t u. s))
    (if_named k (bytes_eq word (codes "seek")) _ _ (a_seek k call.Seek words (λ x to s. s))
    (if_named k (bytes_eq word (codes "buf_seek")) _ _ (a_seek k call.BufSeek words (λ x to s. s))
    (if_named k (bytes_eq word (codes "copy")) _ _ (three_so k is_slot is_slot all slot_in slot_in number_u64 call.Copy
    words a_slot a_slot (any number_u64) (λ x y z s t u. both_true (is_slot x) (is_slot y) s t))
    (if_named k (bytes_eq word (codes "clone")) _ _ (two_so k is_slot is_slot slot_in slot_in call.CloneFile words
    a_slot a_slot (λ x y s t. both_true (is_slot x) (is_slot y) s t))
    (record { is = tt })))))

path_named : (k : ℕ) (word : List ℕ) (words : List (List ℕ)) → Named k (path_call word words)
path_named k word words =
    if_named k (bytes_eq word (codes "stat")) _ _ (text_alone k call.Stat words (λ x. refl))
    (if_named k (bytes_eq word (codes "lstat")) _ _ (text_alone k call.Lstat words (λ x. refl))
    (if_named k (bytes_eq word (codes "remove")) _ _ (text_alone k call.Remove words (λ x. refl))
    (if_named k (bytes_eq word (codes "mkdir")) _ _ (text_alone k call.Mkdir words (λ x. refl))
    (if_named k (bytes_eq word (codes "rmdir")) _ _ (text_alone k call.Rmdir words (λ x. refl))
    (if_named k (bytes_eq word (codes "read_link")) _ _ (text_alone k call.ReadLink words (λ x. refl))
    (if_named k (bytes_eq word (codes "canonicalize")) _ _ (text_alone k call.Canonicalize words (λ x. refl))
    (if_named k (bytes_eq word (codes "cwd")) _ _ (text_alone k call.Cwd words (λ x. refl))
    (record { is = tt }))))))))

paths_named : (k : ℕ) (word : List ℕ) (words : List (List ℕ)) → Named k (paths_call word words)
paths_named k word words =
    if_named k (bytes_eq word (codes "fs_read")) _ _ (two_so k all is_bound bytes_in (number_in 1 greatest_u32)
    call.FsRead words (any bytes_in) a_bound_of_reads (λ x y s t. t))
    (if_named k (bytes_eq word (codes "fs_write")) _ _ (texts k call.FsWrite words (λ x y. refl))
    (if_named k (bytes_eq word (codes "list")) _ _ (two_so k all (nat_le 1) bytes_in (number_in 1 greatest_u32)
    call.List words (any bytes_in) a_bound (λ x y s t. t))
    (if_named k (bytes_eq word (codes "set_stat")) _ _ (three_so k all is_some_long all bytes_in (some_in number_u64)
    (some_in mode_in) call.SetStat words (any bytes_in) a_size (any (some_in mode_in)) (λ x y z s t u. t))
    (if_named k (bytes_eq word (codes "rename")) _ _ (texts k call.Rename words (λ x y. refl))
    (if_named k (bytes_eq word (codes "hard_link")) _ _ (texts k call.HardLink words (λ x y. refl))
    (if_named k (bytes_eq word (codes "symlink")) _ _ (texts k call.Symlink words (λ x y. refl))
    (record { is = tt })))))))

or_named : (k : ℕ) (first second : Option (Result Call Reason)) → Named k first → Named k second
    → Named k (or_else first second)
or_named k None second h more = more
or_named k (Some read) second h more = record { is = h.is }

slots_named : (k : ℕ) (word : List ℕ) (words : List (List ℕ)) → words_len words ≤ k → Named k (slots_call word words)
slots_named k word words le =
    or_named k (slot_call word words) (or_else (number_call word words)
    (or_else (write_call word words) (place_call word words))) (slot_named k word words)
    (or_named k (number_call word words) (or_else (write_call word words) (place_call word words))
    (number_named k word words)
    (or_named k (write_call word words) (place_call word words) (write_named k word words le)
    (place_named k word words)))

-- of words that are no longer than a number together
pub calls_named : (k : ℕ) (word : List ℕ) (words : List (List ℕ)) → words_len words ≤ k → Named k (call_in word words)
calls_named k word words le =
    or_named k (slots_call word words) (or_else (path_call word words) (paths_call word words))
    (slots_named k word words le)
    (or_named k (path_call word words) (paths_call word words) (path_named k word words) (paths_named k word words))
