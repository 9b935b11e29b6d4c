-- What was read of a source is what there was.
use Rattle.std.proofs.Common.{◌≡◌, ◌<◌, ◌≤◌, ◌⊎◌, inl, inr, ℕ, ◌+◌, Bool, true, false, List, ◌++◌, length, refl, ap, sym, ◌∙◌, arith, append-nil, length-append}
use Rattle.std.specs.Prelude.{nat_lt, Option, Some, None, Ok, Err}
use Rattle.std.proofs.lemmas.Bool.Decides.{nat_tests}
use Rattle.script_words.specs.declared.reason.Reason.TheVariants as reason
use Rattle.script_grammar.specs.Scripts.{MAX_SCRIPT_LEN}
use Rattle.sftp_link.specs.Told.{IfLogged, ReadUpTo}
use Rattle.sftp_link.specs.Views.{SourceView}
pub use Rattle.program_shell.specs.Ended.{RefusesLong}
use Rattle.program_shell.specs.Ended.{GaveInput, GaveAll, GaveValue, ReadAs, read_limit}

too_long : (m n : ℕ) → m < n → nat_lt m n ≡ true
too_long m n h = grind (arith, nat_tests)

by_test : (m n : ℕ) (b : Bool) → nat_lt m n ≡ b → (m < n) ⊎ (n ≤ m)
by_test m n true e = inl (grind (arith, nat_tests))
by_test m n false e = inr (grind (arith, nat_tests))

less_or_not : (m n : ℕ) → (m < n) ⊎ (n ≤ m)
less_or_not m n = by_test m n (nat_lt m n) refl

of_size : {T : Type 0} (read : List ℕ → ReadAs T) (bytes : List ℕ) → RefusesLong read → MAX_SCRIPT_LEN < length bytes
    → read bytes ≡ Err (0, reason.Size)
of_size read bytes long h = long bytes (too_long MAX_SCRIPT_LEN (length bytes) h)

-- a value is not so long as the limit
value_short : {T : Type 0} (read : List ℕ → ReadAs T) (bytes : List ℕ) (value : T) → RefusesLong read
    → read bytes ≡ Ok value → length bytes < read_limit
value_short read bytes value long e =
    elim (less_or_not MAX_SCRIPT_LEN (length bytes)) [
      | inl lt ↦ absurd (let both : Err (0, reason.Size) ≡ Ok value = sym (of_size read bytes long lt) ∙ e in cc)
      | inr le ↦ omega (arith, le)
    ]

-- all that was left
all_left : (bytes had now : List ℕ) → ReadUpTo read_limit bytes had now → length bytes < read_limit
    → GaveAll bytes had now
all_left bytes had now r lt = let none = r.1 lt in (r.0 ∙ ap (λ (l : List ℕ). bytes ++ l) none ∙ append-nil bytes, none)

-- what was read is a value exactly where all that there was is it
pub read_is : {T : Type 0} (read : List ℕ → ReadAs T) (bytes had now : List ℕ) → RefusesLong read
    → ReadUpTo read_limit bytes had now → read had ≡ read bytes
read_is read bytes had now long r =
    elim (less_or_not (length bytes) read_limit) [
      | inl lt ↦ ap read (all_left bytes had now r lt).0
      | inr le ↦
          let all : length had ≡ length bytes + length now = ap (λ (l : List ℕ). length l) r.0 ∙ length-append bytes now
          in
          of_size read had long (omega (arith, le, all)) ∙ sym (of_size read bytes long (omega (arith, le)))
    ]

gave_all : {T : Type 0} (read : List ℕ → ReadAs T) (bytes : List ℕ) (value : T) (left left_now : Option (List ℕ))
    → RefusesLong read → read bytes ≡ Ok value → IfLogged (ReadUpTo read_limit bytes) left left_now
    → IfLogged (GaveAll bytes) left left_now
gave_all read bytes value None left_now long e t = tt
gave_all read bytes value (Some had) None long e t = t
gave_all read bytes value (Some had) (Some now) long e t =
    all_left bytes had now t (value_short read bytes value long e)

-- what was read is what the source gave
gave_by : {T : Type 0} (read : List ℕ → ReadAs T) (r : ReadAs T) (bytes : List ℕ) (before now : SourceView)
    → RefusesLong read → read bytes ≡ r → IfLogged (ReadUpTo read_limit bytes) before.left now.left
    → GaveInput r bytes before now
gave_by read (Ok value) bytes before now long e t = gave_all read bytes value before.left now.left long e t
gave_by read (Err why) bytes before now long e t = t

pub gave : {T : Type 0} (read : List ℕ → ReadAs T) (bytes : List ℕ) (before now : SourceView) → RefusesLong read
    → IfLogged (ReadUpTo read_limit bytes) before.left now.left → GaveInput (read bytes) bytes before now
gave read bytes before now long t = gave_by read (read bytes) bytes before now long refl t

-- a source that gave a value was read to its end
pub gave_value : {T : Type 0} (read : List ℕ → ReadAs T) (bytes : List ℕ) (value : T) (before now : SourceView)
    → RefusesLong read → read bytes ≡ Ok value → IfLogged (ReadUpTo read_limit bytes) before.left now.left
    → GaveValue read value before now
gave_value read bytes value before now long e t =
    record { bytes = bytes; gave = gave_all read bytes value before.left now.left long e t; reads = e }
