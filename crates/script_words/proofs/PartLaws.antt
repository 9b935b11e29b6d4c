-- Words that are parts, one after another.
use Rattle.std.proofs.Common.{◌≡◌, ◌≢◌, ◌<◌, ◌∷◌, ◌++◌, [], ℕ, List, length, refl, sym, arith}
use Rattle.std.specs.Prelude.{Result, Ok, Err}
use Rattle.ssh_encoding.specs.Reading.{◌>>=◌}
use Rattle.script_words.specs.declared.reason.Reason.{Reason}
use Rattle.script_words.specs.declared.reason.Reason.TheVariants as reason
use Rattle.script_words.specs.Lines.{bytes_in}
use Rattle.script_words.specs.Fields.{each_in, parts_in, slot_in}
use Rattle.script_words.specs.declared.error.LineError.{LineError}
use Rattle.script_words.specs.declared.error.LineError.TheVariants as line
use Rattle.script_words.specs.Refusals.{RefusesLine}

-- ---- each word

-- what is read behind what was read before
abbrev pub behind_these : {A : Type 0} → List A → Result (List A) Reason → Result (List A) Reason
behind_these front read = read >>= λ later. Ok (front ++ later)

-- ---- a slot and parts

pub too_few : (words : List (List ℕ)) → length words < 2 → parts_in words ≡ Err reason.Count
too_few [] few = refl
too_few (a ∷ []) few = refl
too_few (a ∷ b ∷ words) few = absurd (omega (arith, few))

by_slot : (words more : List (List ℕ)) (a : List ℕ) → words ≡ a ∷ more → more ≢ [] → parts_in words
    ≡ (slot_in a >>= λ slot. each_in bytes_in more >>= λ parts. Ok (slot, parts))
by_slot words [] a is some = absurd (some refl)
by_slot words (b ∷ more) a is some = rw is refl

pub slot_refused : (words more : List (List ℕ)) (a : List ℕ) (why : Reason) → words ≡ a ∷ more → more ≢ [] → Err why
    ≡ slot_in a → parts_in words ≡ Err why
slot_refused words more a why is some refused = rw (by_slot words more a is some, sym refused) refl

pub parts_refused : (words more : List (List ℕ)) (a : List ℕ) (n : ℕ) (e : LineError) → words ≡ a ∷ more → more ≢ []
    → Ok n ≡ slot_in a → RefusesLine (each_in bytes_in more) e → RefusesLine (parts_in words) e
parts_refused words more a n line.OutOfMemory is some ok refused = tt
parts_refused words more a n (line.Refused why) is some ok refused =
    rw (by_slot words more a is some, sym ok, refused) refl

pub parts_read : (words more : List (List ℕ)) (a : List ℕ) (n : ℕ) (parts : List (List ℕ)) → words ≡ a ∷ more
    → more ≢ [] → Ok n ≡ slot_in a → each_in bytes_in more ≡ Ok parts → parts_in words ≡ Ok (n, parts)
parts_read words more a n parts is some ok read = rw (by_slot words more a is some, sym ok, read) refl
