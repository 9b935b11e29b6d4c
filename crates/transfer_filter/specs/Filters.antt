-- Which entries a filter leaves out.
use Rattle.std.specs.Prelude.{
  ◌≡◌,
  ℕ,
  Bool,
  true,
  false,
  List,
  [],
  ◌∷◌,
  ◌++◌,
  Result,
  Ok,
  Err,
  if◌then◌else◌,
}
use Rattle.transfer_filter.specs.Matches.{matches_entry}
use Rattle.transfer_filter.specs.Patterns.{is_pattern}
use Rattle.transfer_filter.specs.declared.effect.Effect.{Effect}
use Rattle.transfer_filter.specs.declared.effect.Effect.TheVariants.{Exclude, Include}
use Rattle.transfer_filter.specs.declared.filter_error.FilterError.{FilterError}
use Rattle.transfer_filter.specs.declared.filter_error.FilterError.TheVariants.{BadPattern, OutOfMemory}

-- True if a rule leaves out the entries that its pattern matches.
abbrev pub is_exclude : Effect → Bool
is_exclude Exclude = true
is_exclude Include = false

-- The first rule whose pattern matches an entry says whether it is left out. If there is none, it is not.
abbrev pub leaves_out : List (Effect × List ℕ) → List ℕ → Bool → Bool
leaves_out [] path is_directory = false
leaves_out ((effect, pattern) ∷ rules) path is_directory =
    if matches_entry pattern path is_directory then is_exclude effect else leaves_out rules path is_directory

-- A rule is added after the others. After an error nothing has changed.
abbrev pub AddsRule : {U : Type 0} → Effect → List ℕ → List (Effect × List ℕ) → List (Effect × List ℕ)
    → Result U FilterError
    → Type 0
AddsRule effect pattern old new (Ok done) = (is_pattern pattern ≡ true) × (new ≡ old ++ (effect, pattern) ∷ [])
AddsRule effect pattern old new (Err BadPattern) = (is_pattern pattern ≡ false) × (new ≡ old)
AddsRule effect pattern old new (Err OutOfMemory) = (is_pattern pattern ≡ true) × (new ≡ old)
