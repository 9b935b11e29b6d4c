-- Command lines of fewer than two words, and two operands.
use Rattle.std.proofs.Common.{◌≡◌, ◌<◌, ◌≤◌, ℕ, List, [], ◌∷◌, None, length, map, refl, arith, slice_index_or}
use Rattle.transfer_args.specs.Words.{ChoiceWords, asked_by, mirror_at}
use Rattle.transfer_args.specs.declared.asked.Direction.{Direction}

pub too_few : {A : Type 0} (f : A → List ℕ) (words : List A) → length words < 2 → asked_by (map f words) ≡ None
too_few f [] h = refl
too_few f (word ∷ []) h = refl
too_few f (word ∷ next ∷ words) h = absurd (omega (arith, h))

-- Two operands of a mirroring, each by its place.
pub two_trees : {A : Type 0} (f : A → List ℕ) (way : Direction) (c : ChoiceWords) (words : List A) (other : A)
    → 2 ≤ length words → length words < 3
    → mirror_at way c (map f words) ≡ mirror_at way c (
    f (slice_index_or words 0 other)
    ∷ f (slice_index_or words 1 other)
    ∷ []
    )
two_trees f way c [] other least most = absurd (omega (arith, least))
two_trees f way c (from ∷ []) other least most = absurd (omega (arith, least))
two_trees f way c (from ∷ to ∷ []) other least most = refl
two_trees f way c (from ∷ to ∷ another ∷ words) other least most = absurd (omega (arith, most))
