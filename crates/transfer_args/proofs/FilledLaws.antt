-- Operands that are not empty.
use Rattle.std.proofs.Common.{◌≡◌, ℕ, List, map}
use Rattle.std.specs.List.{list_all}
use Rattle.std.proofs.lemmas.List.Folds.{list_all-map}
use Rattle.transfer_args.specs.Acts.{is_filled}

pub filled_map : {A : Type 0} (f : A → List ℕ) (words : List A)
    → list_all is_filled (map f words) ≡ list_all (λ w. is_filled (f w)) words
filled_map f words = list_all-map is_filled f words
