-- A name by its number among those of its kind.
use Rattle.std.proofs.Common.{◌≡◌, ℕ, zero, suc, ◌-◌, ◌==◌, Bool, true, false, List, [], ◌∷◌, Option, Some, if◌then◌else◌, refl, ap, sym, ◌∙◌, arith}
use Rattle.std.specs.Prelude.{filter, slice_get}
use Rattle.std.specs.Option.{option_map}
use Rattle.std.proofs.lemmas.Bool.Decides.{nat_tests}
use Rattle.machine_model.specs.Components.{Name, text_of_name}
use Rattle.machine_model.specs.declared.node.Node.{Node}
use Rattle.machine_model.specs.FileTree.{FileTree}
use Rattle.machine_model.specs.Listing.{in_name_order, node_bytes, file_at, dir_at}
use Rattle.machine_tree.specs.Places.{is_of_kind, nth_of_kind}

get_first : {X : Type 0} (x : X) (xs : List X) (k : ℕ) → slice_get (x ∷ xs) k
    ≡ (if k == 0 then Some x else slice_get xs (k - 1))
get_first x xs zero = refl
get_first x xs (suc k) = let other : (suc k == 0) ≡ false = grind (arith, nat_tests) in
    rw other (ap (slice_get xs) (let e : k ≡ suc k - 1 = omega arith in e))

nth_filtered : (files : Bool) (pairs : List (Name × Node)) (k : ℕ) → nth_of_kind files pairs k
    ≡ slice_get (filter (λ pair. is_of_kind files pair.1) pairs) k
nth_filtered files [] k = refl
nth_filtered files (pair ∷ pairs) k = by_test (is_of_kind files pair.1) (nth_filtered files pairs)
  where
    of_kind : List (Name × Node)
    of_kind = filter (λ pair. is_of_kind files pair.1) pairs

    by_test : (b : Bool) → ((n : ℕ) → nth_of_kind files pairs n ≡ slice_get of_kind n)
        → (if b then (if k == 0 then Some pair else nth_of_kind files pairs (k - 1)) else nth_of_kind files pairs k)
        ≡ slice_get (if b then pair ∷ of_kind else of_kind) k
    by_test true more = ap (λ (w : Option (Name × Node)). if k == 0 then Some pair else w) (more (k - 1))
        ∙ sym (get_first pair of_kind k)
    by_test false more = more k

pub file_found : (tree : FileTree) (pairs : List (Name × Node)) (k : ℕ) (found : Option (Name × Node)) → pairs
    ≡ in_name_order tree.names
    → found ≡ nth_of_kind true pairs k → option_map (λ pair. (text_of_name pair.0, node_bytes tree pair.1)) found
    ≡ file_at tree k
file_found tree pairs k found same is =
    ap (option_map (λ pair. (text_of_name pair.0, node_bytes tree pair.1)))
    (is ∙ (nth_filtered true pairs k ∙ ap (λ (w : List (Name × Node)). slice_get
    (filter (λ pair. is_of_kind true pair.1) w) k) same))

pub dir_found : (tree : FileTree) (pairs : List (Name × Node)) (k : ℕ) (found : Option (Name × Node)) → pairs
    ≡ in_name_order tree.names
    → found ≡ nth_of_kind false pairs k → option_map (λ pair. text_of_name pair.0) found ≡ dir_at tree k
dir_found tree pairs k found same is =
    ap (option_map (λ pair. text_of_name pair.0))
    (is ∙ (nth_filtered false pairs k ∙ ap (λ (w : List (Name × Node)). slice_get
    (filter (λ pair. is_of_kind false pair.1) w) k) same))
