-- Sets of paths.
use Rattle.std.proofs.Common.{◌≡◌, ◌||◌, ℕ, Bool, true, false, List, [], ◌∷◌, ◌∙◌, map, refl, sym, ap}
use Rattle.std.specs.BTreeSet.{insert_key}
use Rattle.std.specs.Cmp.Lexicographic.{slice_cmp}
use Rattle.std.specs.List.{list_any}
use Rattle.std.specs.Ordering.{is_eq, match_ordering, nat_cmp}
use Rattle.std.specs.Str.{bytes_eq}
use Rattle.std.specs.declared.cmp.Ordering.{Ordering}
use Rattle.std.specs.declared.cmp.Ordering.TheVariants.{Less, Equal, Greater}
use Rattle.std.proofs.lemmas.Map.Text.{is_eq-slice_cmp}
use Rattle.std.proofs.lemmas.Slice.Eq.{bytes_eq-Decides}
use Rattle.transfer_plan.specs.Apart.{has_path}

-- a key that compares equal is the path
pub has_key : {K : Type 0} (items : K → List ℕ) (path : List ℕ) (keys : List K)
    → list_any (λ k. is_eq (slice_cmp nat_cmp path (items k))) keys ≡ has_path (map items keys) path
has_key items path [] = refl
has_key items path (k ∷ keys) = λ i. is_eq-slice_cmp path (items k) i || has_key items path keys i

or_comm : (a b : Bool) → (a || b) ≡ (b || a)
or_comm true true = refl
or_comm true false = refl
or_comm false true = refl
or_comm false false = refl

or_twice : (a b : Bool) → (a || b) ≡ ((a || b) || a)
or_twice true b = refl
or_twice false true = refl
or_twice false false = refl

or_assoc : (a b c : Bool) → (a || (b || c)) ≡ ((a || b) || c)
or_assoc true b c = refl
or_assoc false b c = refl

-- one key more
pub key_more : {K : Type 0} (items : K → List ℕ) (other : List ℕ) (k : K) (keys : List K)
    → has_path (map items (insert_key (λ x y. slice_cmp nat_cmp (items x) (items y)) keys k)) other
    ≡ (has_path (map items keys) other || bytes_eq other (items k))
key_more items other k [] = or_comm (bytes_eq other (items k)) false
key_more {K = K} items other k (x ∷ keys) = by_order (slice_cmp nat_cmp (items k) (items x)) refl
    (key_more items other k keys)
  where
    by_order : (o : Ordering) → slice_cmp nat_cmp (items k) (items x) ≡ o
        → has_path (map items (insert_key (λ x y. slice_cmp nat_cmp (items x) (items y)) keys k)) other
        ≡ (has_path (map items keys) other || bytes_eq other (items k))
        → has_path (map items (match_ordering o (k ∷ x ∷ keys) (x ∷ keys)
        (x ∷ insert_key (λ x y. slice_cmp nat_cmp (items x) (items y)) keys k))) other
        ≡ (has_path (map items (x ∷ keys)) other || bytes_eq other (items k))
    by_order Less is more = or_comm (bytes_eq other (items k)) (has_path (map items (x ∷ keys)) other)
    by_order Equal is more =
        let same : items k ≡ items x =
        (bytes_eq-Decides (items k) (items x)).0 (sym (is_eq-slice_cmp (items k) (items x)) ∙ ap is_eq is) in
        or_twice (bytes_eq other (items x)) (has_path (map items keys) other)
        ∙ ap (λ (l : List ℕ). (bytes_eq other (items x) || has_path (map items keys) other) || bytes_eq other l)
        (sym same)
    by_order Greater is more = ap (λ b. bytes_eq other (items x) || b) more
        ∙ or_assoc (bytes_eq other (items x)) (has_path (map items keys) other) (bytes_eq other (items k))
