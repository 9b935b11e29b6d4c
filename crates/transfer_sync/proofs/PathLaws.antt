-- Sets of paths, places of paths, and the directory of a path.
use Rattle.std.proofs.Common.{arith, ◌≡◌, ◌||◌, ◌==◌, ℕ, Bool, true, false, List, [], ◌∷◌, ◌++◌, ◌∙◌, Option, Some, map, refl, sym, ap, if◌then◌else◌, cond, ◌+◌, ◌≤◌, suc, length, drop}
use Rattle.std.specs.BTreeMap.{insert_entry}
use Rattle.std.specs.BTreeSet.{insert_key}
use Rattle.std.specs.Cmp.Lexicographic.{slice_cmp}
use Rattle.std.specs.List.{list_any}
use Rattle.std.specs.Map.{lookup}
use Rattle.std.specs.Ordering.{is_eq, match_ordering, nat_cmp}
use Rattle.std.specs.Str.{bytes_eq}
use Rattle.std.specs.declared.cmp.Ordering.{Ordering}
use Rattle.std.specs.declared.cmp.Ordering.TheVariants.{Less, Equal, Greater}
use Rattle.std.proofs.lemmas.Bool.Decides.{nat_tests}
use Rattle.std.proofs.lemmas.List.{length-append}
use Rattle.std.proofs.lemmas.List.Folds.{list_any-append}
use Rattle.std.proofs.lemmas.Map.Text.{is_eq-slice_cmp}
use Rattle.std.proofs.lemmas.Slice.Eq.{bytes_eq-Decides}
use Rattle.transfer_sync.specs.PathMaps.{path_set, place_map}
use Rattle.transfer_sync.specs.Paths.{directory_of}
use Rattle.sftp_model.specs.Paths.{slash}

-- ---- Sets

-- A key that compares equal is the path.
pub has_key : {K : Type 0} (items : K → List ℕ) (path : List ℕ) (keys : List K)
    → list_any (λ k. is_eq (slice_cmp nat_cmp path (items k))) keys ≡ path_set (map items keys) path
has_key items path [] = refl
has_key items path (k ∷ keys) = λ i. is_eq-slice_cmp path (items k) i || has_key items path keys i

or_comm : (a b : Bool) → (a || b) ≡ (b || a)
or_comm true true = refl
or_comm true false = refl
or_comm false true = refl
or_comm false false = refl

or_twice : (a b : Bool) → (a || b) ≡ ((a || b) || a)
or_twice true b = refl
or_twice false true = refl
or_twice false false = refl

or_assoc : (a b c : Bool) → (a || (b || c)) ≡ ((a || b) || c)
or_assoc true b c = refl
or_assoc false b c = refl

-- Another key.
pub key_more : {K : Type 0} (items : K → List ℕ) (other : List ℕ) (k : K) (keys : List K)
    → path_set (map items (insert_key (λ x y. slice_cmp nat_cmp (items x) (items y)) keys k)) other
    ≡ (path_set (map items keys) other || bytes_eq other (items k))
key_more items other k [] = or_comm (bytes_eq other (items k)) false
key_more {K = K} items other k (x ∷ keys) = by_order (slice_cmp nat_cmp (items k) (items x)) refl
    (key_more items other k keys)
  where
    by_order : (o : Ordering) → slice_cmp nat_cmp (items k) (items x) ≡ o
        → path_set (map items (insert_key (λ x y. slice_cmp nat_cmp (items x) (items y)) keys k)) other
        ≡ (path_set (map items keys) other || bytes_eq other (items k))
        → path_set (map items (match_ordering o (k ∷ x ∷ keys) (x ∷ keys)
        (x ∷ insert_key (λ x y. slice_cmp nat_cmp (items x) (items y)) keys k))) other
        ≡ (path_set (map items (x ∷ keys)) other || bytes_eq other (items k))
    by_order Less is more = or_comm (bytes_eq other (items k)) (path_set (map items (x ∷ keys)) other)
    by_order Equal is more =
        let same : items k ≡ items x =
        (bytes_eq-Decides (items k) (items x)).0 (sym (is_eq-slice_cmp (items k) (items x)) ∙ ap is_eq is) in
        or_twice (bytes_eq other (items x)) (path_set (map items keys) other)
        ∙ ap (λ (l : List ℕ). (bytes_eq other (items x) || path_set (map items keys) other) || bytes_eq other l)
        (sym same)
    by_order Greater is more = ap (λ b. bytes_eq other (items x) || b) more
        ∙ or_assoc (bytes_eq other (items x)) (path_set (map items keys) other) (bytes_eq other (items k))

-- ---- Places

pub has_place : {K : Type 0} (items : K → List ℕ) (path : List ℕ) (es : List (K × ℕ))
    → lookup (λ k. is_eq (slice_cmp nat_cmp path (items k))) es ≡ place_map (map (λ e. (items e.0, e.1)) es) path
has_place items path [] = refl
has_place items path (e ∷ es) =
    λ i. cond (is_eq-slice_cmp path (items e.0) i) (Some e.1) (has_place items path es i)

pub place_more : {K : Type 0} (items : K → List ℕ) (other : List ℕ) (k : K) (v : ℕ) (es : List (K × ℕ))
    → place_map (map (λ e. (items e.0, e.1)) (insert_entry (λ x y. slice_cmp nat_cmp (items x) (items y)) es k v)) other
    ≡ (if bytes_eq other (items k) then Some v else place_map (map (λ e. (items e.0, e.1)) es) other)
place_more items other k v [] = refl
place_more {K = K} items other k v (e ∷ es) = by_order (slice_cmp nat_cmp (items k) (items e.0)) refl
    (place_more items other k v es)
  where
    by_tests : (a b : Bool) → a ≡ b
        → cond a (Some v) (place_map (map (λ (e : K × ℕ). (items e.0, e.1)) es) other)
        ≡ (if b then Some v else cond a (Some e.1) (place_map (map (λ (e : K × ℕ). (items e.0, e.1)) es) other))
    by_tests true true is = refl
    by_tests false false is = refl
    by_tests true false is = absurd cc
    by_tests false true is = absurd cc

    distinct_path : (a b : Bool) → bytes_eq other (items e.0) ≡ a → bytes_eq other (items k) ≡ b
        → slice_cmp nat_cmp (items k) (items e.0) ≡ Greater
        → cond a (Some e.1) (if b then Some v else place_map (map (λ (e : K × ℕ). (items e.0, e.1)) es) other)
        ≡ (if b then Some v else cond a (Some e.1) (place_map (map (λ (e : K × ℕ). (items e.0, e.1)) es) other))
    distinct_path true true ha hb is =
        let same : items k ≡ items e.0 =
        sym ((bytes_eq-Decides other (items k)).0 hb) ∙ (bytes_eq-Decides other (items e.0)).0 ha in
        let one : bytes_eq (items k) (items e.0) ≡ true = (bytes_eq-Decides (items k) (items e.0)).1 same in
        let no : false ≡ true = sym (ap is_eq is) ∙ (is_eq-slice_cmp (items k) (items e.0) ∙ one) in absurd cc
    distinct_path true false ha hb is = refl
    distinct_path false true ha hb is = refl
    distinct_path false false ha hb is = refl

    by_order : (o : Ordering) → slice_cmp nat_cmp (items k) (items e.0) ≡ o
        → place_map (map (λ (e : K × ℕ). (items e.0, e.1)) (insert_entry (λ x y. slice_cmp nat_cmp (items x) (items y))
        es k v)) other
        ≡ (if bytes_eq other (items k) then Some v else place_map (map (λ (e : K × ℕ). (items e.0, e.1)) es) other)
        → place_map (map (λ (e : K × ℕ). (items e.0, e.1)) (match_ordering o ((k, v) ∷ e ∷ es) ((e.0, v) ∷ es)
        (e ∷ insert_entry (λ x y. slice_cmp nat_cmp (items x) (items y)) es k v))) other
        ≡ (if bytes_eq other (items k) then Some v else place_map (map (λ (e : K × ℕ). (items e.0, e.1)) (e ∷ es))
        other)
    by_order Less is more = refl
    by_order Equal is more =
        let same : items k ≡ items e.0 =
        (bytes_eq-Decides (items k) (items e.0)).0 (sym (is_eq-slice_cmp (items k) (items e.0)) ∙ ap is_eq is) in
        by_tests (bytes_eq other (items e.0)) (bytes_eq other (items k))
        (ap (λ (l : List ℕ). bytes_eq other l) (sym same))
    by_order Greater is more =
        ap (λ (o : Option ℕ). cond (bytes_eq other (items e.0)) (Some e.1) o) more
        ∙ distinct_path (bytes_eq other (items e.0)) (bytes_eq other (items k)) refl refl is

-- ---- The directory of a path

or_false : (a : Bool) → (a || false) ≡ a
or_false true = refl
or_false false = refl

or_true : (a : Bool) → (a || true) ≡ true
or_true true = refl
or_true false = refl

-- Another byte.
pub directory_more : (xs : List ℕ) (b : ℕ) → directory_of (xs ++ b ∷ []) ≡ (if b == slash then xs else directory_of xs)
directory_more [] b = by_test (b == slash)
  where
    by_test : (t : Bool) → ◌≡◌ {A = List ℕ} [] (if t then [] else [])
    by_test true = refl
    by_test false = refl
directory_more (x ∷ xs) b = by_tests (b == slash) refl (directory_more xs b)
  where
    more : list_any (λ c. c == slash) (xs ++ b ∷ []) ≡ (list_any (λ c. c == slash) xs || (b == slash))
    more = list_any-append (λ c. c == slash) xs (b ∷ []) ∙ ap (λ a. list_any (λ c. c == slash) xs || a)
        (or_false (b == slash))

    by_tests : (t : Bool) → (b == slash) ≡ t → directory_of (xs ++ b ∷ []) ≡ (if t then xs else directory_of xs)
        → directory_of (x ∷ (xs ++ b ∷ [])) ≡ (if t then x ∷ xs else directory_of (x ∷ xs))
    by_tests true is before =
        (λ i. if (more ∙ (ap (λ a. list_any (λ c. c == slash) xs || a) is ∙ or_true (list_any (λ c. c == slash) xs))) i
        then x ∷ before i else [])
    by_tests false is before =
        (λ i. if (more ∙ (ap (λ a. list_any (λ c. c == slash) xs || a) is ∙ or_false (list_any (λ c. c == slash) xs))) i
        then x ∷ before i else [])

pub directory_at_slash : (xs : List ℕ) (b : ℕ) → b ≡ slash → xs ≡ directory_of (xs ++ b ∷ [])
directory_at_slash xs b is =
    let test : (b == slash) ≡ true = ap (λ (c : ℕ). c == slash) is in
    sym (directory_more xs b ∙ ap (λ (t : Bool). if t then xs else directory_of xs) test)

pub directory_at_other : (xs : List ℕ) (b : ℕ) → (b ≡ slash → ⊥) → directory_of xs ≡ directory_of (xs ++ b ∷ [])
directory_at_other xs b isnt =
    let test : (b == slash) ≡ false = grind (arith, nat_tests) in
    sym (directory_more xs b ∙ ap (λ (t : Bool). if t then xs else directory_of xs) test)

-- ---- Look-ups in the map

pub found_place : {K : Type 0} (items : K → List ℕ) (path : List ℕ) (es : List (K × ℕ)) (pairs : List (List ℕ × ℕ))
    (r : Option ℕ)
    → r ≡ lookup (λ k. is_eq (slice_cmp nat_cmp path (items k))) es → map (λ e. (items e.0, e.1)) es ≡ pairs
    → r ≡ place_map pairs path
found_place items path es pairs r is seen = is ∙ (has_place items path es ∙ ap (λ l. place_map l path) seen)

-- ---- The cut of a path

abbrev has_slash : List ℕ → Bool
has_slash path = list_any (λ c. c == slash) path

-- A path with a slash is its directory, a slash and its name.
pub cut_at : (path : List ℕ) → has_slash path ≡ true
    → path ≡ directory_of path ++ slash ∷ drop (length (directory_of path) + 1) path
cut_at [] is = absurd cc
cut_at (b ∷ path) is = by_test (has_slash path) refl (cut_at path)
  where
    here : (t : Bool) → has_slash path ≡ t → t ≡ false → (b == slash) ≡ true
    here t test none = by_first (b == slash) (ap (λ u. (b == slash) || u) (sym (test ∙ none)) ∙ is)
      where
        by_first : (a : Bool) → (a || false) ≡ true → a ≡ true
        by_first true e = refl
        by_first false e = e

    by_test : (t : Bool) → has_slash path ≡ t
        → (has_slash path ≡ true → path ≡ directory_of path ++ slash ∷ drop (length (directory_of path) + 1) path)
        → b ∷ path ≡ (if t then b ∷ directory_of path else [])
        ++ slash ∷ drop (length (if t then b ∷ directory_of path else []) + 1) (b ∷ path)
    by_test true test below =
        let len : length (b ∷ directory_of path) + 1 ≡ suc (length (directory_of path) + 1) = omega arith in
        ap (λ (l : List ℕ). b ∷ l) (below test)
        ∙ ap (λ (n : ℕ). (b ∷ directory_of path) ++ slash ∷ drop n (b ∷ path)) (sym len)
    by_test false test below =
        let at : (b == slash) ≡ true = here false test refl in
        let same : b ≡ slash = grind (arith, nat_tests) in
        ap (λ (c : ℕ). c ∷ path) same

-- A directory that is not the root is before a slash.
pub slashed : (path : List ℕ) → (length (directory_of path) == 0) ≡ false → has_slash path ≡ true
slashed [] is = absurd cc
slashed (b ∷ path) is = by_test (has_slash path) refl is
  where
    by_test : (t : Bool) → has_slash path ≡ t → (length (if t then b ∷ directory_of path else []) == 0) ≡ false
        → ((b == slash) || has_slash path) ≡ true
    by_test true test is = ap (λ u. (b == slash) || u) test ∙ or_true (b == slash)
      where
        or_true : (a : Bool) → (a || true) ≡ true
        or_true true = refl
        or_true false = refl
    by_test false test is = absurd cc

-- The name begins within the path.
pub name_within : (path : List ℕ) → (length (directory_of path) == 0) ≡ false
    → length (directory_of path) + 1 ≤ length path
name_within path is =
    let cut : path ≡ directory_of path ++ slash ∷ drop (length (directory_of path) + 1) path =
    cut_at path (slashed path is) in
    let whole : length path ≡ length (directory_of path) + length (slash ∷ drop (length (directory_of path) + 1) path) =
    ap (λ (l : List ℕ). length l) cut
    ∙ length-append (directory_of path) (slash ∷ drop (length (directory_of path) + 1) path) in
    omega (arith, whole)
