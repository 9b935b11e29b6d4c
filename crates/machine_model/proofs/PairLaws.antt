-- What is found in a list of pairs, and what its pairs are, after each change.
use Rattle.std.proofs.Common.{◌≡◌, ◌≢◌, Bool, true, false, List, [], ◌∷◌, ◌++◌, Some, None, if◌then◌else◌, refl, ap, sym, ◌∙◌, inl, inr}
use Rattle.std.specs.Prelude.{Decides, ◌⊎◌, map, ◌||◌}
use Rattle.std.specs.List.{list_any}
use Rattle.std.proofs.lemmas.Bool.{false_from_ne_true}
use Rattle.machine_model.specs.Pairs.{HasEntry}
use Rattle.machine_model.specs.FileTree.{value_at_key, with_value_at, without_key}

-- the test tells whether two keys are the same
abbrev pub Tells : {K : Type 0} → (K → K → Bool) → Type 0
Tells {K} same = (a b : K) → Decides (same a b) (a ≡ b)

pub differs : {K : Type 0} (same : K → K → Bool) (tells : Tells same) (a b : K) → a ≢ b → same a b ≡ false
differs same tells a b ne = false_from_ne_true (same a b) (λ t. ne ((tells a b).0 t))

-- ---- what is found

pub found_push_other : {K V : Type 0} (same : K → K → Bool) (pairs : List (K × V)) (new key : K) (v : V) → same new key
    ≡ false → value_at_key same (pairs ++ (new, v) ∷ []) key ≡ value_at_key same pairs key
found_push_other same [] new key v e = rw e refl
found_push_other same (p ∷ pairs) new key v e = rw (found_push_other same pairs new key v e) refl

pub found_push_here : {K V : Type 0} (same : K → K → Bool) (pairs : List (K × V)) (key : K) (v : V) → same key key
    ≡ true → value_at_key same pairs key ≡ None → value_at_key same (pairs ++ (key, v) ∷ []) key ≡ Some v
found_push_here same [] key v e none = rw e refl
found_push_here same (p ∷ pairs) key v e none = by_test (same p.0 key) none (λ x. found_push_here same pairs key v e x)
  where
    by_test : (b : Bool) → (if b then Some p.1 else value_at_key same pairs key) ≡ None
        → (value_at_key same pairs key ≡ None → value_at_key same (pairs ++ (key, v) ∷ []) key ≡ Some v)
        → (if b then Some p.1 else value_at_key same (pairs ++ (key, v) ∷ []) key) ≡ Some v
    by_test true x more = absurd cc
    by_test false x more = more x

pub found_push_old : {K V : Type 0} (same : K → K → Bool) (pairs : List (K × V)) (new : K × V) (key : K) (v : V)
    → value_at_key same pairs key ≡ Some v → value_at_key same (pairs ++ new ∷ []) key ≡ Some v
found_push_old same [] new key v e = absurd cc
found_push_old same (p ∷ pairs) new key v e = by_test (same p.0 key) e (λ x. found_push_old same pairs new key v x)
  where
    by_test : (b : Bool) → (if b then Some p.1 else value_at_key same pairs key) ≡ Some v
        → (value_at_key same pairs key ≡ Some v → value_at_key same (pairs ++ new ∷ []) key ≡ Some v)
        → (if b then Some p.1 else value_at_key same (pairs ++ new ∷ []) key) ≡ Some v
    by_test true x more = x
    by_test false x more = more x

pub found_without_other : {K V : Type 0} (same : K → K → Bool) (tells : Tells same) (pairs : List (K × V))
    (gone key : K) → gone ≢ key → value_at_key same (without_key same pairs gone) key ≡ value_at_key same pairs key
found_without_other same tells [] gone key ne = refl
found_without_other {K} {V} same tells (p ∷ pairs) gone key ne =
    by_test (same p.0 gone) refl (found_without_other same tells pairs gone key ne)
  where
    by_test : (b : Bool) → same p.0 gone ≡ b → value_at_key same (without_key same pairs gone) key
        ≡ value_at_key same pairs key
        → value_at_key same (if b then pairs else p ∷ without_key same pairs gone) key
        ≡ (if same p.0 key then Some p.1 else value_at_key same pairs key)
    by_test true is more = rw (differs same tells p.0 key (λ e. ne (sym ((tells p.0 gone).0 is) ∙ e))) refl
    by_test false is more = rw more refl

pub found_replaced_other : {K V : Type 0} (same : K → K → Bool) (tells : Tells same) (pairs : List (K × V)) (at key : K)
    (v : V) → at ≢ key → value_at_key same (with_value_at same pairs at v) key ≡ value_at_key same pairs key
found_replaced_other same tells [] at key v ne = refl
found_replaced_other {K} {V} same tells (p ∷ pairs) at key v ne =
    by_test (same p.0 at) refl (found_replaced_other same tells pairs at key v ne)
  where
    by_test : (b : Bool) → same p.0 at ≡ b → value_at_key same (with_value_at same pairs at v) key
        ≡ value_at_key same pairs key
        → value_at_key same (if b then (at, v) ∷ pairs else p ∷ with_value_at same pairs at v) key
        ≡ (if same p.0 key then Some p.1 else value_at_key same pairs key)
    by_test true is more = rw (
      differs same tells p.0 key (λ e. ne (sym ((tells p.0 at).0 is) ∙ e)),
      differs same tells at key ne,
    ) refl
    by_test false is more = rw more refl

-- each key becomes another one, and as many are the same as the key
pub found_moved : {K V : Type 0} (same : K → K → Bool) (f : K → K) (pairs : List (K × V)) (key : K)
    → ((k : K) → same (f k) key ≡ same k key) → value_at_key same (map (λ pair. (f pair.0, pair.1)) pairs) key
    ≡ value_at_key same pairs key
found_moved same f [] key h = refl
found_moved same f (p ∷ pairs) key h = rw (h p.0, found_moved same f pairs key h) refl

-- ---- the pairs

pub found_has : {K V : Type 0} (same : K → K → Bool) (tells : Tells same) (pairs : List (K × V)) (key : K) (v : V)
    → value_at_key same pairs key ≡ Some v → HasEntry pairs (key, v)
found_has same tells [] key v e = absurd cc
found_has {K} {V} same tells (p ∷ pairs) key v e = by_test (same p.0 key) refl e
    (λ x. found_has same tells pairs key v x)
  where
    by_test : (b : Bool) → same p.0 key ≡ b → (if b then Some p.1 else value_at_key same pairs key) ≡ Some v
        → (value_at_key same pairs key ≡ Some v → HasEntry pairs (key, v)) → (let q : K × V = (key, v) in p ≡ q)
        ⊎ HasEntry pairs (key, v)
    by_test true is x more = inl (let k : p.0 ≡ key = (tells p.0 key).0 is in let w : p.1 ≡ v = cc in λ i. (k i, w i))
    by_test false is x more = inr (more x)

pub has_push : {X : Type 0} (xs : List X) (new x : X) → HasEntry (xs ++ new ∷ []) x → HasEntry xs x ⊎ (new ≡ x)
has_push [] new x (inl e) = inr e
has_push [] new x (inr h) = absurd h
has_push (y ∷ xs) new x (inl e) = inl (inl e)
has_push (y ∷ xs) new x (inr h) = elim (has_push xs new x h) [ inl old ↦ inl (inr old) | inr e ↦ inr e ]

pub has_without : {K V : Type 0} (same : K → K → Bool) (pairs : List (K × V)) (gone : K) (x : K × V)
    → HasEntry (without_key same pairs gone) x → HasEntry pairs x
has_without same [] gone x h = h
has_without {K} {V} same (p ∷ pairs) gone x h = by_test (same p.0 gone) h (λ w. has_without same pairs gone x w)
  where
    by_test : (b : Bool) → HasEntry (if b then pairs else p ∷ without_key same pairs gone) x
        → (HasEntry (without_key same pairs gone) x → HasEntry pairs x) → (p ≡ x) ⊎ HasEntry pairs x
    by_test true w more = inr w
    by_test false (inl e) more = inl e
    by_test false (inr w) more = inr (more w)

pub has_replaced : {K V : Type 0} (same : K → K → Bool) (pairs : List (K × V)) (at : K) (v : V) (x : K × V)
    → HasEntry (with_value_at same pairs at v) x → HasEntry pairs x ⊎ (x.1 ≡ v)
has_replaced same [] at v x h = absurd h
has_replaced {K} {V} same (p ∷ pairs) at v x h = by_test (same p.0 at) h (λ w. has_replaced same pairs at v x w)
  where
    by_test : (b : Bool) → HasEntry (if b then (at, v) ∷ pairs else p ∷ with_value_at same pairs at v) x
        → (HasEntry (with_value_at same pairs at v) x → HasEntry pairs x ⊎ (x.1 ≡ v)) → ((p ≡ x) ⊎ HasEntry pairs x)
        ⊎ (x.1 ≡ v)
    by_test true (inl e) more = inr (ap (λ (w : K × V). w.1) (sym e))
    by_test true (inr w) more = inl (inr w)
    by_test false (inl e) more = inl (inl e)
    by_test false (inr w) more = elim (more w) [ inl old ↦ inl (inr old) | inr e ↦ inr e ]

-- what stands among moved pairs stood under another key
pub has_moved : {K V : Type 0} (f : K → K) (pairs : List (K × V)) (x : K × V)
    → HasEntry (map (λ pair. (f pair.0, pair.1)) pairs) x → (k : K) × ((f k ≡ x.0) × HasEntry pairs (k, x.1))
has_moved f [] x h = absurd h
has_moved {K} {V} f (p ∷ pairs) x (inl e) = (
  p.0,
  (
    ap (λ (w : K × V). w.0) e,
    inl (let v : p.1 ≡ x.1 = ap (λ (w : K × V). w.1) e in λ i. (p.0, v i)),
  ),
)
has_moved f (p ∷ pairs) x (inr h) = let old = has_moved f pairs x h in (old.0, (old.1.0, inr old.1.1))

-- a pair of the list passes a test of values
pub has_any : {K V : Type 0} (test : V → Bool) (pairs : List (K × V)) (key : K) (v : V) → HasEntry pairs (key, v)
    → test v
    ≡ true → list_any (λ pair. test pair.1) pairs ≡ true
has_any test [] key v h t = absurd h
has_any {K} {V} test (p ∷ pairs) key v (inl e) t = rw (ap (λ (w : K × V). test w.1) e, t) refl
has_any {K} {V} test (p ∷ pairs) key v (inr h) t = or_right (test p.1) _ (has_any test pairs key v h t)
  where
    or_right : (a b : Bool) → b ≡ true → (a || b) ≡ true
    or_right true b e = refl
    or_right false b e = e
