-- Lists in which each name stands once.
use Rattle.std.proofs.Common.{◌≡◌, Bool, true, false, List, [], ◌∷◌, ◌++◌, Option, Some, None, if◌then◌else◌, refl, ap, sym, ◌∙◌, subst, inl, inr}
use Rattle.std.specs.Prelude.{◌⊎◌, map}
use Rattle.machine_model.proofs.NameLaws.{names_tell}
use Rattle.machine_model.proofs.PairLaws.{found_has, has_moved, has_push, has_without}
use Rattle.machine_model.specs.Components.{Name, same_name}
use Rattle.machine_model.specs.FileTree.{value_at_key, without_key}
use Rattle.machine_model.specs.Pairs.{HasEntry}
use Rattle.machine_model.specs.Trees.{StandOnce}
use Rattle.machine_model.specs.declared.node.Node.{Node}

pub none_has : (names : List (Name × Node)) (name : Name) (n : Node) → value_at_key same_name names name ≡ None
    → HasEntry names (name, n) → ⊥
none_has [] name n e h = h
none_has (p ∷ names) name n e h = by_test (same_name p.0 name) refl e h (none_has names name n)
  where
    by_test : (b : Bool) → same_name p.0 name ≡ b → (if b then Some p.1 else value_at_key same_name names name) ≡ None
        → (let q : Name × Node = (name, n) in p ≡ q) ⊎ HasEntry names (name, n)
        → (value_at_key same_name names name ≡ None → HasEntry names (name, n) → ⊥) → ⊥
    by_test true is x w more = absurd cc
    by_test false is x (inl w) more = let same : same_name p.0 name ≡ true =
        (names_tell p.0 name).1 (ap (λ (q : Name × Node). q.0) w) in
        absurd (let both : true ≡ false = sym same ∙ is in cc)
    by_test false is x (inr w) more = more x w

pub has_none : (names : List (Name × Node)) (name : Name) → ((n : Node) → HasEntry names (name, n) → ⊥)
    → value_at_key same_name names name ≡ None
has_none names name h = by_value (value_at_key same_name names name) refl
  where
    by_value : (o : Option Node) → value_at_key same_name names name ≡ o → o ≡ None
    by_value None e = refl
    by_value (Some n) e = absurd (h n (found_has same_name names_tell names name n e))

pub has_found : (names : List (Name × Node)) (name : Name) (n : Node) → StandOnce names → HasEntry names (name, n)
    → value_at_key same_name names name ≡ Some n
has_found [] name n once h = absurd h
has_found (p ∷ names) name n once (inl e) =
    let same : same_name p.0 name ≡ true = (names_tell p.0 name).1 (ap (λ (q : Name × Node). q.0) e) in
    rw same (ap (λ (q : Name × Node). Some q.1) e)
has_found (p ∷ names) name n once (inr h) = by_test (same_name p.0 name) refl (has_found names name n once.1 h)
  where
    by_test : (b : Bool) → same_name p.0 name ≡ b → value_at_key same_name names name ≡ Some n
        → (if b then Some p.1 else value_at_key same_name names name) ≡ Some n
    by_test true is more = absurd (none_has names name n (subst (λ (w : Name). value_at_key same_name names w ≡ None)
        ((names_tell p.0 name).0 is) once.0) h)
    by_test false is more = more

-- ---- after each change

pub push_once : (names : List (Name × Node)) (name : Name) (n : Node) → StandOnce names
    → value_at_key same_name names name
    ≡ None → StandOnce (names ++ (name, n) ∷ [])
push_once [] name n once e = (refl, tt)
push_once (p ∷ names) name n once e = (
  has_none (names ++ (name, n) ∷ []) p.0 (λ k has. elim (has_push names (name, n) (p.0, k) has) [
    | inl old ↦ none_has names p.0 k once.0 old
    | inr new ↦ none_has (p ∷ names) name p.1 e (inl (let same : p.0 ≡ name = ap (λ (q : Name × Node). q.0) (sym new) in
        λ i. (same i, p.1)))
  ]),
  push_once names name n once.1 (later (same_name p.0 name) e),
)
  where
    later : (b : Bool) → (if b then Some p.1 else value_at_key same_name names name) ≡ None
        → value_at_key same_name names name ≡ None
    later true x = absurd cc
    later false x = x

pub without_once : (names : List (Name × Node)) (gone : Name) → StandOnce names
    → StandOnce (without_key same_name names gone)
without_once [] gone once = once
without_once (p ∷ names) gone once = by_test (same_name p.0 gone) (without_once names gone once.1)
  where
    by_test : (b : Bool) → StandOnce (without_key same_name names gone)
        → StandOnce (if b then names else p ∷ without_key same_name names gone)
    by_test true more = once.1
    by_test false more = (
      has_none (without_key same_name names gone) p.0
          (λ k has. none_has names p.0 k once.0 (has_without same_name names gone (p.0, k) has)),
      more,
    )

pub without_none : (names : List (Name × Node)) (gone : Name) → StandOnce names
    → value_at_key same_name (without_key same_name names gone) gone ≡ None
without_none [] gone once = refl
without_none (p ∷ names) gone once = by_test (same_name p.0 gone) refl (without_none names gone once.1)
  where
    by_test : (b : Bool) → same_name p.0 gone ≡ b → value_at_key same_name (without_key same_name names gone) gone
        ≡ None
        → value_at_key same_name (if b then names else p ∷ without_key same_name names gone) gone ≡ None
    by_test true is more = subst (λ (w : Name). value_at_key same_name names w ≡ None) ((names_tell p.0 gone).0 is)
        once.0
    by_test false is more = rw is more

-- names that become different ones
pub map_once : (f : Name → Name) (names : List (Name × Node))
    → ((a b : Name) (v w : Node) → HasEntry names (a, v) → HasEntry names (b, w) → f a ≡ f b → a ≡ b) → StandOnce names
    → StandOnce (map (λ pair. (f pair.0, pair.1)) names)
map_once f [] h once = once
map_once f (p ∷ names) h once = (
  has_none (map (λ pair. (f pair.0, pair.1)) names) (f p.0) (λ k has.
      let old = has_moved f names (f p.0, k) has in
      let same : old.0 ≡ p.0 = h old.0 p.0 k p.1 (inr old.1.1) (inl refl) old.1.0 in
      none_has names p.0 k once.0 (subst (λ (w : Name). HasEntry names (w, k)) same old.1.1)),
  map_once f names (λ a b v w x y. h a b v w (inr x) (inr y)) once.1,
)
