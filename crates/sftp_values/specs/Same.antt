-- Laws of equality tests: a test of parts decides the equality of the whole.
use Rattle.std.specs.Prelude.{ℕ, List, ◌≡◌, ◌==◌, Bool, true, false, ◌&&◌, Option, Some, None, refl}
use Rattle.std.specs.Bool.{Decides}
use Rattle.std.specs.Option.{option_eq}
use Rattle.std.specs.Cmp.Lexicographic.{pointwise}
use Rattle.std.proofs.lemmas.Bool.Decides.{Decides-eqb}
use Rattle.std.proofs.lemmas.Slice.Eq.{slice_eq-Decides}
use Rattle.std.proofs.Common.{ap}

-- Both parts are equal.
pub and_decides : {P Q : Type 0} (p q : Bool) → Decides p P → Decides q Q → Decides (p && q) (P × Q)
and_decides true true h k = (λ e. (h.0 refl, k.0 refl), λ e. refl)
and_decides true false h k = (λ e. absurd cc, λ e. k.1 e.1)
and_decides false q h k = (λ e. absurd cc, λ e. h.1 e.0)

-- A test that decides a fact decides any equivalent fact.
pub decides_by : {P Q : Type 0} (p : Bool) → (P → Q) → (Q → P) → Decides p P → Decides p Q
decides_by p f g h = (λ e. f (h.0 e), λ q. h.1 (g q))

pub option_decides : {A : Type 0} (E : A → A → Bool) → ((a b : A) → Decides (E a b) (a ≡ b)) → (a b : Option A)
    → Decides (option_eq E a b) (a ≡ b)
option_decides E h (Some a) (Some b) = (λ e. ap (λ x. Some x) ((h a b).0 e), λ e. (h a b).1 cc)
option_decides E h None None = (λ e. refl, λ e. refl)
option_decides E h (Some a) None = (λ e. absurd cc, λ e. absurd cc)
option_decides E h None (Some b) = (λ e. absurd cc, λ e. absurd cc)

pub pair_decides : (a b : ℕ × ℕ) → Decides ((a.0 == b.0) && (a.1 == b.1)) (a ≡ b)
pair_decides a b = decides_by _ (λ h. λ i. (h.0 i, h.1 i)) (λ e. (ap (λ x. x.0) e, ap (λ x. x.1) e))
    (and_decides _ _ (Decides-eqb a.0 b.0) (Decides-eqb a.1 b.1))

pub items_decides : {A : Type 0} (E : A → A → Bool) → ((a b : A) → Decides (E a b) (a ≡ b)) → (xs ys : List A)
    → Decides (pointwise E xs ys) (xs ≡ ys)
items_decides E h xs ys = slice_eq-Decides h xs ys _ refl
