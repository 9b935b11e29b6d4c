-- The steps of the loops that go through a window's READs.
use Rattle.std.proofs.Common.{◌≡◌, ℕ, Option, Some, None, refl, sym, ap, arith}
use Rattle.std.specs.Prelude.{min}
use Rattle.plan_window.specs.PlainSteps.{least_of}

-- ---- the least of two

pub least_of_none : (o : Option ℕ) → least_of o None ≡ o
least_of_none None = refl
least_of_none (Some n) = refl

pub least_of_more : (a b c : Option ℕ) → least_of (least_of a b) c ≡ least_of a (least_of b c)
least_of_more None b c = refl
least_of_more (Some n) None c = refl
least_of_more (Some n) (Some m) None = refl
least_of_more (Some n) (Some m) (Some k) = ap (λ (x : ℕ). Some x)
    (let e : min (min n m) k ≡ min n (min m k) = omega arith in e)

pub least_of_both : (a b : Option ℕ) → least_of a b ≡ least_of b a
least_of_both None b = sym (least_of_none b)
least_of_both (Some n) None = refl
least_of_both (Some n) (Some m) = ap (λ (x : ℕ). Some x) (let e : min n m ≡ min m n = omega arith in e)
