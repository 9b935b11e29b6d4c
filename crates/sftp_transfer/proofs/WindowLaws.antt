-- What so many windows carry together.
use Rattle.std.proofs.Common.{◌≡◌, ◌≤◌, ◌*◌, ◌/◌, ℕ, zero, suc, max, subst, sym, arith}
use Rattle.std.proofs.Math.Nat.{div-mul-le_self, le_trans, le-max_left, mul-le-mul}

-- so many that together they carry at most the limit, or one
pub within_limit : (limit each a : ℕ) → a ≤ limit / max each 1 → max a 1 * each ≤ max limit each
within_limit limit each zero few =
    let one : max zero 1 ≡ 1 = omega (arith) in
    let same : 1 * each ≤ max limit each = omega (arith) in
    subst (λ (n : ℕ). n * each ≤ max limit each) (sym one) same
within_limit limit each (suc k) few =
    let is : max (suc k) 1 ≡ suc k = omega (arith) in
    let all : suc k * each ≤ limit / max each 1 * max each 1 = mul-le-mul few (le-max_left each 1) in
    let carried : suc k * each ≤ max limit each =
    le_trans all (le_trans (div-mul-le_self limit (max each 1)) (le-max_left limit each)) in
    subst (λ (n : ℕ). n * each ≤ max limit each) (sym is) carried
