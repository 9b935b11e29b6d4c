-- The calls of operations are no more than they count.
use Rattle.std.proofs.Common.{◌≡◌, ◌≤◌, ◌<◌, ◌+◌, ◌-◌, ◌*◌, ◌/◌, ◌^◌, ℕ, zero, suc, List, [], ◌∷◌, refl, sym, arith}
use Rattle.std.specs.List.{sum_by}
use Rattle.std.proofs.Math.Nat.{div-mul-le_self, le-div_iff_mul-le, le-mul_of_pos_right, lt-div-mul-add, mul-le-mul_left}
use Rattle.std.proofs.lemmas.List.Sums.{sum_by-cons}
use Rattle.view_model.specs.Blocks.{block_count}
use Rattle.view_model.specs.ViewOps.{count}
use Rattle.view_model.specs.declared.op.ViewOp.{ViewOp}
use Rattle.view_model.specs.declared.op.ViewOp.TheVariants as op
use Rattle.view_model.proofs.BoundLaws.{all_calls, block_calls, op_calls}

-- b blocks of so many bytes from the a-th on
few_blocks : (block a b offset len : ℕ) → 1 ≤ block → b * block ≤ offset + len → offset < a * block + block
    → 2 * ((b - a + 1) * (block + 3)) ≤ 12 * (len + 2 * block + 2)
few_blocks block a b offset len some low high = by_more (b - a) refl
  where
    by_more : (d : ℕ) → d ≡ b - a → 2 * ((d + 1) * (block + 3)) ≤ 12 * (len + 2 * block + 2)
    by_more zero e = omega arith
    by_more (suc d) e =
        let is : b ≡ a + suc d = omega (arith, e) in
        let spread : (a + suc d) * block ≡ a * block + suc d * block = omega arith in
        let low' : (a + suc d) * block ≤ offset + len = rw (sym is) low in
        let wide : suc d ≤ suc d * block = le-mul_of_pos_right (suc d) some in
        let is_all : (suc d + 1) * (block + 3) ≡ suc d * block + block + 3 * suc d + 3 = omega arith in
        omega (arith, spread, low', wide, is_all, high)

pub blocks_counted : (block offset len : ℕ) → 1 ≤ block → 2 * (block_count block offset len * block_calls block) ≤ 12 *
    (len + 2 * block + 2)
blocks_counted block offset len some =
    few_blocks block (offset / block) ((offset + len - 1) / block) offset len some
    (let le = div-mul-le_self (offset + len - 1) block in omega (arith, le)) (lt-div-mul-add some)

op_counted : (block : ℕ) (o : ViewOp) → 1 ≤ block → 2 * op_calls block o ≤ count block o
op_counted block (op.Get path offset len) some = blocks_counted block offset len some
op_counted block (op.Put path offset content) some = omega arith

pub all_counted : (block : ℕ) (ops : List ViewOp) → 1 ≤ block → 2 * all_calls block ops ≤ sum_by (count block) ops
all_counted block [] some = omega arith
all_counted block (o ∷ ops) some =
    let one = op_counted block o some in
    let rest = all_counted block ops some in
    let sum = sum_by-cons (count block) o ops in
    omega (arith, one, rest, sum)

-- ---- the blocks of a get

pub first_before_last : (block offset len : ℕ) → 1 ≤ block → 1 ≤ len → offset / block ≤ (offset + len - 1) / block
first_before_last block offset len some long =
    let le = div-mul-le_self offset block in
    let less : offset / block * block ≤ offset + len - 1 = omega (arith, le, long) in
    (le-div_iff_mul-le some).1 less

-- they are few
pub blocks_few : (block offset len : ℕ) → 1 ≤ block → block ≤ 65536 → len ≤ 1048576
    → block_count block offset len ≤ 2097152
blocks_few block offset len some short most =
    let all = blocks_counted block offset len some in
    let wide : block_count block offset len * 4 ≤ block_count block offset len * block_calls block =
    mul-le-mul_left (block_count block offset len) (let e : 4 ≤ block + 3 = omega (arith, some) in e) in
    omega (arith, all, wide, short, most)

-- and each is within the greatest offset
pub blocks_fit : (block offset len : ℕ) → 1 ≤ block → block ≤ 65536 → 1 ≤ len → len ≤ 1048576 → offset ≤ 1099511627776
    → (offset / block + block_count block offset len) * block < 2 ^ 64
blocks_fit block offset len some short long most far =
    let a = div-mul-le_self offset block in
    let b = div-mul-le_self (offset + len - 1) block in
    let order = first_before_last block offset len some long in
    let sum : offset / block + block_count block offset len ≡ (offset + len - 1) / block + 1 = omega (arith, order) in
    let spread : ((offset + len - 1) / block + 1) * block ≡ (offset + len - 1) / block * block + block = omega arith in
    let whole : ((offset + len - 1) / block + 1) * block < 2 ^ 64 = omega (arith, spread, b, short, most, far) in
    rw sum whole
