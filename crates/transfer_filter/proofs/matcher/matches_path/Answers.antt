use Rattle.std.proofs.Common.{◌≡◌, ℕ, List, ap, drop, subst, sym, arith}
use Rattle.transfer_filter.specs.Rows.{IsRow}
use Rattle.transfer_filter.proofs.RowLaws.{loose_here, loose_later, rooted_end}
use Rattle.transfer_filter.proofs.matcher.matches_path.Goals as goal

pub returns-then-is_rooted-clause-is : goal.returns-then-is_rooted-clause-is
returns-then-is_rooted-clause-is c =
    let zero : c.loop-at.at ≡ 0 = omega (arith, c.loop-at-test.false) in
    let all : drop c.loop-at.at c.args.path.now ≡ c.args.path.now = ap (λ (n : ℕ). drop n c.args.path.now) zero in
    let row : IsRow c.args.glob.now c.loop-at.row c.args.path.now =
    subst (λ (text : List ℕ). IsRow c.args.glob.now c.loop-at.row text) all c.loop-at.invariant.row in
    rooted_end c.args.glob.now c.args.path.now c.step_row-then-is_rooted.new.row (sym c.if-is_rooted.ensures)
    (c.step_row-then-is_rooted.ensures.row c.args.path.now row)

pub returns-then-row-2-clause-is : goal.returns-then-row-2-clause-is
returns-then-row-2-clause-is c =
    loose_here c.args.glob.now c.args.path.now c.loop-at.row c.loop-at.at c.loop-at.found c.loop-at-test.false
    (sym c.if-is_rooted.ensures) c.loop-at.invariant.row c.loop-at.invariant.found c.if-row-2.true

pub returns-else-row-2-clause-is : goal.returns-else-row-2-clause-is
returns-else-row-2-clause-is c =
    loose_later c.args.glob.now c.args.path.now c.loop-at.row c.loop-at.at c.loop-at.found c.loop-at-test.false
    (sym c.if-is_rooted.ensures) c.loop-at.invariant.row c.loop-at.invariant.found c.if-row-2.false
