use Rattle.std.proofs.Common.{◌≡◌, ◌+◌, ◌-◌, arith}
use Rattle.transfer_filter.proofs.RowLaws.{stepped}
use Rattle.transfer_filter.proofs.matcher.step_row.Goals as goal

pub loop-at-preserved : goal.loop-at-preserved
loop-at-preserved c =
    let next : c.loop-at.at ≡ c.loop-at.at - 1 + 1 = omega arith in
    stepped c.args.glob.now c.args.row.now c.loop-at.row c.args.byte c.loop-at.after c.cell.result c.loop-at.at
    (c.loop-at.at - 1) next c.requires c.loop-at.invariant c.cell.ensures
