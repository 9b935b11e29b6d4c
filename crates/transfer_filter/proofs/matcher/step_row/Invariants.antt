use Rattle.transfer_filter.proofs.RowLaws.{HasRowFrom}
use Rattle.transfer_filter.proofs.matcher.step_row.Given as goal

abbrev pub invariant-loop-at : goal.invariant-loop-at
invariant-loop-at l = HasRowFrom l.glob l.fn.row l.row l.byte l.after l.at

abbrev pub decreases-loop-at : goal.decreases-loop-at
decreases-loop-at l = l.at
