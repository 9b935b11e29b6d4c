use Rattle.std.proofs.Common.{deque_len}
use Rattle.transfer_copy.proofs.DropLaws.{Dropping}
use Rattle.transfer_copy.proofs.holding.drop_parts.Given as goal

abbrev pub invariant-loop-part : goal.invariant-loop-part
invariant-loop-part l = Dropping l.initial.core l.core l.initial.parts.items l.parts.items

abbrev pub decreases-loop-part : goal.decreases-loop-part
decreases-loop-part l = deque_len l.parts
