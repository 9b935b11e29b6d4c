use Rattle.transfer_plan.proofs.CutLaws.{AreSlashes}
use Rattle.transfer_plan.proofs.cut.text_len.Given as goal

abbrev pub invariant-loop-len : goal.invariant-loop-len
invariant-loop-len l = AreSlashes l.path l.len

abbrev pub decreases-loop-len : goal.decreases-loop-len
decreases-loop-len l = l.len
