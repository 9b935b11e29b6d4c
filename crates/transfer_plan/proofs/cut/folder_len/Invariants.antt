use Rattle.transfer_plan.proofs.CutLaws.{IsBehind}
use Rattle.transfer_plan.proofs.cut.folder_len.Given as goal

abbrev pub invariant-loop-len : goal.invariant-loop-len
invariant-loop-len l = IsBehind l.path l.len

abbrev pub decreases-loop-len : goal.decreases-loop-len
decreases-loop-len l = l.len
