use Rattle.std.proofs.Common.{◌≤◌, length, reverse, take}
use Rattle.transfer_plan.proofs.ActLaws.{IsActing}
use Rattle.transfer_plan.specs.Jobs.{IsKeep, to_keep}
use Rattle.transfer_plan.proofs.carry.keep_all.Given as goal

abbrev pub invariant-loop-left : goal.invariant-loop-left
invariant-loop-left g l = record {
  may : g.H.Hand.may l.hand;
  within : l.left ≤ length l.jobs;
  acting : IsActing g.H.Hand.done to_keep IsKeep (reverse l.jobs) (reverse (take l.left l.jobs)) l.initial.tally l.tally
      (g.H.Hand.history l.initial.hand) (g.H.Hand.history l.hand);
}

abbrev pub decreases-loop-left : goal.decreases-loop-left
decreases-loop-left g l = l.left
