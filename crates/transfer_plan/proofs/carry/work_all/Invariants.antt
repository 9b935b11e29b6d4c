use Rattle.std.proofs.Common.{drop}
use Rattle.transfer_plan.proofs.ActLaws.{IsActing}
use Rattle.transfer_plan.specs.Jobs.{IsJob, of_kind}
use Rattle.transfer_plan.proofs.carry.work_all.Given as goal

abbrev pub invariant-loop-job : goal.invariant-loop-job
invariant-loop-job g l = record {
  may : g.H.Hand.may l.hand;
  acting : IsActing g.H.Hand.done (of_kind l.kind) IsJob l.jobs (drop l.job l.jobs) l.initial.tally l.tally
      (g.H.Hand.history l.initial.hand) (g.H.Hand.history l.hand);
}
