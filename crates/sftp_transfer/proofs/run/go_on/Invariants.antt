use Rattle.std.proofs.Common.{◌≤◌}
use Rattle.sftp_transfer.proofs.GoLaws.{IsTrying}
use Rattle.transfer_args.specs.Words.{asked_seen, tries_again, work_seen}
use Rattle.sftp_transfer.proofs.run.go_on.Given as goal

abbrev pub invariant-loop-left : goal.invariant-loop-left
invariant-loop-left g l = record {
  short : l.pause ≤ 60;
  going : IsTrying g.O.Outside.done (asked_seen l.asked) (tries_again (work_seen l.asked.work)) l.left l.pause
      (g.O.Outside.history l.initial.outside) (g.O.Outside.history l.outside);
}

abbrev pub decreases-loop-left : goal.decreases-loop-left
decreases-loop-left g l = l.left
