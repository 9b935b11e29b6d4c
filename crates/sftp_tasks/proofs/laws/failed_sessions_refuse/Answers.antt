use Rattle.std.proofs.Common.{false}
use Rattle.sftp_tasks.specs.Calls.{PollsSeat}
use Rattle.sftp_tasks.specs.LockedEvents.{CancelsLaneCall, OfLane, SubmitsLaneCall}
use Rattle.sftp_tasks.proofs.FailedLaws.{
  answers_unfailed,
  one_hold_unfailed,
  reads_unfailed,
  releases_unfailed,
  sends_unfailed,
}
use Rattle.sftp_tasks.proofs.laws.failed_sessions_refuse.Goals as goal

pub returns-clause-submits : goal.returns-clause-submits
returns-clause-submits g c = λ call lane old new did m n h.
    answers_unfailed (OfLane (SubmitsLaneCall call) false lane) old new did m n h

pub returns-clause-cancels : goal.returns-clause-cancels
returns-clause-cancels g c = λ lane old new did m n h.
    answers_unfailed (OfLane CancelsLaneCall false lane) old new did m n h

pub returns-clause-releases : goal.returns-clause-releases
returns-clause-releases g c = releases_unfailed

pub returns-clause-polls : goal.returns-clause-polls
returns-clause-polls g c = λ lane polled m n h. one_hold_unfailed (PollsSeat lane) polled m n h

pub returns-clause-sends : goal.returns-clause-sends
returns-clause-sends g c = sends_unfailed

pub returns-clause-reads : goal.returns-clause-reads
returns-clause-reads g c = reads_unfailed
