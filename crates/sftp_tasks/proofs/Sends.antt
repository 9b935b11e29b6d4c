-- The value that the lock protects may go to another thread.
use denote.Param.Send.{IsSend, sendable}
use Rattle.std.proofs.Crossing.{crosses}
use Rattle.sftp_lanes.proofs.Sends.{session_sends}
use Rattle.sftp_tasks.specs.contracts.locked.Locked as of_locked

pub locked_sends : IsSend of_locked.the_row
locked_sends = search (sendable, crosses, session_sends) depth 20
