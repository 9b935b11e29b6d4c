use Rattle.std.proofs.Common.{◌≡◌, length}
use Rattle.sftp_share.specs.Replays.{reply_in}
use Rattle.sftp_share.proofs.trace.reply_in.Given as goal

abbrev pub invariant-loop-rest : goal.invariant-loop-rest
invariant-loop-rest l = reply_in l.id l.events ≡ reply_in l.id l.rest

abbrev pub decreases-loop-rest : goal.decreases-loop-rest
decreases-loop-rest l = length l.rest
