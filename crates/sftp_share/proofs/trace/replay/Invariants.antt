use Rattle.std.proofs.Common.{◌≡◌, ◌≤◌, ◌+◌, length}
use Rattle.sftp_share.specs.Replays.{NoHello, replay_from, replay_of}
use Rattle.sftp_share.proofs.trace.replay.Given as goal

abbrev pub invariant-loop-rest : goal.invariant-loop-rest
invariant-loop-rest l =
    (replay_of l.script l.trace ≡ replay_from l.machine l.choices l.place l.rest)
    × NoHello l.rest
    × (l.place + length l.rest ≤ length l.trace)

abbrev pub decreases-loop-rest : goal.decreases-loop-rest
decreases-loop-rest l = length l.rest
