use Rattle.std.proofs.Common.{◌≡◌, Some}
use Rattle.sftp_link.specs.Frames.{behind_frames}
use Rattle.sftp_link.proofs.frames.frame_at.Given as goal

-- the rest is what stands behind the frames that were passed
abbrev pub invariant-loop : goal.invariant-loop
invariant-loop l = behind_frames l.counter l.bytes ≡ Some l.rest
