use Rattle.std.proofs.Common.{rules, arith, ◌≡◌, None}
use Rattle.sftp_link.specs.Frames.{first_frame}
use Rattle.sftp_link.proofs.FramesPassed.{no_frame_from}
use Rattle.sftp_link.proofs.frames.frame_at.Goals as goal

pub returns-in_err-behind : goal.returns-in_err-behind
returns-in_err-behind c =
    let none : first_frame c.loop.rest.now ≡ None = search rules in
    rw c.from_residual.ensures (no_frame_from c.args.number c.loop.counter c.args.bytes.now c.loop.rest.now
    (omega arith) c.loop.invariant none)
