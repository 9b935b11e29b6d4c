use Rattle.std.proofs.Common.{inr}
use Rattle.link_frames.proofs.Joining.{escaped}
use Rattle.sftp_client.proofs.sftp.Sftp.round.Goals as goal

pub returns-in_err-take : goal.returns-in_err-take
returns-in_err-take g c =
    rw (escaped c.from_residual-in_err-take.result c.in_err-take.field-0.0 c.from_residual-in_err-take.ensures.1)
    (inr (c.flush.new.self, (c.in_ok-flush.ensures, c.in_err-take.ensures)))
