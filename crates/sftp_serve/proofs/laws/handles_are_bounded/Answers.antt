use Rattle.sftp_serve.proofs.HandleBound.{bounds_handles}
use Rattle.sftp_serve.proofs.laws.handles_are_bounded.Goals as goal

pub returns : goal.returns
returns c = bounds_handles
