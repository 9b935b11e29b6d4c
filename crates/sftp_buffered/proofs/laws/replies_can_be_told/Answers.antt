use Rattle.sftp_buffered.proofs.Keeping.{replies_told}
use Rattle.sftp_buffered.proofs.laws.replies_can_be_told.Goals as goal

pub returns : goal.returns
returns c = replies_told
