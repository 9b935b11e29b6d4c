use Rattle.sftp_streams.proofs.StreamLaws.{grows, whole}
use Rattle.sftp_streams.proofs.laws.pieces_are_the_run.Goals as goal

pub returns : goal.returns
returns c = record { grows = grows; whole = whole }
