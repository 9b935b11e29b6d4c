use Rattle.ssh_encoding.specs.Exact.{string_exact}
use Rattle.sftp_wire.proofs.field_readers.text.Goals as goal

pub returns-clause-short : goal.returns-clause-short
returns-clause-short g c = ((string_exact _ _ _).takes c.in_ok-decode.ensures.read).is.small
