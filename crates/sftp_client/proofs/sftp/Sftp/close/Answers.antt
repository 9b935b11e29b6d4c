use Rattle.std.proofs.Common.{sym}
use Rattle.sftp_client.proofs.sftp.Sftp.close.Goals as goal

pub returns-in-Ok : goal.returns-in-Ok
returns-in-Ok g c = (c.drain.new.self, (c.in-Ok.ensures, sym c.into_link.ensures))

pub returns-in-Err : goal.returns-in-Err
returns-in-Err g c = (c.drain.new.self, (c.in-Err.ensures, sym c.into_link-in-Err.ensures))
