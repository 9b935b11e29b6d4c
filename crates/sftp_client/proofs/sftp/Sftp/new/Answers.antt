use Rattle.std.proofs.Common.{inr, sym}
use Rattle.sftp_client.proofs.sftp.Sftp.new.Goals as goal

pub returns-in-Err : goal.returns-in-Err
returns-in-Err g c =
    inr (
      c.open_session.new.self,
      (
        rw (c.in-Ok.ensures, c.new-2.ensures, c.new-3.ensures) at c.in-Err.ensures,
        sym c.into_link.ensures,
      ),
    )
