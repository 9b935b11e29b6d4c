use Rattle.std.proofs.Common.{◌∙◌, ap, refl, sym}
use Rattle.sftp_client.specs.Sessions.{SftpValue}
use Rattle.sftp_client.proofs.HandleCalling.{close_given_up}
use Rattle.sftp_client.proofs.sftp.Sftp.finish_close.Goals as goal

pub returns-in-Some : goal.returns-in-Some
returns-in-Some g c =
    close_given_up g.L.LinkState.state c.args.self.now _ _ c.args.call c.in-Some.fault c.requires.callable
    c.self.view_is (sym (ap (λ (x : SftpValue _). x.core.fault) c.self.view_is) ∙ sym c.in-Some.ensures)
    c.cancel.ensures refl
