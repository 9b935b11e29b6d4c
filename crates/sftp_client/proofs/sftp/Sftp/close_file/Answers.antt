use Rattle.sftp_client.proofs.HandleCalling.{file_callable, file_closed}
use Rattle.sftp_client.proofs.sftp.Sftp.close_file.Goals as goal

pub finish_close-requires-clause-callable : goal.finish_close-requires-clause-callable
finish_close-requires-clause-callable g c =
    file_callable c.args.file g.L.LinkState.state c.args.self.now _ c.start_close-call.new.core
    c.start_close-call.result c.requires.usable c.requires.held c.self.view_is c.start_close-call.ensures

pub returns : goal.returns
returns g c =
    file_closed c.args.file g.L.LinkState.state c.args.self.now _ _ c.start_close-call.new.core
    c.start_close-call.result
    c.finish_close.result c.requires.held c.self.view_is c.start_close-call.ensures c.finish_close.ensures
