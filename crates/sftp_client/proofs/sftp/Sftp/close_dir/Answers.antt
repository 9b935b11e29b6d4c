use Rattle.sftp_client.proofs.DirCalling.{dir_callable, dir_closed}
use Rattle.sftp_client.proofs.sftp.Sftp.close_dir.Goals as goal

pub finish_close-requires-clause-callable : goal.finish_close-requires-clause-callable
finish_close-requires-clause-callable g c =
    dir_callable c.args.listing g.L.LinkState.state c.args.self.now _ c.start_close-call.new.core
    c.start_close-call.result c.requires.usable c.requires.listing c.self.view_is c.start_close-call.ensures

pub returns : goal.returns
returns g c =
    dir_closed c.args.listing g.L.LinkState.state c.args.self.now _ _ c.start_close-call.new.core
    c.start_close-call.result
    c.finish_close.result c.requires.listing c.self.view_is c.start_close-call.ensures c.finish_close.ensures
