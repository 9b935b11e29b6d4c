use Rattle.sftp_serve.specs.Words.{script_state}
use Rattle.sftp_serve.proofs.Ends.{starved_serves}
use Rattle.sftp_serve.proofs.serve.serve_script.Goals as goal

pub returns-in-Err-clause-serves : goal.returns-in-Err-clause-serves
returns-in-Err-clause-serves g c = starved_serves (script_state c.args.long c.args.script.now) (g.L.LinkState.state c.args.link.now)
    c.requires.may
