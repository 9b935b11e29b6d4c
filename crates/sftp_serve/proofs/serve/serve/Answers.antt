use Rattle.std.specs.Prelude.{map}
use Rattle.std.specs.String.{string_bytes}
use Rattle.sftp_serve.specs.Words.{is_long, script_state}
use Rattle.sftp_serve.proofs.Ends.{any_ok, starved_serves}
use Rattle.sftp_serve.proofs.serve.serve.Goals as goal

pub returns-in-Err-OutOfMemory-clause-serves : goal.returns-in-Err-OutOfMemory-clause-serves
returns-in-Err-OutOfMemory-clause-serves g c =
    any_ok _ _ (λ script. starved_serves (script_state (is_long (map string_bytes c.args.words.now)) script) (g.L.LinkState.state c.args.link.now) c.requires)
