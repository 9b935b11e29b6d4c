use Rattle.sftp_cli.proofs.ScriptLaws.{lanes_ok}
use Rattle.sftp_cli.proofs.bulk_laws.bulk_lanes_are_ok.Goals as goal

pub returns : goal.returns
returns c = lanes_ok
