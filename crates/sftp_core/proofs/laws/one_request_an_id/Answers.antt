use Rattle.sftp_core.proofs.Turning.{requests_take_turns}
use Rattle.sftp_core.proofs.laws.one_request_an_id.Goals as goal

pub returns : goal.returns
returns c = requests_take_turns
