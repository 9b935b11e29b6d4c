use Rattle.sftp_cli.proofs.Sending.{trace_sent}
use Rattle.sftp_cli.proofs.bulk_laws.traces_keep_requests.Goals as goal

pub returns : goal.returns
returns c = trace_sent
