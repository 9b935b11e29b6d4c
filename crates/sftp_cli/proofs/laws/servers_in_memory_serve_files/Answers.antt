use Rattle.sftp_cli.proofs.Running.{server_serves_files}
use Rattle.sftp_cli.proofs.laws.servers_in_memory_serve_files.Goals as goal

pub returns : goal.returns
returns c = server_serves_files
