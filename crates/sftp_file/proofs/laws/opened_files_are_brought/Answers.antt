use Rattle.sftp_file.proofs.OpenLaws.{opened_brought, opened_handle, opened_number}
use Rattle.sftp_file.proofs.laws.opened_files_are_brought.Goals as goal

pub returns : goal.returns
returns c = record { number = opened_number; handle = opened_handle; brought = opened_brought }
