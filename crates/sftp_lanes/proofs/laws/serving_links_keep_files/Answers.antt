use Rattle.sftp_lanes.proofs.Reporting.{link_keeps_files}
use Rattle.sftp_lanes.proofs.laws.serving_links_keep_files.Goals as goal

pub returns : goal.returns
returns c = link_keeps_files
