use Rattle.std.proofs.Common.{rules}
use Rattle.sftp_file.proofs.GatherLaws.{held_with}
use Rattle.sftp_file.proofs.whole_reads.cancel_read_all.Goals as goal

pub cancel-requires : goal.cancel-requires
cancel-requires c = search (rules, held_with)
