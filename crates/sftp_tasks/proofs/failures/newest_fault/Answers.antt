use Rattle.std.proofs.Common.{rules}
use Rattle.sftp_tasks.proofs.CloseLaws.{newest_is}
use Rattle.sftp_tasks.proofs.failures.newest_fault.Goals as goal

pub returns-in-Some-Kept : goal.returns-in-Some-Kept
returns-in-Some-Kept c = newest_is c.args.journal.now _ (search rules)
