use Rattle.mirror_jobs.proofs.CopyLaws.{copies_files}
use Rattle.mirror_jobs.proofs.laws.copies_keep_files.Goals as goal

pub returns : goal.returns
returns c = copies_files
