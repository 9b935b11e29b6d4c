use Rattle.mirror_jobs.proofs.GoodLaws.{good_files}
use Rattle.mirror_jobs.proofs.laws.good_files_are_copied.Goals as goal

pub returns : goal.returns
returns c = good_files
