use Rattle.machine_model.proofs.TreeLaws.{prefixes_directories}
use Rattle.machine_model.proofs.laws.prefixes_are_directories.Goals as goal

pub returns : goal.returns
returns c = prefixes_directories
