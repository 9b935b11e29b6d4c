use Rattle.transfer_copy.proofs.GetLaws.{open_behind}
use Rattle.transfer_copy.proofs.get.FileGet.write.Goals as goal

pub fail-requires : goal.fail-requires
fail-requires g c = open_behind c.args.len c.args.core.now c.args.self.now c.requires.reads
