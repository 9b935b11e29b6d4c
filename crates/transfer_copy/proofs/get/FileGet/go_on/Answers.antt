use Rattle.transfer_copy.proofs.GetLaws.{open_behind}
use Rattle.transfer_copy.proofs.get.FileGet.go_on.Goals as goal

pub finish-requires : goal.finish-requires
finish-requires g c = open_behind c.args.len c.args.core.now c.args.self.now c.requires.reads

pub fail-requires : goal.fail-requires
fail-requires g c = open_behind c.args.len c.args.core.now c.args.self.now c.requires.reads
