use Rattle.std.proofs.Common.{refl}
use Rattle.transfer_copy.proofs.ActLaws.{got_on}
use Rattle.transfer_copy.proofs.laws.gets_write_their_part.Goals as goal

pub returns-clause-goes : goal.returns-clause-goes
returns-clause-goes g c remote part name sync from core after old new first before now result so did =
    got_on g.F.LocalFile.done remote part name sync from core after old new first before now old.stage result refl so
    did
