use Rattle.std.proofs.Common.{refl}
use Rattle.transfer_copy.proofs.KeptFileLaws.{kept_at, kept_on}
use Rattle.transfer_copy.proofs.laws.no_file_is_lost.Goals as goal

pub returns-clause-goes : goal.returns-clause-goes
returns-clause-goes g c name part remote core after old new before now result closed files apart did so =
    kept_on g.F.LocalFile.done name part remote core after old new before now closed files old.stage result apart refl
    did so

pub returns-clause-kept : goal.returns-clause-kept
returns-clause-kept g c = kept_at
