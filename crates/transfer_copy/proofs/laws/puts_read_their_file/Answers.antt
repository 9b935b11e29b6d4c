use Rattle.std.proofs.Common.{refl}
use Rattle.transfer_copy.proofs.PutActLaws.{sent_on}
use Rattle.transfer_copy.proofs.laws.puts_read_their_file.Goals as goal

pub returns-clause-goes : goal.returns-clause-goes
returns-clause-goes g c name part remote from core after old new first before now result may so did =
    sent_on g.F.LocalFile.done name part remote from core after old new first before now old.stage result refl may so
    did
