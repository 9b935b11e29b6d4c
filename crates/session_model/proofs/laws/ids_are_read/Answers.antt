use Rattle.session_model.proofs.IdLaws.{reads}
use Rattle.session_model.proofs.laws.ids_are_read.Goals as goal

pub returns : goal.returns
returns c = reads
