use Rattle.session_threads.proofs.IdLaws.{unawaited}
use Rattle.session_threads.proofs.laws.invalid_ids_are_unawaited.Goals as goal

pub returns : goal.returns
returns c = unawaited
