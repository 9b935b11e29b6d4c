use Rattle.run_laws.proofs.DeferredLaws.{deferred_writes}
use Rattle.run_laws.proofs.read_laws.deferred_writes_are_joined.Goals as goal

pub returns : goal.returns
returns c = deferred_writes
