use Rattle.run_laws.proofs.BufferLaws.{flushed_writes}
use Rattle.run_laws.proofs.read_laws.flushed_writes_are_in_the_file.Goals as goal

pub returns : goal.returns
returns c = flushed_writes
