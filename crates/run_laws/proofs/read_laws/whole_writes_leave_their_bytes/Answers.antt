use Rattle.run_laws.proofs.WholeWriteLaws.{whole_writes}
use Rattle.run_laws.proofs.read_laws.whole_writes_leave_their_bytes.Goals as goal

pub returns : goal.returns
returns c = whole_writes
