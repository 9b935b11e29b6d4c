use Rattle.std.proofs.Common.{◌∙◌, sym}
use Rattle.sftp_tasks.proofs.failures.ByFaultEndingLockedFaultError.look.Goals as goal

pub returns-in-Some-clause-allowed : goal.returns-in-Some-clause-allowed
returns-in-Some-clause-allowed c = record {
  before = c.in-Some.ensures.0;
  past = sym c.journal.ensures.value ∙ c.in-Some.ensures.1;
  run = c.journal.ensures.so_far;
}
