-- What refuses a request where no fault is kept.
use Rattle.std.proofs.Common.{None, Bool, true, false}
use Rattle.sftp_core.specs.Core.{IsNoFault, refusal_of}

-- it is no kept fault
pub no_fault : (long : Bool) → IsNoFault (refusal_of None long)
no_fault true = tt
no_fault false = tt
