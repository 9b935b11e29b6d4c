-- Worked rows of rounds that fail.
use Rattle.std.specs.Prelude.{◌≡◌, Some, None}
use Rattle.std.proofs.Common.{refl}
use Rattle.sftp_model.specs.declared.error.Error.TheVariants as error
use Rattle.sftp_model.specs.declared.error.Fault.TheVariants as fault
use Rattle.sftp_tasks.specs.declared.locked.Locked.{Locked}
use Rattle.sftp_tasks.specs.Rounds.{StopsInRound, fault_for}
use Rattle.sftp_tasks.specs.SessionEvents.{HasFault}

-- The end of the link is recorded as a fault.
pub end_is_recorded : fault_for error.LinkEnded ≡ Some fault.Ended
end_is_recorded = refl

-- Running out of memory records no fault.
pub memory_is_not_recorded : fault_for error.OutOfMemory ≡ None
memory_is_not_recorded = refl

-- Two rounds failed at once: the second one returns the fault of the first, and changes nothing.
pub second_returns_first_fault : (y : Locked) → HasFault fault.Link y.session
    → StopsInRound error.LinkEnded (error.BackgroundTaskFailure fault.Link) y y
second_returns_first_fault y recorded = (recorded, refl)

-- A fault of the link is not returned as out of memory, nor as another error.
pub fault_is_no_memory : (y z : Locked) → StopsInRound error.LinkFault error.OutOfMemory y z → ⊥
fault_is_no_memory y z h = cc h.0

pub fault_is_no_end : (y z : Locked) → StopsInRound error.LinkFault error.LinkEnded y z → ⊥
fault_is_no_end y z h = cc h.0
