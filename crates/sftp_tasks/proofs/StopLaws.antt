-- What a round answers that stops the session.
use Rattle.std.proofs.Common.{◌≡◌, ◌∙◌, ap, refl, sym, subst, Some, None, Err}
use Rattle.std.specs.Prelude.{Option}
use Rattle.sftp_lanes.specs.Seen.{SessionValue}
use Rattle.sftp_model.specs.declared.error.Error.{Error}
use Rattle.sftp_model.specs.declared.error.Error.TheVariants as error
use Rattle.sftp_model.specs.declared.error.Fault.{Fault}
use Rattle.sftp_tasks.specs.declared.locked.Locked.{Locked}
use Rattle.sftp_tasks.specs.LockedEvents.{KeepsFirstFault}
use Rattle.sftp_tasks.specs.Rounds.{KeepsFirst, StopsInRound, fault_for}
use Rattle.sftp_tasks.specs.SessionEvents.{IsKept}

none-some : (fault : Fault) → None ≡ Some fault → ⊥
none-some fault e = cc e

-- the error itself is returned if its fault was recorded
pub stopping_kept : (why : Error) (fault : Fault) (y z : Locked) → fault_for why ≡ Some fault
    → IsKept fault y.session z.session → StopsInRound why why y z
stopping_kept error.OutOfMemory fault y z is k = absurd (none-some fault is)
stopping_kept (error.BackgroundTaskFailure first) fault y z is k = absurd (none-some fault is)
stopping_kept other fault y z is k = (refl, subst (λ (o : Option Fault). KeepsFirst o y z) (sym is) k)

-- the fault that was kept before is answered
pub stopping_told : (why told : Error) (fault : Fault) (y z : Locked) → KeepsFirstFault fault y z (Err told)
    → StopsInRound why told y z
stopping_told why told fault y z h =
    subst (λ (e : Error). StopsInRound why e y z) (sym h.1.1.0)
    (h.1.1.1.0, h.0 ∙ ap (λ (s : SessionValue). record y { session = s }) h.1.1.1.1)
