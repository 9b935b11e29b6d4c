-- A call that is given up, and a handle that is closed, leave the kept fault.
use Rattle.std.proofs.Common.{◌≡◌, ◌-◌, ◌==◌, ◌∙◌, ℕ, Bool, true, false, cond, List, [], ◌∷◌, ap, refl}
use Rattle.std.specs.Prelude.{Option, Some, None}
use Rattle.sftp_model.specs.declared.reply.Reply.{Reply}
use Rattle.sftp_model.specs.declared.request.Request.TheVariants.{Close}
use Rattle.sftp_core.specs.Core.{Core, abandon_leaves, core_after_abandon, core_after_drop, core_after_release, queued_last, record_at, release_leaves, users_of, with_record}
use Rattle.sftp_core.specs.Grant.{GrantValue}
use Rattle.sftp_core.specs.Table.{handle_in_reply}
use Rattle.sftp_core.specs.declared.id_record.IdRecord.{IdRecord}
use Rattle.sftp_core.specs.declared.id_record.IdRecord.TheVariants.{Answered, Granted, Waiting}
use Rattle.plan_state.specs.Calls.{CancelsAwaited, core_after_cancel}
use Rattle.plan_state.specs.declared.stage.Stage.{Stage}
use Rattle.plan_state.specs.declared.stage.Stage.TheVariants as stage
use Rattle.plan_state.specs.declared.told.Told.TheVariants as told
use Rattle.sftp_fs.specs.Listings.{given_up}
use Rattle.sftp_fs.specs.WholeWrites.{CancelsWrite, core_after_close, write_dropped}
use Rattle.sftp_fs.specs.declared.fs_write.Writing.{Writing}
use Rattle.sftp_fs.specs.declared.fs_write.Writing.TheVariants as writing
use Rattle.sftp_fs_read.specs.Tickets.{core_without_tickets}
use Rattle.sftp_fs_read.specs.WholeReads.{CancelsRead, read_dropped}
use Rattle.sftp_fs_read.specs.declared.fs_read.Whole.{Whole}
use Rattle.sftp_fs_read.specs.declared.fs_read.Whole.TheVariants as whole

pub core_fault : (old new : Core) → new ≡ old → new.fault ≡ old.fault
core_fault old new same = ap (λ (c : Core). c.fault) same

-- ---- one ticket, and one grant

drop_fault : (core : Core) (id : ℕ) (brought : Option (List ℕ)) → (core_after_drop core id brought).fault ≡ core.fault
drop_fault core id (Some handle) = refl
drop_fault core id None = refl

place_fault : (core : Core) (id : ℕ) (p : Option IdRecord) → (abandon_leaves core id p).fault ≡ core.fault
place_fault core id (Some (Waiting expected sent wanted)) = refl
place_fault core id (Some (Answered expected r)) = drop_fault core id (handle_in_reply r)
place_fault core id (Some (Granted handle users)) = refl
place_fault core id None = refl

pub abandon_fault : (core : Core) (ticket : ℕ) → (core_after_abandon core ticket).fault ≡ core.fault
abandon_fault core ticket = place_fault core ticket (record_at core ticket)

users_fault : (core : Core) (grant : GrantValue) (users : ℕ) → (release_leaves core grant users).fault ≡ core.fault
users_fault core grant users = by_test (users == 1)
  where
    by_test : (b : Bool) → (cond b (queued_last core grant.id (Close grant.handle) true)
        (with_record core grant.id (Granted grant.handle (users - 1)))).fault ≡ core.fault
    by_test true = refl
    by_test false = refl

pub release_fault : (core : Core) (grant : GrantValue) → (core_after_release core grant).fault ≡ core.fault
release_fault core grant = users_fault core grant (users_of (record_at core grant.id))

close_fault : (core : Core) (grant : GrantValue) → (core_after_close core grant).fault ≡ core.fault
close_fault core grant = abandon_fault (core_after_release core grant) grant.id ∙ release_fault core grant

-- ---- calls

cancel_fault : (core : Core) (s : Stage) → (core_after_cancel core s).fault ≡ core.fault
cancel_fault core stage.Ended = refl
cancel_fault core stage.Ready = refl
cancel_fault core (stage.Unsent asking) = refl
cancel_fault core (stage.Asked ticket) = abandon_fault core ticket
cancel_fault core (stage.Came (told.Reply r)) = refl
cancel_fault core (stage.Came (told.Granted g)) =
    abandon_fault (core_after_release core g) g.id ∙ release_fault core g

pub cancelled_fault : (old new : Core) (s : Stage) → CancelsAwaited old new s → new.fault ≡ old.fault
cancelled_fault old new s cancels = core_fault (core_after_cancel old s) new cancels.core ∙ cancel_fault old s

tickets_fault : (core : Core) (tickets : List ℕ) → (core_without_tickets core tickets).fault ≡ core.fault
tickets_fault core [] = refl
tickets_fault core (ticket ∷ later) =
    tickets_fault (core_after_abandon core ticket) later ∙ abandon_fault core ticket

read_dropped_fault : (core : Core) (p : Whole) → (read_dropped core p).fault ≡ core.fault
read_dropped_fault core whole.Ended = refl
read_dropped_fault core (whole.Opening call facts) = cancel_fault core call.stage
read_dropped_fault core (whole.Open grant reads tickets) =
    close_fault (core_without_tickets core tickets.items) grant ∙ tickets_fault core tickets.items

pub read_fault : (old new : Core) (p : Whole) → CancelsRead old new p → new.fault ≡ old.fault
read_fault old new p cancels = core_fault (read_dropped old p) new cancels.core ∙ read_dropped_fault old p

write_dropped_fault : (core : Core) (p : Writing) → (write_dropped core p).fault ≡ core.fault
write_dropped_fault core writing.Ended = refl
write_dropped_fault core (writing.Opening call content) = cancel_fault core call.stage
write_dropped_fault core (writing.Opened grant content) = close_fault core grant
write_dropped_fault core (writing.Parts grant call) =
    close_fault (core_after_cancel core call.stage) grant ∙ cancel_fault core call.stage

pub write_fault : (old new : Core) (p : Writing) → CancelsWrite old new p → new.fault ≡ old.fault
write_fault old new p cancels = core_fault (write_dropped old p) new cancels.core ∙ write_dropped_fault old p

-- ---- a READDIR

pub given_up_fault : (core : Core) (asked : Option ℕ) → (given_up core asked).fault ≡ core.fault
given_up_fault core None = refl
given_up_fault core (Some ticket) = abandon_fault core ticket
