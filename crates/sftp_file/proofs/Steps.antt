-- What tests of whole calls use.
use Rattle.std.proofs.Common.{◌≡◌, ℕ, true, false, List, sym, ◌∙◌, Result, Ok, Err, IfOk, arith}
use Rattle.sftp_model.specs.Answers.{allows_reply}
use Rattle.sftp_model.specs.declared.answers.Expected.{Expected}
use Rattle.sftp_model.specs.declared.answers.Expected.TheVariants as expected
use Rattle.sftp_model.specs.declared.error.Error.{Error}
use Rattle.sftp_model.specs.declared.reply.Reply.TheVariants as reply
use Rattle.sftp_core.specs.Core.{Core, IsGrant}
use Rattle.sftp_core.specs.Table.{asks_handle}
use Rattle.plan_state.specs.declared.poll.Poll.TheVariants as poll
use Rattle.plan_state.specs.declared.stage.Stage.{Stage}
use Rattle.plan_state.specs.declared.stage.Stage.TheVariants.{Ended, Ready, Unsent, Asked, Came}
use Rattle.plan_state.specs.declared.told.Told.TheVariants as told
use Rattle.plan_state.specs.Asked.{IsReady}
use Rattle.plan_state.specs.Calls.{CancelsAwaited, CallValue, HoldsReady, IsGrantOf, IsHeld, IsHeldAt, IsOver, IsUnderWay, MayPoll, is_ended}
use Rattle.plan_state.specs.Keeping.{KeepsGrants}
use Rattle.plan_state.specs.Runners.{Meaning}
use Rattle.plan_state.proofs.Keeping.{
  keeps_both,
  keeps_failed,
  keeps_handed_out,
  keeps_refused,
  keeps_same,
  keeps_taken,
}
use Rattle.plan_state.proofs.OthersKept.{grant_at, grant_kept, grants_kept, may_be_cancelled, still_under_way}
use Rattle.sftp_file.specs.Files.{FileValue}
use Rattle.sftp_file.specs.Opens.{open_meaning}
use Rattle.sftp_file.specs.declared.opens.Opening.{Opening}
use Rattle.sftp_file.proofs.Granting.{released_grant, retained_grant, retained_users}

-- a call that asks once may be polled
pub may_poll : {W M V : Type 0} (s : Meaning W M V) (core : Core) (call : CallValue M) → s.again ≡ false
    → IsUnderWay s core call → MayPoll s core call
may_poll s core call once h = record {
  under_way = h;
  ready =
      λ again. absurd (let clash : true ≡ false = sym again ∙ once in cc);
}

-- and any other where a request may be submitted
pub may_poll_on : {W M V : Type 0} (s : Meaning W M V) (core : Core) (call : CallValue M) → IsReady core
    → IsUnderWay s core call → MayPoll s core call
may_poll_on s core call ready h = record { under_way = h; ready = λ again. ready }

no_handle : (kind : Expected) (handle : List ℕ) → asks_handle kind ≡ false → allows_reply kind (reply.Handle handle)
    ≡ true → ⊥
no_handle expected.Handle handle none e = absurd cc
no_handle expected.Version handle none e = cc
no_handle (expected.Content len) handle none e = cc
no_handle expected.Names handle none e = cc
no_handle expected.FirstName handle none e = cc
no_handle expected.Attrs handle none e = cc
no_handle expected.Limits handle none e = cc
no_handle expected.Status handle none e = cc

owns_nothing : {W M V : Type 0} (s : Meaning W M V) (core : Core) (m : M) (stage : Stage) (id : ℕ)
    → asks_handle (s.expected m) ≡ false → IsHeldAt s core m stage → IsGrantOf stage id → ⊥
owns_nothing s core m (Came (told.Granted g)) id none h own = no_handle (s.expected m) g.handle none h.allowed
owns_nothing s core m (Came (told.Reply r)) id none h own = own
owns_nothing s core m Ended id none h own = own
owns_nothing s core m Ready id none h own = own
owns_nothing s core m (Unsent asking) id none h own = own
owns_nothing s core m (Asked ticket) id none h own = own

-- giving up a call that no HANDLE answers leaves every grant
pub cancelled_keeps : {W M V : Type 0} (s : Meaning W M V) (old new : Core) (call : CallValue M)
    → asks_handle (s.expected call.runner) ≡ false → IsHeld s old call → CancelsAwaited old new call.stage
    → KeepsGrants old new
cancelled_keeps s old new call none h cancels =
    record {
      grants = λ id handle users here. cancels.grants id handle users
          (owns_nothing s old call.runner call.stage id none h) here;
      opened = cancels.opened;
    }

ended_owns_nothing : (stage : Stage) (id : ℕ) → is_ended stage ≡ true → IsGrantOf stage id → ⊥
ended_owns_nothing Ended id over own = own
ended_owns_nothing Ready id over own = absurd cc
ended_owns_nothing (Unsent asking) id over own = absurd cc
ended_owns_nothing (Asked ticket) id over own = absurd cc
ended_owns_nothing (Came t) id over own = absurd cc

-- a file that an open gave is counted once the call was spent
pub opened_kept : (old new : Core) (call : CallValue Opening) (value : Result FileValue Error)
    → HoldsReady open_meaning old (poll.Ready value) → IsOver call.stage (poll.Ready value)
    → CancelsAwaited old new call.stage
    → IfOk value (λ (f : FileValue). IsGrant new f.grant)
opened_kept old new call (Ok f) holds over cancels =
    grant_at new f.grant 1 (cancels.grants f.grant.id f.grant.handle 1 (ended_owns_nothing call.stage f.grant.id over)
    holds) (omega arith)
opened_kept old new call (Err e) holds over cancels = tt

-- a call that has not ended is under way
pub held_under_way : {W M V : Type 0} (s : Meaning W M V) (core : Core) (call : CallValue M) → is_ended call.stage
    ≡ false → IsHeld s core call → IsUnderWay s core call
held_under_way s core call over h = record { over = over; held = h }

pub ruleset steps = (
  keeps_same,
  keeps_both,
  keeps_failed,
  keeps_handed_out,
  keeps_taken,
  keeps_refused,
  grants_kept,
  grant_kept,
  still_under_way,
  may_be_cancelled,
  held_under_way,
  may_poll,
  may_poll_on,
  cancelled_keeps,
  opened_kept,
  retained_users,
  retained_grant,
  released_grant,
)
