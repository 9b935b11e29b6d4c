-- The results of a runner, one record for each kind of step. If an allocation fails, the site is unchanged.
use Rattle.std.specs.Prelude.{ℕ, ◌≡◌, ◌≤◌, ◌-◌, true, List, [], Option, Some, None, IfOk, OnErr, Result}
use Rattle.ssh_encoding.specs.declared.out_of_memory.OutOfMemory.{OutOfMemory}
use Rattle.sftp_model.specs.declared.outcome.Outcome.{Outcome}
use Rattle.sftp_model.specs.declared.reply.Reply.{Reply}
use Rattle.sftp_model.specs.Slots.{slot_at}
use Rattle.sftp_model.specs.declared.slot.Facts.{Facts}
use Rattle.sftp_model.specs.declared.slot.FileAt.{FileAt}
use Rattle.sftp_model.specs.declared.slot.Move.{Move}
use Rattle.sftp_model.specs.declared.slot.Move.TheVariants.{Done}
use Rattle.sftp_model.specs.declared.slot.Site.{Site}
use Rattle.plan_model.specs.declared.call.Call.{Call}
use Rattle.plan_model.specs.Moves.{Plan}
use Rattle.plan_model.specs.BufferPlans.{cancelled_buf_write}
use Rattle.plan_window.specs.declared.window.ReadAt.{ReadAt}
use Rattle.plan_runner.specs.declared.next.Next.{Next}
use Rattle.plan_runner.specs.declared.next.Running.{Running}
use Rattle.plan_runner.specs.Asking.{
  AsksOn,
  BeginsAsking,
  GoesOnAsking,
  GoesOnBy,
  HasFile,
  ReadsOn,
  WidensAsking,
  is_window,
  opened_after,
}
use Rattle.plan_runner.specs.Buffers.{reading_in}
use Rattle.plan_runner.specs.Cancelling.{AsksOffset, BeginsLeaving, LeavesCancelled, left_after, left_behind, left_kept}
use Rattle.plan_runner.specs.Pending.{
  AwaitsNoMore,
  PendsAfter,
  maybe,
  pends,
  pends_after,
  pends_idle,
  reads_under,
  slots_times,
}
use Rattle.plan_runner.specs.Runners.{BeginsByPlan, RunsByPlan, AnswersWhileWaiting, after, bytes_of}
use Rattle.plan_runner.specs.Sound.{IsSound, KeepsSite, KeepsRunningSound}

-- A call continues after the reply that it awaited, if it awaited one. The fields are as those of `StartsAsPlanned`.
pub record ContinuesByPlan (r : Running) (reply : Option Reply) (bytes : List ℕ) (place : ℕ) (old new : Site)
    (facts : Facts)
    (result : Result Next OutOfMemory) : Type 0 where
  pub goes : IfOk result (RunsByPlan (after r bytes old facts reply) place bytes new facts)
  pub left : IfOk result (LeavesCancelled (left_after r bytes old facts reply) place bytes new facts)
  pub sound : IfOk result (KeepsRunningSound bytes facts old new)
  pub pends : IfOk result (PendsAfter (pends_after r old reply) place new)
  pub asks : IfOk result (GoesOnAsking (opened_after r reply) place (reads_under (Some r)) old new)
  pub by : IfOk result (GoesOnBy r reply place facts)
  pub err : OnErr result (new ≡ old)

-- A call on a buffered file starts, which may leave replies to its slot.
pub record BegunBuffered (c : Call) (place : ℕ) (old new : Site) (facts : Facts) (result : Result Next OutOfMemory)
    : Type 0 where
  pub goes : IfOk result (BeginsByPlan c place old new facts)
  pub left : IfOk result (BeginsLeaving c place old new facts)
  pub sound : IfOk result (KeepsRunningSound (bytes_of c) facts old new)
  pub pends : IfOk result (PendsAfter (pends_idle old) place new)
  pub asks : IfOk result (BeginsAsking None place old new)
  pub err : OnErr result (new ≡ old)

-- A WRITE to the buffered file in a slot, by this plan, at the start of a call or later.
pub record DefersWrite (plan : Plan) (slot : ℕ) (bytes : List ℕ) (place : ℕ) (old new : Site) (facts : Facts)
    (result : Result Next OutOfMemory) : Type 0 where
  pub goes : IfOk result (RunsByPlan plan place bytes new facts)
  pub left : IfOk result (LeavesCancelled (cancelled_buf_write slot old facts) place bytes new facts)
  pub sound : IfOk result (KeepsRunningSound bytes facts old new)
  pub pends : IfOk result (PendsAfter (pends_idle old) place new)
  pub asks : IfOk result (BeginsAsking None place old new)
  pub goes_on : IfOk result (GoesOnAsking None place [] old new)
  pub err : OnErr result (new ≡ old)

-- A transfer continues by this plan. Its file is in a slot or in none, and the reply to its own request came.
pub record ContinuesTransfer (plan : Plan) (slot opened : Option ℕ) (awaited : ℕ → ℕ) (bytes : List ℕ) (place : ℕ)
    (old new : Site) (facts : Facts) (result : Result Next OutOfMemory) : Type 0 where
  pub goes : IfOk result (RunsByPlan plan place bytes new facts)
  pub left : IfOk result (LeavesCancelled (left_kept slot old facts) place bytes new facts)
  pub sound : IfOk result (KeepsRunningSound bytes facts old new)
  pub pends : IfOk result (PendsAfter awaited place new)
  pub asks : IfOk result (AsksOn opened place old)
  pub err : OnErr result (new ≡ old)

-- A whole read continues: the grant that it opened, the READs that it had in flight, and those after the reply.
pub record ReadsWhole (r : Running) (reply : Option Reply) (opened : Option ℕ) (under on : List ReadAt) (bytes : List ℕ)
    (place : ℕ) (site : Site) (facts : Facts) (result : Result Next OutOfMemory) : Type 0 where
  pub goes : IfOk result (RunsByPlan (after r bytes site facts reply) place bytes site facts)
  pub left : IfOk result (LeavesCancelled (λ own answers. site) place bytes site facts)
  pub sound : IfOk result (KeepsRunningSound bytes facts site site)
  pub pends : IfOk result (PendsAfter (pends_after r site reply) place site)
  pub asks : IfOk result (GoesOnAsking opened place under site site)
  pub reads : IfOk result (ReadsOn place on facts)

-- The step of a whole read while the reply to its first READ in flight is missing.
pub record DecidesNext (r : Running) (opened : Option ℕ) (under : List ReadAt) (bytes : List ℕ) (place : ℕ)
    (site : Site)
    (facts : Facts) (result : Result Next OutOfMemory) : Type 0 where
  pub goes : IfOk result (AnswersWhileWaiting r place bytes site facts)
  pub left : IfOk result (LeavesCancelled (λ own answers. site) place bytes site facts)
  pub sound : IfOk result (IsSound bytes site facts)
  pub pends : IfOk result (PendsAfter (λ q. pends q (Some r) site) place site)
  pub asks : IfOk result (GoesOnAsking opened place under site site)
  pub reads : IfOk result (ReadsOn place under facts)

-- The step of any call while the reply that it awaits is missing.
pub record ActsWhileWaiting (r : Running) (bytes : List ℕ) (place : ℕ) (site : Site) (facts : Facts)
    (result : Result Next OutOfMemory) : Type 0 where
  pub goes : IfOk result (AnswersWhileWaiting r place bytes site facts)
  pub left : IfOk result (LeavesCancelled (left_behind r bytes site facts) place bytes site facts)
  pub sound : IfOk result (IsSound bytes site facts)
  pub pends : IfOk result (PendsAfter (λ q. pends q (Some r) site) place site)
  pub asks : IfOk result (WidensAsking r place site)
  pub reads : is_window r ≡ true → IfOk result (ReadsOn place (reads_under (Some r)) facts)

-- A reply ends a call on files in slots, as this move says: no reply is awaited more often.
pub record EndsByReply (move : Move) (outcome : Outcome) (old new : Site) : Type 0 where
  pub gives : move ≡ Done outcome new
  pub sound : (facts : Facts) → KeepsSite facts old new
  pub fewer : AwaitsNoMore old new

-- The request on a file, which is in a slot or in none: a READ or a WRITE, by a grant that the lane has.
pub record AsksRest (slot : Option ℕ) (file : FileAt) (place : ℕ) (result : Result Next OutOfMemory) : Type 0 where
  pub offset : IfOk result AsksOffset
  pub grants : (site : Site) (opened : Option ℕ) → HasFile site opened slot file
      → IfOk result (AsksOn opened place site)

-- The reply to the READ that filled the buffer in a slot ends the call, as this move says: the slot no longer awaits
-- it.
pub record EndsByFill (move : Move) (slot : ℕ) (old new : Site) (result : Result Outcome OutOfMemory) : Type 0 where
  pub gives : IfOk result (λ o. move ≡ Done o new)
  pub err : OnErr result (new ≡ old)
  pub sound : (facts : Facts) → KeepsSite facts old new
  pub fewer : IfOk result (λ o. (q : ℕ)
      → slots_times q new.slots ≤ slots_times q old.slots - maybe (reading_in (slot_at old slot)) q)
