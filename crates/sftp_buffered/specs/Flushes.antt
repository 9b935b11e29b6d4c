-- Flushes: the deferred statuses, from the oldest on.
use Rattle.std.specs.Prelude.{◌≡◌, false, List, [], ◌∷◌, Result, Err, if◌then◌else◌}
use Rattle.sftp_model.specs.declared.error.Error.{Error}
use Rattle.sftp_model.specs.declared.error.Error.TheVariants as error
use Rattle.sftp_model.specs.declared.outcome.Outcome.TheVariants as outcome
use Rattle.plan_model.specs.BufferPlans.{buf_flush_next, cancelled_buf_flush, is_good, pending_bytes}
use Rattle.plan_model.specs.Moves.{Answers, Plan}
use Rattle.sftp_core.specs.Core.{Core, record_at, reply_in}
use Rattle.plan_state.specs.declared.poll.Poll.{Poll}
use Rattle.plan_state.specs.declared.poll.Poll.TheVariants as poll
use Rattle.sftp_file.specs.Files.{facts_of}
use Rattle.sftp_buffered.specs.declared.file.DeferredWrite.{DeferredWrite}
use Rattle.sftp_buffered.specs.Buffered.{CompatValue, DefersWrites, IsSound, LeavesOthers, lane_of, writes_of}
use Rattle.sftp_buffered.specs.Polls.{AnyCut, PollsPlan, PlanWaits}
use Rattle.sftp_buffered.specs.Steps.{AreTaken, IsRestOf, oldest_reply}

-- The writes from the first one whose STATUS of OK wasn't taken.
abbrev pub unsettled_writes : Core → List DeferredWrite → List DeferredWrite
unsettled_writes core [] = []
unsettled_writes core (d ∷ ds) = if is_good (reply_in (record_at core d.ticket)) then unsettled_writes core ds else
    d ∷ ds

-- The buffered file with these deferred writes.
abbrev pub with_writes : CompatValue → List DeferredWrite → CompatValue
with_writes c ds = record c { deferred = ds; pending = pending_bytes (writes_of ds) }

-- The writes before the first whose STATUS of OK wasn't taken are gone, as after a flush that was cancelled. What the
-- core has for the rest is as before, and so is the recorded fault.
pub record SettlesWrites (old new : Core) (p q : CompatValue) : Type 0 where
  pub left : q ≡ with_writes p (unsettled_writes old p.deferred)
  pub rest : AreTaken old new p q
  pub lane : (answers : Answers) → DefersWrites old p answers
      → lane_of q ≡ cancelled_buf_flush 0 (lane_of p) (facts_of old) [] answers
  pub told : (answers : Answers) → DefersWrites old p answers → DefersWrites new q answers
  pub fault : new.fault ≡ old.fault
  pub first : is_good (oldest_reply new q.deferred) ≡ false
  pub sound : IsSound new q
  pub others : LeavesOthers old new p

-- The plan of a flush.
abbrev pub flush_plan : Core → CompatValue → Plan
flush_plan core c = buf_flush_next 0 (lane_of c) (facts_of core)

-- The relation between the states before and after a cancelled flush.
pub record IsFlushed (old new : Core) (p q : CompatValue) (answers : Answers) : Type 0 where
  pub lane : lane_of q ≡ cancelled_buf_flush 0 (lane_of p) (facts_of old) [] answers
  pub rest : IsRestOf old new p q

-- The poll made the next move of the flush, for any replies to come. The file may be polled further, and others find
-- the core as it was. After `Pending` and after a recorded fault the file is as after a flush that is cancelled at that
-- point. No memory is allocated.
pub record FlushesTo (old new : Core) (p q : CompatValue) (result : Poll (Result (Unit {0}) Error)) : Type 0 where
  pub polled : (answers : Answers) → DefersWrites old p answers
      → PollsPlan (PlanWaits (flush_plan old p) answers old (IsFlushed old new p q answers))
      (IsFlushed old new p q answers)
      AnyCut
      (flush_plan old p) (λ u. outcome.Done) answers old new p q result
  pub memory : result ≡ poll.Ready (Err error.OutOfMemory) → ⊥
  pub sound : IsSound new q
  pub others : LeavesOthers old new p
