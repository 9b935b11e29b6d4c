-- Writes whose statuses are taken later.
use Rattle.std.specs.Prelude.{◌≡◌, ◌≤◌, ◌<◌, ◌+◌, ◌^◌, ℕ, Bool, true, List, [], ◌∷◌, take, Some, Result, Ok, Err, max}
use Rattle.sftp_model.specs.Numbers.{MAX_TRANSFER_LEN}
use Rattle.sftp_model.specs.declared.error.Error.{Error}
use Rattle.sftp_model.specs.declared.error.Error.TheVariants as error
use Rattle.sftp_model.specs.declared.error.IoKind.TheVariants as kind
use Rattle.sftp_model.specs.declared.outcome.Outcome.TheVariants as outcome
use Rattle.sftp_model.specs.declared.slot.Facts.{Facts}
use Rattle.plan_model.specs.BufferPlans.{buf_write_next, is_good}
use Rattle.plan_model.specs.Moves.{Answers, Plan}
use Rattle.sftp_core.specs.Core.{Core}
use Rattle.plan_state.specs.Asked.{SubmitsAsking}
use Rattle.plan_state.specs.Calls.{IfOutOfMemory}
use Rattle.plan_state.specs.declared.submission.Asking.{Asking}
use Rattle.plan_state.specs.declared.submission.Asking.TheVariants.{Parts}
use Rattle.plan_state.specs.declared.poll.Poll.{Poll}
use Rattle.plan_state.specs.declared.poll.Poll.TheVariants as poll
use Rattle.sftp_file.specs.Files.{facts_of}
use Rattle.sftp_file.specs.Parts.{cut_at}
use Rattle.sftp_buffered.specs.declared.writes.Window.{Window}
use Rattle.sftp_buffered.specs.Buffered.{CompatValue, DefersWrites, IsSound, LeavesOthers, lane_of}
use Rattle.sftp_buffered.specs.Polls.{PollsPlan, PlanWaits}
use Rattle.sftp_buffered.specs.Steps.{
  IsLeft,
  LooksAtOldest,
  after_written,
  with_deferred_write,
  with_oldest_settled,
  freed_core,
  must_wait,
  oldest_reply,
  read_dropped,
  room_of,
}

-- ---- Steps

-- A WRITE may carry this many bytes. In a full window the oldest status, which is good, makes way.
pub record HasRoom (facts : Facts) (core : Core) (c : CompatValue) (w : Window) : Type 0 where
  pub full : w.is_full ≡ must_wait facts c
  pub good : w.is_full ≡ true → is_good (oldest_reply core c.deferred) ≡ true
  pub len : w.len ≡ room_of facts (with_oldest_settled w.is_full c)
  pub short : w.len ≤ MAX_TRANSFER_LEN
  pub counts : (with_oldest_settled w.is_full c).pending + w.len < 2 ^ 64

-- The effect of a look at the window on file and core.
abbrev pub IsWindow : Core → Core → CompatValue → CompatValue → Poll (Result Window Error) → Type 0
IsWindow old new p q poll.Pending = (must_wait (facts_of old) p ≡ true) × LooksAtOldest old new p q poll.Pending
IsWindow old new p q (poll.Ready (Ok w)) = HasRoom (facts_of old) old p w × IsLeft old new p q
IsWindow old new p q (poll.Ready (Err e)) = (must_wait (facts_of old) p ≡ true)
    × LooksAtOldest old new p q (poll.Ready (Err e))

-- The WRITE of these parts was submitted and deferred.
pub record IsDeferred (parts : List (List ℕ)) (n : ℕ) (old new : Core) (p q : CompatValue) : Type 0 where
  pub ticket : ℕ
  pub submitted : SubmitsAsking old (Parts p.file.grant.handle p.file.offset parts) ticket new
  pub left : q ≡ with_deferred_write p n ticket

-- The same, and the file is after it. In a full window the oldest status made way.
pub record SendsWrites (full : Bool) (parts : List (List ℕ)) (old new : Core) (p q : CompatValue) (n : ℕ) : Type 0 where
  pub fits : p.file.offset + n < 2 ^ 64
  pub ticket : ℕ
  pub middle : Core
  pub submitted : SubmitsAsking old (Parts p.file.grant.handle p.file.offset parts) ticket middle
  pub left : q ≡ after_written (with_oldest_settled full (with_deferred_write p n ticket)) n
  pub core : new ≡ read_dropped (freed_core full middle (with_deferred_write p n ticket)) p.reading

-- The WRITE was not submitted: out of memory, a recorded fault, or past the greatest offset. In the last case the
-- oldest status has made way.
abbrev pub SendsNoWrite : Bool → ℕ → Core → Core → CompatValue → CompatValue → Error → Type 0
SendsNoWrite full n old new p q error.OutOfMemory = IsLeft old new p q
SendsNoWrite full n old new p q (error.BackgroundTaskFailure fault) = (p.file.offset + n < 2 ^ 64)
    × (old.fault ≡ Some fault)
    × IsLeft old new p q
SendsNoWrite full n old new p q (error.IOError kind.OffsetOverflow) = (2 ^ 64 ≤ p.file.offset + n)
    × (q ≡ with_oldest_settled full p)
    × (new ≡ freed_core full old p)
SendsNoWrite full n old new p q other = ⊥

-- ---- Polls

-- The plan of a write of these bytes.
abbrev pub write_plan : List ℕ → Core → CompatValue → Plan
write_plan bytes core c = buf_write_next 0 bytes (lane_of c) (facts_of core)

-- The WRITE has one part: the first of these bytes.
abbrev pub IsOnePart : List ℕ → CompatValue → Asking → Type 0
IsOnePart bytes c asking = (n : ℕ) × (asking ≡ Parts c.file.grant.handle c.file.offset (take n bytes ∷ []))

-- The WRITE is cut out of these pieces.
abbrev pub IsCutOut : List (List ℕ) → CompatValue → Asking → Type 0
IsCutOut pieces c asking = (n : ℕ) × (asking ≡ Parts c.file.grant.handle c.file.offset (cut_at 0 n pieces))

-- The next WRITE need not wait for the oldest status: the window has room, or that status is good.
abbrev pub IsWindowOpen : Core → CompatValue → Type 0
IsWindowOpen core c = must_wait (facts_of core) c ≡ true → is_good (oldest_reply core c.deferred) ≡ true

-- The poll made the next move of the write of these bytes, for any replies to come. The file may be polled further, and
-- others find the core as it was. `Pending`, running out of memory and a recorded fault leave core and file as they
-- were. A missing status is never reported as out of memory.
pub record WritesBuffered (Cut : Asking → Type 0) (bytes : List ℕ) (old new : Core) (p q : CompatValue)
    (result : Poll (Result ℕ Error)) : Type 0 where
  pub polled : (answers : Answers) → DefersWrites old p answers
      → PollsPlan (PlanWaits (write_plan bytes old p) answers old (IsLeft old new p q)) (IsLeft old new p q) Cut
      (write_plan bytes old p) (λ n. outcome.Count n) answers old new p q result
  pub window : q.pending ≤ max p.pending (facts_of old).write_limit
  pub sound : IsSound new q
  pub others : LeavesOthers old new p
  pub memory : IfOutOfMemory result (IsWindowOpen old p)
