-- Effects of the steps of a poll on a buffered file and its core.
use Rattle.std.specs.Prelude.{
  ◌≡◌,
  ◌⊎◌,
  ◌≤◌,
  ◌+◌,
  ◌-◌,
  ◌==◌,
  ◌&&◌,
  length,
  max,
  ℕ,
  Bool,
  true,
  false,
  List,
  [],
  ◌∷◌,
  ◌++◌,
  drop,
  min,
  slice_get,
  is_some,
  Option,
  Some,
  None,
  Result,
  Ok,
  Err,
  IsSome,
  if◌then◌else◌,
}
use Rattle.sftp_model.specs.Answers.{allows_reply}
use Rattle.sftp_model.specs.Numbers.{SSH_FX_OK}
use Rattle.sftp_model.specs.declared.answers.Expected.{Expected}
use Rattle.sftp_model.specs.declared.error.Error.{Error}
use Rattle.sftp_model.specs.declared.error.Error.TheVariants as error
use Rattle.sftp_model.specs.declared.reply.Reply.{Reply}
use Rattle.sftp_model.specs.declared.reply.Reply.TheVariants as reply
use Rattle.sftp_model.specs.declared.slot.Facts.{Facts}
use Rattle.plan_model.specs.BufferPlans.{is_good}
use Rattle.sftp_core.specs.Core.{Core, core_after_abandon, after_poll, record_at, reply_in}
use Rattle.plan_state.specs.Asked.{HoldsTicket}
use Rattle.plan_state.specs.declared.poll.Poll.{Poll}
use Rattle.plan_state.specs.declared.poll.Poll.TheVariants as poll
use Rattle.sftp_buffered.specs.declared.file.DeferredWrite.{DeferredWrite}
use Rattle.sftp_buffered.specs.declared.file.ReadUnderWay.{ReadUnderWay}
use Rattle.sftp_buffered.specs.Buffered.{CompatValue, len_of}

-- Nothing changed.
pub record IsLeft (old new : Core) (p q : CompatValue) : Type 0 where
  pub core : new ≡ old
  pub same : q ≡ p

-- The core counts the ticket and has its reply, which is no HANDLE.
pub record HasReply (core : Core) (ticket : ℕ) : Type 0 where
  pub kind : Expected
  pub held : HoldsTicket core ticket kind
  pub plain : (handle : List ℕ) → allows_reply kind (reply.Handle handle) ≡ true → ⊥
  pub taken : IsSome (reply_in (record_at core ticket))

-- Out of memory, or a recorded fault.
abbrev pub IsStopped : Core → Error → Type 0
IsStopped old error.OutOfMemory = Unit {0}
IsStopped old (error.BackgroundTaskFailure fault) = old.fault ≡ Some fault
IsStopped old other = ⊥

-- ---- The oldest deferred write

abbrev pub oldest_len : List DeferredWrite → ℕ
oldest_len [] = 0
oldest_len (d ∷ ds) = d.len

-- The file without its oldest deferred write.
abbrev pub without_oldest : CompatValue → CompatValue
without_oldest c = record c { deferred = drop 1 c.deferred; pending = c.pending - oldest_len c.deferred }

-- The reply that the core has for the oldest deferred write.
abbrev pub oldest_reply : Core → List DeferredWrite → Option Reply
oldest_reply core [] = None
oldest_reply core (d ∷ ds) = reply_in (record_at core d.ticket)

-- The core after that reply was polled.
abbrev pub oldest_polled : Core → List DeferredWrite → Core
oldest_polled core [] = core
oldest_polled core (d ∷ ds) = after_poll core d.ticket

-- The value of a reply to a WRITE.
abbrev pub status_value : Reply → Result (Unit {0}) Error
status_value (reply.Status code message language) = if code == SSH_FX_OK then Ok tt else
    Err (error.SftpError code message language)
status_value other = Err (error.InvalidResponse None)

-- The oldest write was taken out, and its status refuses.
pub record WasRefused (old new : Core) (p q : CompatValue) (e : Error) : Type 0 where
  pub reply : Reply
  pub came : oldest_reply old p.deferred ≡ Some reply
  pub refuses : status_value reply ≡ Err e
  pub left : q ≡ without_oldest p
  pub core : new ≡ oldest_polled old p.deferred

-- The effect of a look at the oldest write on file and core: a good status stays.
abbrev pub LooksAtOldest : Core → Core → CompatValue → CompatValue → Poll (Result (Unit {0}) Error) → Type 0
LooksAtOldest old new p q poll.Pending = (oldest_reply old p.deferred ≡ None) × (old.fault ≡ None)
    × IsLeft old new p q
LooksAtOldest old new p q (poll.Ready (Ok u)) = (is_good (oldest_reply old p.deferred) ≡ true) × IsLeft old new p q
LooksAtOldest old new p q (poll.Ready (Err (error.BackgroundTaskFailure fault))) =
    (oldest_reply old p.deferred ≡ None) × (old.fault ≡ Some fault) × IsLeft old new p q
LooksAtOldest old new p q (poll.Ready (Err e)) = WasRefused old new p q e

-- ---- Windows

-- True if the oldest status must make way for the next WRITE.
abbrev pub must_wait : Facts → CompatValue → Bool
must_wait facts c = is_some (slice_get c.deferred 0) && (c.pending == facts.write_limit)

-- The file after the oldest write made way, if the window was full.
abbrev pub with_oldest_settled : Bool → CompatValue → CompatValue
with_oldest_settled true c = without_oldest c
with_oldest_settled false c = c

abbrev pub freed_core : Bool → Core → CompatValue → Core
freed_core true core c = oldest_polled core c.deferred
freed_core false core c = core

-- The most bytes that one WRITE may carry.
abbrev pub room_of : Facts → CompatValue → ℕ
room_of facts c = min facts.write_len (facts.write_limit - c.pending)

-- ---- WRITEs, the buffer and the READ

-- A write was deferred and is the last one.
abbrev pub with_deferred_write : CompatValue → ℕ → ℕ → CompatValue
with_deferred_write c n ticket =
    record c {
      deferred = c.deferred ++ record { place = c.place; len = n; ticket = ticket } ∷ [];
      place = c.place + 1;
    }

-- The file without the first n buffered bytes.
abbrev pub without_first_bytes : CompatValue → ℕ → CompatValue
without_first_bytes c n = record c { buffered = drop n c.buffered }

-- The core after the READ under way was abandoned.
abbrev pub read_dropped : Core → Option ReadUnderWay → Core
read_dropped core None = core
read_dropped core (Some r) = core_after_abandon core r.ticket

-- The file is after n bytes that were written, and no READ is under way.
abbrev pub after_written : CompatValue → ℕ → CompatValue
after_written c n =
    record c {
      file = record c.file { offset = c.file.offset + n };
      buffered = drop n c.buffered;
      pending = c.pending + n;
      reading = None;
    }

-- ---- What is left of the requests under way

-- The core after the statuses of these writes were polled, the oldest first.
abbrev pub all_polled : Core → List DeferredWrite → Core
all_polled core [] = core
all_polled core (d ∷ ds) = all_polled (after_poll core d.ticket) ds

-- The oldest writes are gone; their statuses were polled.
pub record AreTaken (old new : Core) (p q : CompatValue) : Type 0 where
  pub gone : List DeferredWrite
  pub deferred : p.deferred ≡ gone ++ q.deferred
  pub core : new ≡ all_polled old gone

-- The same, and nothing else changed.
pub record AreTakenAlone (old new : Core) (p q : CompatValue) : Type 0 where
  pub taken : AreTaken old new p q
  pub same : q ≡ record p { deferred = q.deferred; pending = q.pending }

-- The reply that the core has for the READ.
abbrev pub read_reply : Core → Option ReadUnderWay → Option Reply
read_reply core None = None
read_reply core (Some r) = reply_in (record_at core r.ticket)

-- The core after the reply to the READ was polled.
abbrev pub read_taken : Core → Option ReadUnderWay → Core
read_taken core None = core
read_taken core (Some r) = after_poll core r.ticket

-- The READ stays under way, or its reply came and was polled.
abbrev pub IsReadLeft : Core → Core → Option ReadUnderWay → Option ReadUnderWay → Type 0
IsReadLeft old new read left = ((left ≡ read) × (new ≡ old))
    ⊎ ((left ≡ None) × IsSome (read_reply old read) × (new ≡ read_taken old read))

-- Of the requests under way the oldest writes may be gone, and the READ after its reply. Nothing was submitted, and the
-- core is otherwise as it was. The capacity rises at most to cover the bytes that the READ may bring.
pub record IsRestOf (old new : Core) (p q : CompatValue) : Type 0 where
  pub between : Core
  pub taken : AreTaken old between p q
  pub reading : IsReadLeft between new p.reading q.reading
  pub place : q.place ≡ p.place
  pub capacity : p.capacity ≤ q.capacity
  pub most : q.capacity ≤ max p.capacity (length p.buffered + len_of p.reading)
