-- A buffered file as its user sees it, and as the slot of a lane.
use Rattle.std.specs.Prelude.{◌≡◌, ◌≤◌, ◌<◌, ◌^◌, ◌+◌, ℕ, List, [], ◌∷◌, map, length, Option, Some, None}
use Rattle.sftp_model.specs.declared.answers.Expected.{Expected}
use Rattle.sftp_model.specs.declared.answers.Expected.TheVariants as expected
use Rattle.sftp_model.specs.declared.slot.Buffer.{Buffer}
use Rattle.sftp_model.specs.declared.slot.Site.{Site}
use Rattle.sftp_model.specs.declared.slot.Slot.TheVariants as slots
use Rattle.plan_model.specs.Moves.{Answers, handle_of}
use Rattle.plan_model.specs.BufferPlans.{pending_bytes}
use Rattle.sftp_core.specs.Core.{Core, record_at, reply_in}
use Rattle.plan_state.specs.Asked.{HoldsTicket}
use Rattle.plan_state.specs.Keeping.{KeepsGrants}
use Rattle.sftp_file.specs.Files.{FileValue, file_at}
use Rattle.sftp_buffered.specs.declared.file.DeferredWrite.{DeferredWrite}
use Rattle.sftp_buffered.specs.declared.file.ReadUnderWay.{ReadUnderWay}

-- A buffered file: the file; the bytes that a read into the buffer asks for; the buffer's capacity; the buffered bytes,
-- from the file's offset on; the deferred writes, the oldest first, and how many bytes these carry; the READ under way;
-- and the place of the next request. Place 0 is that of the OPEN.
pub record CompatValue : Type 0 where
  pub file : FileValue
  pub buffer_len : ℕ
  pub capacity : ℕ
  pub buffered : List ℕ
  pub deferred : List DeferredWrite
  pub pending : ℕ
  pub reading : Option ReadUnderWay
  pub place : ℕ

-- A buffered file with nothing buffered or under way.
abbrev pub new_value : FileValue → ℕ → CompatValue
new_value file buffer_len =
    record {
      file = file;
      buffer_len = buffer_len;
      capacity = 0;
      buffered = [];
      deferred = [];
      pending = 0;
      reading = None;
      place = 1;
    }

-- ---- Slots

-- A deferred write in a plan.
abbrev pub write_of : DeferredWrite → ℕ × ℕ
write_of d = (d.place, d.len)

abbrev pub writes_of : List DeferredWrite → List (ℕ × ℕ)
writes_of ds = map write_of ds

abbrev pub place_of : Option ReadUnderWay → Option ℕ
place_of None = None
place_of (Some r) = Some r.place

abbrev pub buffer_of : CompatValue → Buffer
buffer_of c = record {
  len = c.buffer_len;
  bytes = c.buffered;
  deferred = writes_of c.deferred;
  reading = place_of c.reading;
}

-- A lane whose one slot holds the buffered file.
abbrev pub lane_of : CompatValue → Site
lane_of c = record { slots = slots.Buffered (file_at c.file) (buffer_of c) ∷ []; directory = [] }

-- ---- Replies

-- The reply to each deferred write is the one that the core has for its ticket.
abbrev pub AreTold : Core → Answers → List DeferredWrite → Type 0
AreTold core answers [] = Unit {0}
AreTold core answers (d ∷ ds) = (answers d.place ≡ reply_in (record_at core d.ticket)) × AreTold core answers ds

-- The reply to the READ is the one that the core has for its ticket.
abbrev pub IsTold : Core → Answers → Option ReadUnderWay → Type 0
IsTold core answers None = Unit {0}
IsTold core answers (Some r) = answers r.place ≡ reply_in (record_at core r.ticket)

-- The handle came at place 0, and each reply that the buffered file may await is the one that the core has.
pub record DefersWrites (core : Core) (c : CompatValue) (answers : Answers) : Type 0 where
  pub brought : handle_of (answers 0) ≡ c.file.grant.handle
  pub writes : AreTold core answers c.deferred
  pub read : IsTold core answers c.reading

-- ---- Invariants between polls

-- No deferred write has this ticket.
abbrev pub AreApart : ℕ → List DeferredWrite → Type 0
AreApart ticket [] = Unit {0}
AreApart ticket (d ∷ ds) = (ticket ≡ d.ticket → ⊥) × AreApart ticket ds

-- The core counts the ticket of each deferred write, once.
abbrev pub AreHeld : Core → List DeferredWrite → Type 0
AreHeld core [] = Unit {0}
AreHeld core (d ∷ ds) = HoldsTicket core d.ticket expected.Status × AreApart d.ticket ds × AreHeld core ds

-- The core counts the ticket of the READ.
abbrev pub IsHeldRead : Core → Option ReadUnderWay → Type 0
IsHeldRead core None = Unit {0}
IsHeldRead core (Some r) = HoldsTicket core r.ticket (expected.Content r.len)

pub record IsHeld (core : Core) (c : CompatValue) : Type 0 where
  pub writes : AreHeld core c.deferred
  pub read : IsHeldRead core c.reading

-- The most bytes that may come.
abbrev pub len_of : Option ReadUnderWay → ℕ
len_of None = 0
len_of (Some r) = r.len

-- The places of the deferred writes rise, from one place on and below another.
abbrev pub AreRising : ℕ → List DeferredWrite → ℕ → Type 0
AreRising from [] to = from ≤ to
AreRising from (d ∷ ds) to = (from ≤ d.place) × AreRising (d.place + 1) ds to

-- No deferred write has this place.
abbrev pub AreElsewhere : ℕ → List DeferredWrite → Type 0
AreElsewhere place [] = Unit {0}
AreElsewhere place (d ∷ ds) = (place ≡ d.place → ⊥) × AreElsewhere place ds

-- The place of the READ is below the next one, and is no other request's.
abbrev pub IsPlaced : Option ReadUnderWay → List DeferredWrite → ℕ → Type 0
IsPlaced None ds next = Unit {0}
IsPlaced (Some r) ds next = (1 ≤ r.place) × (r.place < next) × AreElsewhere r.place ds

-- The bytes of the deferred writes are counted, and no two requests have one place. The bytes that are buffered and
-- read end within the greatest offset, and the capacity covers what is buffered.
pub record IsCounted (c : CompatValue) : Type 0 where
  pub pending : c.pending ≡ pending_bytes (writes_of c.deferred)
  pub rising : AreRising 1 c.deferred c.place
  pub placed : IsPlaced c.reading c.deferred c.place
  pub ends : c.file.offset + length c.buffered + len_of c.reading < 2 ^ 64
  pub capacity : length c.buffered ≤ c.capacity

-- The invariant of a buffered file between polls.
pub record IsSound (core : Core) (c : CompatValue) : Type 0 where
  pub held : IsHeld core c
  pub counted : IsCounted c

-- ---- What a call leaves to others

-- The READ has another ticket.
abbrev pub IsOther : ℕ → Option ReadUnderWay → Type 0
IsOther ticket None = Unit {0}
IsOther ticket (Some r) = ticket ≡ r.ticket → ⊥

-- No request of the file has this ticket.
pub record IsApart (ticket : ℕ) (c : CompatValue) : Type 0 where
  pub writes : AreApart ticket c.deferred
  pub read : IsOther ticket c.reading

-- The tickets of these writes are none of the file's.
abbrev pub AreWritesApart : List DeferredWrite → CompatValue → Type 0
AreWritesApart [] c = Unit {0}
AreWritesApart (d ∷ ds) c = IsApart d.ticket c × AreWritesApart ds c

abbrev pub IsReadApart : Option ReadUnderWay → CompatValue → Type 0
IsReadApart None c = Unit {0}
IsReadApart (Some r) c = IsApart r.ticket c

-- No request of one file has the ticket of a request of the other.
pub record ShareNoTicket (other c : CompatValue) : Type 0 where
  pub writes : AreWritesApart c.deferred other
  pub read : IsReadApart c.reading other

-- The core as others see it: each ticket that is none of the file's is held as before, each grant stays, and so does
-- what was reported of the session.
pub record LeavesOthers (old new : Core) (c : CompatValue) : Type 0 where
  pub holds : (ticket : ℕ) (kind : Expected) → IsApart ticket c → HoldsTicket old ticket kind
      → HoldsTicket new ticket kind
  pub grants : KeepsGrants old new
  pub phase : new.phase ≡ old.phase
  pub options : new.options ≡ old.options
