-- believed: nobody, everybody, submits, owner_or, submitter, lanes_of, lane_union, with_entry, entries_concern,
--   with_tide, concerns
-- The threads that a hold of the shared value concerns, and the counts of changes at which they wait.
use Rattle.std.specs.Prelude.{
  ℕ,
  zero,
  suc,
  ◌+◌,
  ◌%◌,
  ◌^◌,
  ◌==◌,
  Bool,
  true,
  false,
  ◌||◌,
  List,
  [],
  ◌∷◌,
  ◌++◌,
  map,
  length,
  Option,
  Some,
  None,
  if◌then◌else◌,
  nat_le,
  slice_get,
}
use Rattle.session_model.specs.declared.entry.Entry.{Entry}
use Rattle.session_model.specs.declared.entry.Entry.TheVariants as entry
use Rattle.session_model.specs.declared.event.Event.TheVariants.{Submit, Send, Take, Cancel, End}
use Rattle.session_model.specs.declared.event.Owner.{Owner}
use Rattle.session_model.specs.declared.event.Owner.TheVariants as owner
use Rattle.session_seats.specs.declared.view.Counts.{Counts}
use Rattle.session_seats.specs.declared.wakes.LaneSet.{LaneSet}
use Rattle.session_seats.specs.declared.wakes.LaneSet.TheVariants as lane_set
use Rattle.session_seats.specs.declared.wakes.Tide.{Tide}
use Rattle.session_seats.specs.declared.wakes.WakeSet.{WakeSet}
use Rattle.session_seats.specs.declared.wakes.Waiter.{Waiter}
use Rattle.session_seats.specs.declared.wakes.Waiter.TheVariants as waiter

abbrev pub nobody : WakeSet
nobody = record { sender = false; reader = false; lanes = lane_set.Empty }

abbrev pub everybody : WakeSet
everybody = record { sender = true; reader = true; lanes = lane_set.All }

-- ---- Entries that a hold added; journals have the newest entry first

-- The owner of the request with the id, if the entry submits it.
abbrev pub submits : ℕ → Entry → Option Owner
submits id (entry.Event (Submit o k r)) = if k == id then Some o else None
submits id (entry.Event Send) = None
submits id (entry.Event (Take k r)) = None
submits id (entry.Event (Cancel lane)) = None
submits id (entry.Event (End lane call o)) = None
submits id (entry.Added lane call) = None
submits id (entry.LetGo lane) = None
submits id (entry.Kept fault) = None

abbrev pub owner_or : Option Owner → Option Owner → Option Owner
owner_or (Some o) later = Some o
owner_or None later = later

-- The owner of the last request that was submitted with the id.
abbrev pub submitter : ℕ → List Entry → Option Owner
submitter id [] = None
submitter id (e ∷ past) = owner_or (submits id e) (submitter id past)

-- The lanes that wait for the reply to a request of this owner: all, if the request is unknown.
abbrev pub lanes_of : Option Owner → LaneSet
lanes_of (Some (owner.Call lane call)) = lane_set.One lane
lanes_of (Some owner.Setup) = lane_set.Empty
lanes_of (Some owner.Close) = lane_set.Empty
lanes_of None = lane_set.All

abbrev pub lane_union : LaneSet → LaneSet → LaneSet
lane_union lane_set.Empty b = b
lane_union lane_set.All b = lane_set.All
lane_union (lane_set.One a) lane_set.Empty = lane_set.One a
lane_union (lane_set.One a) lane_set.All = lane_set.All
lane_union (lane_set.One a) (lane_set.One b) = if a == b then lane_set.One a else lane_set.All

-- The set with those whom this entry concerns, after a journal. A request concerns the sender. A reply concerns the
-- reader, which waits until each request has its reply, and the lane of its request.
abbrev pub with_entry : Entry → List Entry → WakeSet → WakeSet
with_entry (entry.Event (Submit o id r)) past s = record s { sender = true }
with_entry (entry.Event Send) past s = s
with_entry (entry.Event (Take id r)) past s =
    record s { reader = true; lanes = lane_union (lanes_of (submitter id past)) s.lanes }
with_entry (entry.Event (Cancel lane)) past s = s
with_entry (entry.Event (End lane call o)) past s = s
with_entry (entry.Added lane call) past s = s
with_entry (entry.LetGo lane) past s = s
with_entry (entry.Kept fault) past s = s

-- Those whom the new entries of a journal concern.
abbrev pub entries_concern : List Entry → List Entry → WakeSet
entries_concern [] past = nobody
entries_concern (e ∷ more) past = with_entry e (more ++ past) (entries_concern more past)

-- ---- A hold

-- The numbers among the counts by which a change may concern threads that wait.
abbrev pub tide_of : Counts → Tide
tide_of counts = record { written = counts.written; stage = counts.stage; phase = counts.phase }

-- The set with those whom the numbers concern: everybody if the phase changed, the sender and the reader if the stage
-- did, and the reader if frames were written.
abbrev pub with_tide : Tide → Tide → WakeSet → WakeSet
with_tide before after s =
    if after.phase == before.phase then (if after.stage == before.stage then
    (if after.written == before.written then s else record s { reader = true })
    else record s { sender = true; reader = true }) else everybody

-- Those whom a hold concerns that added these entries to the journal.
abbrev pub concerns : Tide → Tide → List Entry → List Entry → WakeSet
concerns before after more past = with_tide before after (entries_concern more past)

-- ---- Counts of changes

-- The numbers of changes that concerned the sender, the reader and each lane.
pub record ChangeCounts : Type 0 where
  pub sender : ℕ
  pub reader : ℕ
  pub lanes : List ℕ

abbrev pub change_counts : ℕ → ℕ → List ℕ → ChangeCounts
change_counts sender reader lanes = record { sender = sender; reader = reader; lanes = lanes }

abbrev pub next_count : ℕ → ℕ
next_count n = (n + 1) % 2 ^ 64

abbrev pub raised_if : Bool → ℕ → ℕ
raised_if true n = next_count n
raised_if false n = n

abbrev pub raised_at : ℕ → List ℕ → List ℕ
raised_at k [] = []
raised_at zero (n ∷ ns) = next_count n ∷ ns
raised_at (suc k) (n ∷ ns) = n ∷ raised_at k ns

abbrev pub raised_in : LaneSet → List ℕ → List ℕ
raised_in lane_set.Empty ns = ns
raised_in (lane_set.One lane) ns = raised_at lane ns
raised_in lane_set.All ns = map next_count ns

-- A lane without a count of its own waits as the reader does.
abbrev pub lanes_wake_reader : ℕ → LaneSet → Bool
lanes_wake_reader count lane_set.Empty = false
lanes_wake_reader count (lane_set.One lane) = nat_le count lane
lanes_wake_reader count lane_set.All = true

abbrev pub wakes_reader : ℕ → WakeSet → Bool
wakes_reader count s = s.reader || lanes_wake_reader count s.lanes

abbrev pub wakes_lane : ℕ → LaneSet → Bool
wakes_lane k lane_set.Empty = false
wakes_lane k (lane_set.One lane) = lane == k
wakes_lane k lane_set.All = true

-- The counts after a change that concerns the set.
abbrev pub counts_after : WakeSet → ChangeCounts → ChangeCounts
counts_after s g = record {
  sender = raised_if s.sender g.sender;
  reader = raised_if (wakes_reader (length g.lanes) s) g.reader;
  lanes = raised_in s.lanes g.lanes;
}

abbrev pub count_or : Option ℕ → ℕ → ℕ
count_or (Some n) other = n
count_or None other = other

-- The count at which a thread waits.
abbrev pub count_of : Waiter → ChangeCounts → ℕ
count_of waiter.Sender g = g.sender
count_of waiter.Reader g = g.reader
count_of (waiter.Lane lane) g = count_or (slice_get g.lanes lane) g.reader

abbrev pub wakes_at : Option ℕ → ℕ → ℕ → WakeSet → Bool
wakes_at (Some n) count lane s = wakes_lane lane s.lanes
wakes_at None count lane s = wakes_reader count s

-- True if the set has the thread.
abbrev pub wakes : Waiter → ChangeCounts → WakeSet → Bool
wakes waiter.Sender g s = s.sender
wakes waiter.Reader g s = wakes_reader (length g.lanes) s
wakes (waiter.Lane lane) g s = wakes_at (slice_get g.lanes lane) (length g.lanes) lane s

-- ---- Entries that wake

abbrev pub is_request : Entry → Bool
is_request (entry.Event (Submit o id r)) = true
is_request (entry.Event Send) = false
is_request (entry.Event (Take id r)) = false
is_request (entry.Event (Cancel lane)) = false
is_request (entry.Event (End lane call o)) = false
is_request (entry.Added lane call) = false
is_request (entry.LetGo lane) = false
is_request (entry.Kept fault) = false

abbrev pub is_reply : Entry → Bool
is_reply (entry.Event (Submit o id r)) = false
is_reply (entry.Event Send) = false
is_reply (entry.Event (Take id r)) = true
is_reply (entry.Event (Cancel lane)) = false
is_reply (entry.Event (End lane call o)) = false
is_reply (entry.Added lane call) = false
is_reply (entry.LetGo lane) = false
is_reply (entry.Kept fault) = false

-- The lanes that wait for the entry, after a journal.
abbrev pub replied_lanes : Entry → List Entry → LaneSet
replied_lanes (entry.Event (Submit o id r)) past = lane_set.Empty
replied_lanes (entry.Event Send) past = lane_set.Empty
replied_lanes (entry.Event (Take id r)) past = lanes_of (submitter id past)
replied_lanes (entry.Event (Cancel lane)) past = lane_set.Empty
replied_lanes (entry.Event (End lane call o)) past = lane_set.Empty
replied_lanes (entry.Added lane call) past = lane_set.Empty
replied_lanes (entry.LetGo lane) past = lane_set.Empty
replied_lanes (entry.Kept fault) past = lane_set.Empty

-- True if one of the new entries of a journal is a reply to a request of the lane.
abbrev pub answers_lane : ℕ → List Entry → List Entry → Bool
answers_lane lane [] past = false
answers_lane lane (e ∷ more) past = wakes_lane lane (replied_lanes e (more ++ past)) || answers_lane lane more past
