-- believed
-- Readings of a session's journal: what it records of its requests. A journal is read with its newest entry first, so
-- that the change by a new entry is one case. A place is the number of a request among all that were submitted.
use Rattle.std.specs.Prelude.{
  ℕ,
  zero,
  suc,
  ◌+◌,
  ◌==◌,
  Bool,
  true,
  false,
  ◌&&◌,
  List,
  [],
  ◌∷◌,
  ◌++◌,
  Option,
  Some,
  None,
  is_none,
  if◌then◌else◌,
  reverse,
}
use Rattle.std.specs.List.{flat_map}
use Rattle.sftp_model.specs.declared.request.Request.{Request}
use Rattle.sftp_model.specs.declared.outcome.Outcome.{Outcome}
use Rattle.sftp_model.specs.declared.reply.Reply.{Reply}
use Rattle.sftp_model.specs.Frames.{request_frame, frames_of}
use Rattle.plan_model.specs.Moves.{Own}
use Rattle.session_model.specs.declared.event.Owner.{Owner}
use Rattle.session_model.specs.declared.event.Owner.TheVariants as owner
use Rattle.session_model.specs.declared.event.Event.{Event}
use Rattle.session_model.specs.declared.event.Event.TheVariants.{Submit, Send, Take, Cancel, End}
use Rattle.session_model.specs.declared.entry.Entry.{Entry}
use Rattle.session_model.specs.declared.entry.Entry.TheVariants as entry

-- The events of a journal, the newest first.
abbrev pub events_of : List Entry → List Event
events_of [] = []
events_of (entry.Event e ∷ past) = e ∷ events_of past
events_of (_ ∷ past) = events_of past

-- ---- Requests

-- The number of requests that were submitted, which is the place of the next.
abbrev pub count_submitted : List Entry → ℕ
count_submitted [] = 0
count_submitted (entry.Event (Submit by id r) ∷ past) = count_submitted past + 1
count_submitted (_ ∷ past) = count_submitted past

-- A request that was submitted: on whose behalf, and under which id.
pub record AskedRequest : Type 0 where
  pub by : Owner
  pub id : ℕ
  pub request : Request

-- The request at a place.
abbrev pub asked_at : List Entry → ℕ → Option AskedRequest
asked_at [] place = None
asked_at (entry.Event (Submit by id r) ∷ past) place = if place == count_submitted past then
    Some (record { by = by; id = id; request = r }) else asked_at past place
asked_at (_ ∷ past) place = asked_at past place

-- The place of the last request that has an id.
abbrev pub bearer : List Entry → ℕ → Option ℕ
bearer [] id = None
bearer (entry.Event (Submit by i r) ∷ past) id = if i == id then Some (count_submitted past) else bearer past id
bearer (_ ∷ past) id = bearer past id

-- True if the place is this one.
abbrev pub is_at : Option ℕ → ℕ → Bool
is_at None place = false
is_at (Some p) place = p == place

-- The reply to the request at a place: a Take answers the last request that has its id.
abbrev pub answer : List Entry → ℕ → Option Reply
answer [] place = None
answer (entry.Event (Take id r) ∷ past) place = if is_at (bearer past id) place then Some r else answer past place
answer (_ ∷ past) place = answer past place

-- The number of requests that were sent, which are all those before the last Send.
abbrev pub count_sent : List Entry → ℕ
count_sent [] = 0
count_sent (entry.Event Send ∷ past) = count_submitted past
count_sent (_ ∷ past) = count_sent past

-- The ids and requests after the last Send, the oldest first.
abbrev pub unsent_requests : List Entry → List (ℕ × Request)
unsent_requests [] = []
unsent_requests (entry.Event Send ∷ past) = []
unsent_requests (entry.Event (Submit by id r) ∷ past) = unsent_requests past ++ (id, r) ∷ []
unsent_requests (_ ∷ past) = unsent_requests past

-- The frames of the unsent requests.
abbrev pub unsent_bytes : List Entry → List ℕ
unsent_bytes past = frames_of (unsent_requests past)

-- ---- Unanswered requests

-- The place, if there is no reply to it.
abbrev pub still_open : (ℕ → Option Reply) → Option ℕ → Option ℕ
still_open answers None = None
still_open answers (Some place) = if is_none (answers place) then Some place else None

-- The place of the unanswered request that has an id.
abbrev pub place_awaiting : List Entry → ℕ → Option ℕ
place_awaiting past id = still_open (answer past) (bearer past id)

-- The number of passing numbers among the first n.
abbrev pub count_below : (ℕ → Bool) → ℕ → ℕ
count_below f zero = 0
count_below f (suc n) = (if f n then 1 else 0) + count_below f n

-- The number of unanswered requests among the first n.
abbrev pub unanswered_below : List Entry → ℕ → ℕ
unanswered_below past n = count_below (λ place. is_none (answer past place)) n

-- The number of unanswered requests.
abbrev pub count_unanswered : List Entry → ℕ
count_unanswered past = unanswered_below past (count_submitted past)

-- The number of requests that were sent and are unanswered.
abbrev pub count_awaited : List Entry → ℕ
count_awaited past = unanswered_below past (count_sent past)

-- ---- Requests of a call

-- True if the owner is this call.
abbrev pub is_by : Owner → ℕ → ℕ → Bool
is_by (owner.Call l c) lane call = (l == lane) && (c == call)
is_by owner.Setup lane call = false
is_by owner.Close lane call = false

-- A call's own requests, the oldest first: the place of each, and the request that was asked there.
abbrev pub own : List Entry → ℕ → ℕ → Own
own [] lane call = []
own (entry.Event (Submit by id r) ∷ past) lane call = if is_by by lane call then own past lane call
    ++ (count_submitted past, r) ∷ [] else own past lane call
own (_ ∷ past) lane call = own past lane call

-- ---- Contents of a journal

-- The number of calls of a lane that have ended, which is the number of its next.
abbrev pub count_ended : List Entry → ℕ → ℕ
count_ended [] lane = 0
count_ended (entry.Event (End l call o) ∷ past) lane = if l == lane then count_ended past lane + 1 else
    count_ended past lane
count_ended (_ ∷ past) lane = count_ended past lane

-- The lane whose Cancel is the last entry.
abbrev pub last_cancel : List Entry → Option ℕ
last_cancel (entry.Event (Cancel lane) ∷ past) = Some lane
last_cancel past = None

-- True if a lane was released.
abbrev pub was_let_go : List Entry → ℕ → Bool
was_let_go [] lane = false
was_let_go (entry.LetGo l ∷ past) lane = if l == lane then true else was_let_go past lane
was_let_go (_ ∷ past) lane = was_let_go past lane

-- True if a fault was recorded.
abbrev pub was_kept : List Entry → Bool
was_kept [] = false
was_kept (entry.Kept fault ∷ past) = true
was_kept (_ ∷ past) = was_kept past

-- ---- Reports

-- The events, the oldest first.
abbrev pub trace_of : List Entry → List Event
trace_of past = reverse (events_of past)

-- The outcomes of a lane's calls, in their order.
abbrev pub outcomes_of : List Entry → ℕ → List Outcome
outcomes_of [] lane = []
outcomes_of (entry.Event (End l call o) ∷ past) lane = if l == lane then outcomes_of past lane ++ o ∷ [] else
    outcomes_of past lane
outcomes_of (_ ∷ past) lane = outcomes_of past lane

-- The outcomes of the first n lanes.
abbrev pub outcomes_below : List Entry → ℕ → List (List Outcome)
outcomes_below past zero = []
outcomes_below past (suc lane) = outcomes_below past lane ++ outcomes_of past lane ∷ []
