-- believed: fresh_lane
-- Effects of a turn on one lane, and their preconditions.
use Rattle.std.specs.Prelude.{
  ◌≡◌,
  ◌+◌,
  ◌==◌,
  ℕ,
  Bool,
  true,
  false,
  List,
  [],
  ◌∷◌,
  ◌++◌,
  Some,
  Option,
  None,
  if◌then◌else◌,
}
use Rattle.sftp_model.specs.declared.slot.Site.{Site}
use Rattle.sftp_model.specs.Slots.{fresh_site}
use Rattle.sftp_model.specs.declared.reply.Reply.{Reply}
use Rattle.sftp_model.specs.declared.request.Request.{Request}
use Rattle.sftp_model.specs.Answers.{is_handle}
use Rattle.plan_runner.specs.declared.next.Running.{Running}
use Rattle.plan_model.specs.declared.call.Call.{Call}
use Rattle.session_model.specs.declared.event.Event.TheVariants.{Send, Submit, Take}
use Rattle.session_model.specs.declared.entry.Entry.{Entry}
use Rattle.session_model.specs.Readings.{AskedRequest, answer, asked_at, count_ended, own}
use Rattle.session_model.specs.Calls.{Setting, site_of}
use Rattle.session_model.specs.Grants.{closed_grants, holds, is_grant, is_one_of}
use Rattle.session_model.specs.Ids.{Replied, id_state}
use Rattle.session_laws.specs.Places.{IsBelow, IsRising, is_in, with_places, without_index}
use Rattle.session_laws.specs.Tables.{place_of}
use Rattle.session_laws.specs.Lanes.{
  AllOf,
  GrantsTied,
  Held,
  LaneValue,
  Ticketed,
  among,
  grant_places,
  ticket_places,
  tickets_of,
  is_of,
}
use Rattle.session_model.specs.declared.event.Owner.TheVariants as owner
use Rattle.session_model.specs.declared.entry.Entry.TheVariants as entry
use Rattle.sftp_model.specs.declared.reply.Reply.TheVariants as reply

-- The lanes with this value for one lane.
abbrev pub with_lane : (ℕ → LaneValue) → ℕ → LaneValue → ℕ → LaneValue
with_lane lanes lane v w = if lane == w then v else lanes w

-- ---- A ticket is consumed: its reply was polled, or it was dropped

-- True for the places that are still awaited without the ticket at an index.
abbrev pub wants_but : List Entry → (ℕ → LaneValue) → ℕ → ℕ → ℕ → Bool
wants_but past lanes lane k = among past (with_places (tickets_of lanes) lane
    (without_index k (ticket_places (lanes lane).tickets)))

-- The lane without that ticket.
abbrev pub spent_lane : LaneValue → ℕ → Option Running → Site → LaneValue
spent_lane v k running site = record {
  running = running;
  site = site;
  tickets = without_index k v.tickets;
  grants = v.grants;
  ended = v.ended;
}

-- ---- A HANDLE is polled

-- The grant that a ticket brought.
abbrev pub grant_of_ticket : Ticketed → List ℕ → Held
grant_of_ticket t handle = record { place = t.place; grant = record { id = t.ticket; handle = handle } }

-- The lane with that grant.
abbrev pub granted_lane : LaneValue → ℕ → Ticketed → List ℕ → Option Running → Site → LaneValue
granted_lane v k t handle running site = record {
  running = running;
  site = site;
  tickets = without_index k v.tickets;
  grants = v.grants ++ grant_of_ticket t handle ∷ [];
  ended = v.ended;
}

-- The handle came for a request after those of the lane's grants. The lane holds the grant, or it is due.
pub record BringsHandle (s : Setting) (past : List Entry) (lane : ℕ) (gs : List Held) (dues : List ℕ) (t : Ticketed)
    (handle : List ℕ) : Type 0 where
  pub asked : AskedRequest
  pub came : id_state past t.ticket ≡ Replied t.place asked (reply.Handle handle)
  pub got : answer past t.place ≡ Some (reply.Handle handle)
  pub unclosed : is_one_of (closed_grants s past) t.place ≡ false
  pub holder : is_in t.place dues ≡ false → holds s past t.place lane ≡ true
  pub newer : IsBelow t.place (grant_places gs)

-- ---- A request is submitted

-- The lane with its newest ticket, and the grants that are left.
abbrev pub asking_lane : LaneValue → ℕ → ℕ → List Held → Running → Site → LaneValue
asking_lane v place id left r site = record {
  running = Some r;
  site = site;
  tickets = v.tickets
      ++ (record { place = place; ticket = id }) ∷ [];
  grants = left;
  ended = v.ended;
}

-- If the id has a place, it is none of these.
abbrev pub IsBare : List Entry → ℕ → List ℕ → Type 0
IsBare past id ps = (p : ℕ) → place_of (id_state past id) ≡ Some p → is_in p ps ≡ false

-- The grants that are left after a request: all, or all except the one whose CLOSE it is.
pub record GrantsLeft (s : Setting) (past : List Entry) (e : Entry) (lane : ℕ) (gs left : List Held)
    (dues rest : List ℕ) : Type 0 where
  pub held : GrantsTied past left
  pub held_of : AllOf past lane (grant_places left)
  pub held_rise : IsRising (grant_places left)
  pub some : (q : ℕ) → is_in q (grant_places left) ≡ true → is_in q (grant_places gs) ≡ true
  pub gone : (q : ℕ) → is_in q (grant_places left) ≡ false → is_one_of (closed_grants s (e ∷ past)) q ≡ false
      → is_in q (grant_places gs) ≡ false
  pub unclosed : (q : ℕ) → is_in q (grant_places left) ≡ true → is_one_of (closed_grants s (e ∷ past)) q ≡ false
  pub less : (q : ℕ) → is_one_of (closed_grants s (e ∷ past)) q ≡ false → is_one_of (closed_grants s past) q ≡ false
  pub holder : (q : ℕ) → is_in q (grant_places left) ≡ true → is_grant past q ≡ true → is_in q rest ≡ false
      → (is_in q dues ≡ false → holds s past q lane ≡ true) → holds s (e ∷ past) q lane ≡ true

-- The lane without the grant at an index.
abbrev pub closed_lane : LaneValue → ℕ → LaneValue
closed_lane v k = record {
  running = v.running;
  site = v.site;
  tickets = v.tickets;
  grants = without_index k v.grants;
  ended =
      v.ended;
}

-- ---- A call ends

-- The lane between its calls.
abbrev pub ended_lane : LaneValue → Site → LaneValue
ended_lane v site = record { running = None; site = site; tickets = v.tickets; grants = v.grants; ended = v.ended + 1 }

-- ---- A lane is released

-- The site with nothing in its slots.
abbrev pub bare_site : Site → Site
bare_site site = record { slots = fresh_site.slots; directory = site.directory }

-- The lane with nothing in its slots; its tickets and grants are still to be dropped and closed.
abbrev pub let_go_lane : LaneValue → LaneValue
let_go_lane v = record {
  running = None;
  site = bare_site v.site;
  tickets = v.tickets;
  grants = v.grants;
  ended =
      v.ended;
}

-- ---- Start

-- A lane that has done nothing.
abbrev pub fresh_lane : LaneValue
fresh_lane = record { running = None; site = fresh_site; tickets = []; grants = []; ended = 0 }

-- Nothing has happened to a lane yet, and no handle has come.
pub record HasNoHistory (s : Setting) (past : List Entry) : Type 0 where
  pub ends : (lane : ℕ) → count_ended past lane ≡ 0
  pub owns : (lane : ℕ) → own past lane 0 ≡ []
  pub asks : (p lane : ℕ) (a : AskedRequest) → asked_at past p ≡ Some a → is_of a.by lane ≡ false
  pub site : (lane : ℕ) → site_of s past lane ≡ fresh_site
  pub ungranted : (g : ℕ) → is_grant past g ≡ false

-- This holds with no entry, and after a request of the session's own, a Send, a reply without a handle and a call that
-- is added.
pub record StaysUnbegun (s : Setting) (past : List Entry) : Type 0 where
  pub queried : (id : ℕ) (r : Request) → HasNoHistory s (entry.Event (Submit owner.Setup id r) ∷ past)
  pub sent : HasNoHistory s (entry.Event Send ∷ past)
  pub taken : (id : ℕ) (r : Reply) → is_handle r ≡ false → HasNoHistory s (entry.Event (Take id r) ∷ past)
  pub added : (lane : ℕ) (c : Call) → HasNoHistory s (entry.Added lane c ∷ past)
