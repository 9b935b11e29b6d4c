-- believed
-- Lanes of runners: what each holds and awaits, by the journal of their session.
use Rattle.std.specs.Prelude.{
  ◌≡◌,
  ◌≢◌,
  ◌<◌,
  ◌≤◌,
  ◌==◌,
  ℕ,
  Bool,
  true,
  false,
  List,
  [],
  ◌∷◌,
  length,
  Option,
  Some,
  None,
  if◌then◌else◌,
}
use Rattle.sftp_model.specs.declared.slot.Site.{Site}
use Rattle.sftp_core.specs.Core.{Core, record_at}
use Rattle.sftp_core.specs.Grant.{GrantValue}
use Rattle.sftp_core.specs.declared.info.Info.{Info}
use Rattle.plan_runner.specs.declared.next.Running.{Running}
use Rattle.plan_runner.specs.Runners.{bytes_of}
use Rattle.plan_runner.specs.Sound.{AreWithin, IsRunningSound}
use Rattle.plan_runner.specs.Pending.{pends}
use Rattle.plan_model.specs.declared.call.Call.{Call}
use Rattle.session_model.specs.declared.event.Owner.{Owner}
use Rattle.session_model.specs.declared.entry.Entry.{Entry}
use Rattle.session_model.specs.Readings.{AskedRequest, answer, asked_at, count_ended, own, unsent_requests}
use Rattle.session_model.specs.Calls.{Setting, current, site_of}
use Rattle.session_model.specs.Grants.{closed_grants, holds as is_holder, is_asked_by, is_grant, is_one_of}
use Rattle.session_model.specs.Ids.{Replied, id_state}
use Rattle.session_laws.specs.Running.{CancelTied, RunTied}
use Rattle.session_laws.specs.Places.{IsRising, is_in}
use Rattle.session_laws.specs.Tables.{TableMatches, place_of}
use Rattle.sftp_model.specs.declared.reply.Reply.TheVariants as reply
use Rattle.sftp_core.specs.declared.handshake.Handshake.TheVariants as core_phase
use Rattle.session_model.specs.declared.event.Owner.TheVariants as owner

-- ---- A lane

-- A ticket, and the place of its request.
pub record Ticketed : Type 0 where
  pub place : ℕ
  pub ticket : ℕ

-- A grant, and the place of its request.
pub record Held : Type 0 where
  pub place : ℕ
  pub grant : GrantValue

-- The data of a lane.
pub record LaneValue : Type 0 where
  pub running : Option Running
  pub site : Site
  pub tickets : List Ticketed
  pub grants : List Held
  pub ended : ℕ

abbrev pub ticket_places : List Ticketed → List ℕ
ticket_places [] = []
ticket_places (t ∷ ts) = t.place ∷ ticket_places ts

abbrev pub grant_places : List Held → List ℕ
grant_places [] = []
grant_places (g ∷ gs) = g.place ∷ grant_places gs

-- ---- Tickets and grants of a lane

-- True if the request belongs to the lane.
abbrev pub is_of : Owner → ℕ → Bool
is_of (owner.Call l c) lane = l == lane
is_of owner.Setup lane = false
is_of owner.Close lane = false

-- The last request under the ticket's id is at its place.
abbrev pub TicketsTied : List Entry → List Ticketed → Type 0
TicketsTied past [] = Unit {0}
TicketsTied past (t ∷ ts) = (place_of (id_state past t.ticket) ≡ Some t.place) × TicketsTied past ts

-- The last request under the grant's id brought its handle.
abbrev pub GrantsTied : List Entry → List Held → Type 0
GrantsTied past [] = Unit {0}
GrantsTied past (g ∷ gs) = ((a : AskedRequest) × (id_state past g.grant.id
    ≡ Replied g.place a (reply.Handle g.grant.handle)))
    × GrantsTied past gs

-- The lane asked for each of these.
abbrev pub AllOf : List Entry → ℕ → List ℕ → Type 0
AllOf past lane [] = Unit {0}
AllOf past lane (p ∷ ps) = ((a : AskedRequest) × ((asked_at past p ≡ Some a) × (is_of a.by lane ≡ true)))
    × AllOf past lane ps

-- The tickets and grants of a lane, if these grants are due for their CLOSE.
pub record LaneHolds (s : Setting) (past : List Entry) (lane : ℕ) (tickets : List Ticketed) (grants : List Held)
    (dues : List ℕ) : Type 0 where
  pub tied : TicketsTied past tickets
  pub tied_of : AllOf past lane (ticket_places tickets)
  pub tied_rise : IsRising (ticket_places tickets)
  pub held : GrantsTied past grants
  pub held_of : AllOf past lane (grant_places grants)
  pub held_rise : IsRising (grant_places grants)
  -- A place has a ticket or a grant, not both.
  pub apart : (g : ℕ) → is_in g (grant_places grants) ≡ true → is_in g (ticket_places tickets) ≡ false
  -- An unanswered request of the current call has a ticket.
  pub asks : (p : ℕ) → is_asked_by (asked_at past p) lane (count_ended past lane) ≡ true → answer past p ≡ None
      → is_in p (ticket_places tickets) ≡ true
  -- Each grant that the lane holds is among its grants, or is a reply that was not polled.
  pub whole : (g : ℕ) → is_grant past g ≡ true → is_one_of (closed_grants s past) g ≡ false → is_holder s past g lane
      ≡ true
      → is_in g (grant_places grants) ≡ false → is_in g (ticket_places tickets) ≡ true
  -- The lane holds each of its grants that is not due.
  pub holding : (g : ℕ) → is_in g (grant_places grants) ≡ true → (is_grant past g ≡ true)
      × ((is_one_of (closed_grants s past) g ≡ false) × (is_in g dues ≡ false → is_holder s past g lane ≡ true))

-- ---- The runner of a lane

-- The call of a lane follows its plan; if none was started the lane has its site between calls.
abbrev pub AtTied : Setting → List Entry → ℕ → Option Running → Site → Type 0
AtTied s past lane None site = (own past lane (count_ended past lane) ≡ []) × (site ≡ site_of s past lane)
AtTied s past lane (Some r) site = RunTied s past lane (Some r) site × CancelTied s past lane (Some r) site
    × (current s past lane ≢ None)

-- A runner may continue.
abbrev pub MayGoOn : Setting → List Entry → ℕ → Option Running → Site → Type 0
MayGoOn s past lane None site = Unit {0}
MayGoOn s past lane (Some r) site = (c : Call) → current s past lane ≡ Some c
    → IsRunningSound r (bytes_of c) site s.facts

-- The number of tickets that a place has.
abbrev pub tickets_for : List ℕ → ℕ → ℕ
tickets_for tickets q = if is_in q tickets then 1 else 0

-- The state of a lane's runner, if tickets of these places are left.
pub record LaneGoes (s : Setting) (past : List Entry) (lane : ℕ) (running : Option Running) (site : Site)
    (tickets : List ℕ) : Type 0 where
  pub sixteen : length site.slots ≡ 16
  pub within : AreWithin s.facts site
  pub runs : AtTied s past lane running site
  pub sound : MayGoOn s past lane running site
  -- Each awaited reply has a ticket, and so has each write that a slot has deferred; none is awaited twice.
  pub awaits : (q : ℕ) → pends q running site ≤ tickets_for tickets q

-- A lane is as the journal says.
pub record LaneTied (s : Setting) (past : List Entry) (lane : ℕ) (v : LaneValue) (dues : List ℕ) : Type 0 where
  pub ends : v.ended ≡ count_ended past lane
  pub holds : LaneHolds s past lane v.tickets v.grants dues
  pub goes : LaneGoes s past lane v.running v.site (ticket_places v.tickets)

-- ---- The session

-- The value of the test for the lane that a request belongs to.
abbrev pub by_owner : Owner → (ℕ → Bool) → Bool
by_owner (owner.Call l c) f = f l
by_owner owner.Setup f = false
by_owner owner.Close f = false

abbrev pub by_asker : Option AskedRequest → (ℕ → Bool) → Bool
by_asker None f = false
by_asker (Some a) f = by_owner a.by f

-- True if the lane that asked for a place has it among these.
abbrev pub among : List Entry → (ℕ → List ℕ) → ℕ → Bool
among past places p = by_asker (asked_at past p) (λ lane. is_in p (places lane))

-- The places that the lanes have tickets of.
abbrev pub tickets_of : (ℕ → LaneValue) → ℕ → List ℕ
tickets_of lanes w = ticket_places (lanes w).tickets

-- The places that the lanes have grants of.
abbrev pub grants_of : (ℕ → LaneValue) → ℕ → List ℕ
grants_of lanes w = grant_places (lanes w).grants

-- The core of an open session without a fault.
pub record CoreTied (s : Setting) (past : List Entry) (core : Core) : Type 0 where
  pub info : Info
  pub phase : core.phase ≡ core_phase.Open info
  pub read_len : s.facts.read_len ≡ info.read_len
  pub unfailed : core.fault ≡ None
  pub greeted : core.hello_sent ≡ true
  pub queue : core.queue ≡ unsent_requests past

-- Core and lanes are as the journal says; these grants of the lanes are due for their CLOSE.
pub record SessionTied (s : Setting) (past : List Entry) (core : Core) (lanes : ℕ → LaneValue) (dues : List ℕ) : Type 0
  where
    pub work : CoreTied s past core
    pub table : TableMatches past (among past (tickets_of lanes)) (among past (grants_of lanes)) (record_at core)
    pub each : (lane : ℕ) → lane < length s.lanes → LaneTied s past lane (lanes lane) dues
