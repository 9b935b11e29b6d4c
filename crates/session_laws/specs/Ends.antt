-- Cancels and ends of calls, CLOSEs of due grants, and releases of lanes.
use Rattle.std.specs.Prelude.{
  ◌≡◌,
  ◌≢◌,
  ◌⊎◌,
  ◌<◌,
  ◌≤◌,
  ◌^◌,
  ℕ,
  Bool,
  true,
  false,
  List,
  [],
  ◌∷◌,
  length,
  Some,
  None,
  slice_get,
}
use Rattle.std.specs.List.{list_any}
use Rattle.sftp_model.specs.Slots.{grant_of, slot_has}
use Rattle.sftp_model.specs.declared.request.Request.TheVariants as request
use Rattle.sftp_model.specs.declared.reply.Reply.TheVariants as reply
use Rattle.sftp_model.specs.declared.slot.Site.{Site}
use Rattle.sftp_model.specs.declared.slot.Facts.{Facts}
use Rattle.sftp_model.specs.declared.slot.Slot.{Slot}
use Rattle.sftp_core.specs.Core.{Core, core_after_abandon, after_poll, record_at, core_after_release, reply_in}
use Rattle.sftp_core.specs.Grant.{GrantValue}
use Rattle.plan_runner.specs.declared.next.Running.{Running}
use Rattle.plan_runner.specs.Cancelling.{left_behind}
use Rattle.plan_runner.specs.Pending.{AwaitsNoMore, own_place}
use Rattle.plan_runner.specs.Sound.{KeepsSite as Stays}
use Rattle.plan_runner.specs.Runners.{bytes_of}
use Rattle.plan_model.specs.declared.call.Call.{Call}
use Rattle.session_model.specs.declared.event.Event.TheVariants.{Cancel, Submit}
use Rattle.session_model.specs.declared.event.Owner.TheVariants as owner
use Rattle.session_model.specs.declared.entry.Entry.{Entry}
use Rattle.session_model.specs.declared.entry.Entry.TheVariants as entry
use Rattle.session_model.specs.Readings.{answer}
use Rattle.session_model.specs.Calls.{Setting, current}
use Rattle.session_model.specs.Grants.{IsSettled, closed_grants, is_one_of, next_due}
use Rattle.session_model.specs.Journals.{IsNext, MustClose, cancelled_end}
use Rattle.session_model.specs.Steady.{IsCancellableRun}
use Rattle.session_model.specs.Turns.{ClosesTo, begun_but}
use Rattle.session_laws.specs.Changes.{closed_lane, ended_lane, granted_lane, spent_lane, with_lane}
use Rattle.session_laws.specs.Dues.{unheld_of}
use Rattle.session_laws.specs.Lanes.{Held, LaneValue, SessionTied, Ticketed, grant_places}
use Rattle.session_laws.specs.Letting.{ReleasesSlots}
use Rattle.session_laws.specs.Places.{is_in}
use Rattle.session_laws.specs.Budgets.{KeepsIdBudget}
use Rattle.session_laws.specs.Rest.{AtRest, IsBetweenSteps, CountsJournal, LaneAsks, weigh}

-- ---- The grant that is due next

-- The CLOSE of a grant that the session released.
abbrev pub close_entry : GrantValue → Entry
close_entry grant = entry.Event (Submit owner.Close grant.id (request.Close grant.handle))

-- The core after it was released, with a CLOSE whose reply nobody awaits.
abbrev pub let_go : Core → GrantValue → Core
let_go core grant = core_after_abandon (core_after_release core grant) grant.id

-- The grant at index k of a lane, which is due next, is closed.
pub record ClosesDue (s : Setting) (past : List Entry) (core : Core) (lanes : ℕ → LaneValue) (begun : ℕ → Bool)
    (lane k : ℕ) (g : Held) (rest : List ℕ) : Type 0 where
  pub due : next_due s past ≡ Some g.place
  pub must : MustClose past g.place (close_entry g.grant)
  pub next : IsNext s past (close_entry g.grant)
  pub between : IsBetweenSteps s (close_entry g.grant ∷ past) (let_go core g.grant)
      (with_lane lanes lane (closed_lane (lanes lane) k)) begun rest
  pub work : weigh (let_go core g.grant) < weigh core

-- ---- Cancels

-- The call of a lane is cancelled, and has ended.
abbrev pub cancelled_past : List Entry → ℕ → List Entry
cancelled_past past lane = cancelled_end (entry.Event (Cancel lane) ∷ past) lane ∷ entry.Event (Cancel lane) ∷ past

-- The call of a lane was cancelled, and these grants of the lane are due then.
pub record CancelsRunning (s : Setting) (past : List Entry) (core : Core) (lanes : ℕ → LaneValue) (begun : ℕ → Bool)
    (lane : ℕ)
    (v : LaneValue) : Type 0 where
  pub first : IsNext s past (entry.Event (Cancel lane))
  pub second : IsNext s (entry.Event (Cancel lane) ∷ past) (cancelled_end (entry.Event (Cancel lane) ∷ past) lane)
  pub between : IsBetweenSteps s (cancelled_past past lane) core (with_lane lanes lane v) (begun_but begun lane)
      (unheld_of v.site (grant_places v.grants))

-- The ticket of the call's own request is dropped: its reply is missing, or brings no handle.
pub record DropsTicket (core new : Core) (v now : LaneValue) : Type 0 where
  pub k : ℕ
  pub ticket : Ticketed
  pub here : slice_get v.tickets k ≡ Some ticket
  pub own : own_place v.running ≡ Some ticket.place
  pub ungranted : (handle : List ℕ) → reply_in (record_at core ticket.ticket) ≢ Some (reply.Handle handle)
  pub left : new ≡ core_after_abandon core ticket.ticket
  pub lane : now ≡ ended_lane (spent_lane v k None v.site) v.site

-- The HANDLE that the call awaited had come: it is polled, and is a grant of the lane.
pub record PollsHandle (core new : Core) (v now : LaneValue) : Type 0 where
  pub k : ℕ
  pub ticket : Ticketed
  pub handle : List ℕ
  pub here : slice_get v.tickets k ≡ Some ticket
  pub own : own_place v.running ≡ Some ticket.place
  pub came : reply_in (record_at core ticket.ticket) ≡ Some (reply.Handle handle)
  pub left : new ≡ after_poll core ticket.ticket
  pub lane : now ≡ ended_lane (granted_lane v k ticket handle None v.site) v.site

-- The call awaited no reply to a request of its own: all tickets stay, and the slots await no more than before.
pub record KeepsTickets (core new : Core) (v now : LaneValue) : Type 0 where
  pub none : own_place v.running ≡ None
  pub left : new ≡ core
  pub lane : now ≡ ended_lane v now.site
  pub fewer : AwaitsNoMore v.site now.site
  pub stays : (facts : Facts) → Stays facts v.site now.site

-- A lane gives up what its call awaits.
pub data GivesUp (core new : Core) (v now : LaneValue) : Type 0 where
  Dropped : DropsTicket core new v now → GivesUp core new v now
  Polled : PollsHandle core new v now → GivesUp core new v now
  Kept : KeepsTickets core new v now → GivesUp core new v now

-- The lane's slots then hold what its call leaves if it is cancelled from here.
abbrev pub LeavesSite : List Entry → Setting → Call → LaneValue → LaneValue → Type 0
LeavesSite past s c v now = (r : Running) → v.running ≡ Some r
    → left_behind r (bytes_of c) v.site s.facts [] (answer past) ≡ now.site

-- ---- Tickets that nothing awaits

-- The effect of a dropped ticket on a session at rest.
pub record ForgetsTicket (s : Setting) (past : List Entry) (core : Core) (lanes : ℕ → LaneValue) (begun : ℕ → Bool)
    (lane k : ℕ) (t : Ticketed) : Type 0 where
  pub rest : AtRest s past (core_after_abandon core t.ticket) (with_lane lanes lane
      (spent_lane (lanes lane) k None (lanes lane).site)) begun
  pub work : weigh (core_after_abandon core t.ticket) ≤ weigh core

-- ---- Releases of lanes

-- A lane is being released: of the slots that it had these are left.
pub record LettingGo (s : Setting) (past : List Entry) (core : Core) (lanes : ℕ → LaneValue) (begun : ℕ → Bool)
    (lane : ℕ) (rest : List Slot) : Type 0 where
  pub good : IsCancellableRun s past begun
  pub site : Site
  pub letting : ReleasesSlots s past site rest
  pub tied : SessionTied s past core lanes (grant_places (lanes lane).grants)
  pub counted : CountsJournal past core
  pub asks : (w : ℕ) → w < length s.lanes → LaneAsks past w (lanes w)
  pub spends : KeepsIdBudget s past core lanes
  -- A grant of these slots that the lane no longer has, has its CLOSE.
  pub gone : (g : ℕ) → list_any (slot_has g) rest ≡ true → is_in g (grant_places (lanes lane).grants) ≡ false
      → is_one_of (closed_grants s past) g ≡ true
  -- The journal before the lane was released.
  pub from : List Entry
  pub plain : IsSettled s from
  pub over : current s from lane ≡ None
  pub closes : ClosesTo s (entry.LetGo lane ∷ from) past

-- The slot's grant stays: the slot has none, a later slot has it, or the lane no longer has it.
abbrev pub StaysOpen : List Held → Slot → List Slot → Type 0
StaysOpen grants slot rest = (g : ℕ) → grant_of slot ≡ Some g → (list_any (slot_has g) rest ≡ true)
    ⊎ (is_in g (grant_places grants) ≡ false)

-- The grant of a slot, at index k of the lane's grants, is closed, and the slot is done.
pub record ClosesSlot (s : Setting) (past : List Entry) (core : Core) (lanes : ℕ → LaneValue) (begun : ℕ → Bool)
    (lane k : ℕ) (g : Held) (rest : List Slot) : Type 0 where
  pub due : next_due s past ≡ Some g.place
  pub must : MustClose past g.place (close_entry g.grant)
  pub next : IsNext s past (close_entry g.grant)
  pub letting : LettingGo s (close_entry g.grant ∷ past) (let_go core g.grant)
      (with_lane lanes lane (closed_lane (lanes lane) k)) begun lane rest
