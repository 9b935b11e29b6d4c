-- believed
-- A session of lanes between two entries of its journal, and at rest.
use Rattle.std.specs.Prelude.{
  ◌≡◌,
  ◌⊎◌,
  ◌<◌,
  ◌+◌,
  ◌*◌,
  ℕ,
  Bool,
  true,
  false,
  List,
  [],
  Option,
  Some,
  None,
  length,
  is_some,
}
use Rattle.sftp_model.specs.declared.reply.Reply.{Reply}
use Rattle.sftp_model.specs.declared.request.Request.{Request}
use Rattle.sftp_model.specs.declared.request.Request.TheVariants as request
use Rattle.sftp_model.specs.declared.slot.Site.{Site}
use Rattle.sftp_model.specs.Answers.{may_answer}
use Rattle.sftp_core.specs.Core.{Core}
use Rattle.sftp_core.specs.Table.{count, is_owing, is_sent, is_waiting}
use Rattle.plan_runner.specs.declared.next.Running.{Running}
use Rattle.plan_runner.specs.Asking.{IsAmong, opened_by}
use Rattle.plan_runner.specs.Runners.{awaited_place as awaited_by}
use Rattle.plan_runner.specs.Pending.{own_place, reads_under}
use Rattle.plan_window.specs.declared.window.ReadAt.{ReadAt}
use Rattle.plan_runner.specs.Sound.{IsFittingReply}
use Rattle.session_model.specs.declared.entry.Entry.{Entry}
use Rattle.session_model.specs.Readings.{AskedRequest, asked_at, count_awaited, count_unanswered}
use Rattle.session_model.specs.Calls.{Setting}
use Rattle.session_model.specs.Grants.{is_asked_by, next_due}
use Rattle.session_model.specs.Steady.{IsCancellableRun}
use Rattle.session_laws.specs.Dues.{AreDueGrants}
use Rattle.session_laws.specs.Lanes.{LaneValue, SessionTied, grant_places, ticket_places}
use Rattle.session_laws.specs.Places.{is_in}
use Rattle.session_laws.specs.Budgets.{KeepsIdBudget}

-- ---- Counts

-- The core counts what the journal counts.
pub record CountsJournal (past : List Entry) (core : Core) : Type 0 where
  pub waiting : count is_waiting core.table ≡ count_unanswered past
  pub sent : count is_sent core.table ≡ count_awaited past

-- The work that the replies to come still cause in a session: a handle that may come, or has come, is to be closed.
abbrev pub weigh : Core → ℕ
weigh core = count is_waiting core.table + 2 * count is_owing core.table

-- ---- Replies that a lane's call awaits

-- The grant that a call opened itself, and that no slot has.
abbrev pub opened_in : Option Running → Option ℕ
opened_in None = None
opened_in (Some r) = opened_by r

-- The reply fits the call that awaits it.
abbrev pub RunFits : Option Running → Reply → Type 0
RunFits None y = Unit {0}
RunFits (Some r) y = IsFittingReply r (Some y)

-- The place of the reply with which a lane continues.
abbrev pub awaited_in : Option Running → Site → Option ℕ
awaited_in None site = None
awaited_in (Some r) site = awaited_by r site

-- True for a READ or a WRITE, whose reply brings no handle.
abbrev pub is_transfer : Request → Bool
is_transfer (request.Read handle offset len) = true
is_transfer (request.Write handle offset content) = true
is_transfer other = false

-- Such a request is at the place.
pub record IsTransferAt (past : List Entry) (p : ℕ) : Type 0 where
  pub asked : AskedRequest
  pub here : asked_at past p ≡ Some asked
  pub transfers : is_transfer asked.request ≡ true

-- The READ is at its place, with this offset and length.
pub record IsReadAt (past : List Entry) (x : ReadAt) : Type 0 where
  pub asked : AskedRequest
  pub here : asked_at past x.place ≡ Some asked
  pub handle : List ℕ
  pub reads : asked.request ≡ request.Read handle x.offset x.len

-- The replies that a lane awaits. Its call awaits the reply to its own last request, or those to the READs of a whole
-- read; its slots await the replies to READs and WRITEs.
pub record LaneAsks (past : List Entry) (lane : ℕ) (v : LaneValue) : Type 0 where
  pub current : (p : ℕ) → own_place v.running ≡ Some p → is_asked_by (asked_at past p) lane v.ended ≡ true
  pub only : (p : ℕ) → is_in p (ticket_places v.tickets) ≡ true → (own_place v.running ≡ Some p) ⊎ IsTransferAt past p
  pub keeps : (g : ℕ) → opened_in v.running ≡ Some g → is_in g (grant_places v.grants) ≡ true
  pub fits : (p : ℕ) (a : AskedRequest) (y : Reply) → awaited_in v.running v.site ≡ Some p → asked_at past p ≡ Some a
      → may_answer a.request y ≡ true → RunFits v.running y
  pub reads : (x : ReadAt) → IsAmong x (reads_under v.running) → IsReadAt past x

-- ---- The session

-- The lanes that run a call.
abbrev pub begun_of : (ℕ → LaneValue) → ℕ → Bool
begun_of lanes = λ lane. is_some (lanes lane).running

-- Core and lanes are as the journal says, and these grants are due for their CLOSE. Between two steps the lanes that
-- were started are those that run a call. A turn that leaves no entry may leave a lane that runs a call and was not
-- started.
pub record IsBetweenSteps (s : Setting) (past : List Entry) (core : Core) (lanes : ℕ → LaneValue) (begun : ℕ → Bool)
    (dues : List ℕ) : Type 0 where
  pub good : IsCancellableRun s past begun
  pub due : AreDueGrants s past dues
  pub tied : SessionTied s past core lanes dues
  pub counted : CountsJournal past core
  pub asks : (lane : ℕ) → lane < length s.lanes → LaneAsks past lane (lanes lane)
  pub spends : KeepsIdBudget s past core lanes

-- The same, and no grant is due.
pub record AtRest (s : Setting) (past : List Entry) (core : Core) (lanes : ℕ → LaneValue) (begun : ℕ → Bool) : Type 0
  where
    pub between : IsBetweenSteps s past core lanes begun []
    pub settled : next_due s past ≡ None
