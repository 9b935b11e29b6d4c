-- Effects of one turn of a lane on the lane and its core, for any call.
use Rattle.std.specs.Prelude.{
  ◌≡◌,
  ◌≤◌,
  ℕ,
  List,
  [],
  ◌∷◌,
  ◌++◌,
  length,
  Option,
  Some,
  None,
  slice_get,
  true,
  false,
  IsSome,
}
use Rattle.sftp_model.specs.declared.reply.Reply.{Reply}
use Rattle.sftp_model.specs.declared.request.Request.{Request}
use Rattle.sftp_model.specs.declared.slot.Facts.{Facts}
use Rattle.sftp_model.specs.declared.slot.Site.{Site}
use Rattle.sftp_core.specs.Core.{Core, record_at, queued_last, core_after_release, reply_in}
use Rattle.sftp_core.specs.Grant.{GrantValue}
use Rattle.sftp_core.specs.Info.{info_of}
use Rattle.plan_model.specs.Moves.{Answers, Plan}
use Rattle.plan_model.specs.TransferPlans.{joined_parts}
use Rattle.plan_runner.specs.declared.next.Asked.{Asked}
use Rattle.plan_runner.specs.declared.next.Next.{Next}
use Rattle.plan_runner.specs.declared.next.Running.{Running}
use Rattle.plan_runner.specs.Runners.{
  RunsByPlan,
  AnswersWhileWaiting,
  after,
  awaited_place,
  bytes_of,
  idle,
  waits as plan_waits,
}
use Rattle.plan_runner.specs.Cancelling.{LeavesCancelled, SiteAfterCancel, left_after, left_behind}
use Rattle.plan_runner.specs.Sound.{AreWithin, AsksWithin, IsFittingReply, IsSound, IsRunningSound, KeepsRunningSound}
use Rattle.plan_runner.specs.Pending.{PendsAfter, pends, pends_after, pends_idle, reads_under, slots_times}
use Rattle.plan_runner.specs.Asking.{
  BeginsAsking,
  GoesOnAsking,
  GoesOnBy,
  HasGrant,
  IsOfCall,
  OwnOn,
  ReadsOn,
  WidensAsking,
  is_window,
  opened_after,
}
use Rattle.plan_model.specs.declared.call.Call.{Call}
use Rattle.plan_model.specs.declared.call.Call.TheVariants as call
use Rattle.session_model.specs.Grants.{is_close}
use Rattle.session_laws.specs.Lanes.{Held, LaneValue, Ticketed, grant_places, ticket_places, tickets_for}
use Rattle.session_laws.specs.Places.{is_in, without_index}
use Rattle.session_laws.specs.Budgets.{makes_many}
use Rattle.session_laws.specs.Rest.{opened_in}
use Rattle.session_work.specs.Tokens.{IsFilledBy, NamesHeld, SpendsTicket, TellReplies}
use Rattle.session_work.specs.declared.lane.Moved.{Moved}
use Rattle.session_work.specs.declared.lane.Moved.TheVariants as moved
use Rattle.sftp_model.specs.declared.request.Request.TheVariants as request
use Rattle.plan_runner.specs.declared.next.Asked.TheVariants as asked
use Rattle.plan_runner.specs.declared.next.Next.TheVariants as step
use Rattle.plan_model.specs.CallPlans.{site_after_cancel, next}

-- ---- Bytes that a call carries

-- The bytes of a call's parts, if it has parts.
abbrev pub joined_of : Call → List ℕ
joined_of (call.WriteParts slot parts) = joined_parts parts
joined_of other = []

-- ---- Answers of a runner

-- The clauses of a runner's answer, if its request would have this place. `old` is the site before, and `new` the site
-- after.
pub record AnswersByPlan (c : Call) (facts : Facts) (place : ℕ) (plan : Plan) (leave : SiteAfterCancel) (before : ℕ → ℕ)
    (old new : Site)
    (n : Next) : Type 0 where
  pub goes : RunsByPlan plan place (bytes_of c) new facts n
  pub left : LeavesCancelled leave place (bytes_of c) new facts n
  pub sound : KeepsRunningSound (bytes_of c) facts old new n
  pub pends : PendsAfter before place new n

-- The answer at the start of a call.
abbrev pub BeginsLaneCall : Call → Facts → ℕ → Site → Site → Next → Type 0
BeginsLaneCall c facts place old new n = AnswersByPlan c facts place (next c old facts) (site_after_cancel c old facts)
    (pends_idle old)
    old new n

-- The answer after the reply that the call awaited, if it awaited one.
abbrev pub WentOn : Running → Option Reply → Call → Facts → ℕ → Site → Site → Next → Type 0
WentOn r reply c facts place old new n =
    AnswersByPlan c facts place (after r (bytes_of c) old facts reply) (left_after r (bytes_of c) old facts reply)
    (pends_after r old reply) old new n

-- The answer while the awaited reply is missing; the site stays.
pub record AnswersUnreplied (r : Running) (c : Call) (facts : Facts) (place : ℕ) (site : Site) (n : Next) : Type 0 where
  pub goes : AnswersWhileWaiting r place (bytes_of c) site facts n
  pub left : LeavesCancelled (left_behind r (bytes_of c) site facts) place (bytes_of c) site facts n
  pub sound : IsSound (bytes_of c) site facts n
  pub pends : PendsAfter (λ q. pends q (Some r) site) place site n

-- ---- Requests of a lane

-- A request was submitted under an id that was free.
pub record SubmitsRequest (old new : Core) (tickets now : List Ticketed) (grants held : List Held) (place : ℕ)
    (a : Asked)
    (id : ℕ) (r : Request) : Type 0 where
  pub filled : IsFilledBy grants a r
  pub plain : is_close r ≡ false
  pub free : record_at old id ≡ None
  pub core : new ≡ queued_last old id r true
  pub pushed : now ≡ tickets ++ record { place = place; ticket = id } ∷ []
  pub kept : held ≡ grants

-- A grant was released, and its CLOSE takes its place.
pub record ReleasesGrant (old new : Core) (tickets now : List Ticketed) (grants held : List Held) (place g id : ℕ)
    (r : Request) : Type 0 where
  pub k : ℕ
  pub grant : GrantValue
  pub here : slice_get grants k ≡ Some (record { place = g; grant = grant })
  pub same : id ≡ grant.id
  pub is : r ≡ request.Close grant.handle
  pub core : new ≡ core_after_release old grant
  pub pushed : now ≡ tickets ++ record { place = place; ticket = id } ∷ []
  pub kept : held ≡ without_index k grants

abbrev pub AsksOrCloses : Core → Core → List Ticketed → List Ticketed → List Held → List Held → ℕ → Asked → ℕ → Request
    → Type 0
AsksOrCloses old new tickets now grants held place (asked.Close g) id r =
    ReleasesGrant old new tickets now grants held place g id r
AsksOrCloses old new tickets now grants held place a id r = SubmitsRequest old new tickets now grants held place a id r

-- A runner may give this answer: its request carries handles of these grants.
abbrev pub MayAsk : List Held → Next → Type 0
MayAsk grants (step.Ask a r) = NamesHeld grants a × IsOfCall a
MayAsk grants other = Unit {0}

-- The answer asks no CLOSE.
abbrev pub ClosesNothing : Next → Type 0
ClosesNothing (step.Ask (asked.Close g) r) = ⊥
ClosesNothing other = Unit {0}

-- The answer isn't a wait.
abbrev pub IsActive : Next → Type 0
IsActive (step.Wait r) = ⊥
IsActive other = Unit {0}

-- An open core without a fault.
pub record IsOpen (core : Core) : Type 0 where
  pub unfailed : core.fault ≡ None
  pub ready : IsSome (info_of core.phase)

-- ---- Effects of a runner's answer

abbrev pub SettlesAsk : Core → Core → List Ticketed → List Ticketed → List Held → List Held → Option Running → ℕ → Asked
    → Running → Moved → Type 0
SettlesAsk old new tickets now grants held running place a r (moved.Asked id q) =
    AsksOrCloses old new tickets now grants held place a id q × (running ≡ Some r)
SettlesAsk old new tickets now grants held running place a r other = ⊥

pub record StaysSame (old new : Core) (tickets now : List Ticketed) (grants held : List Held) : Type 0 where
  pub core : new ≡ old
  pub pushed : now ≡ tickets
  pub kept : held ≡ grants

abbrev pub SettlesMove : Core → Core → List Ticketed → List Ticketed → List Held → List Held → Option Running → ℕ → Next
    → Moved → Type 0
SettlesMove old new tickets now grants held running place (step.Ask a r) m =
    SettlesAsk old new tickets now grants held running place a r m
SettlesMove old new tickets now grants held running place (step.Wait r) m = StaysSame old new tickets now grants held
    × (running ≡ Some r) × (m ≡ moved.Went)
SettlesMove old new tickets now grants held running place (step.Done o) m = StaysSame old new tickets now grants held
    × (running ≡ None) × (m ≡ moved.Ended o)

-- The same while a reply is missing. A call that waits then continues from the state that it had.
abbrev pub SettlesMeanwhile : Core → Core → List Ticketed → List Ticketed → List Held → List Held → Option Running → ℕ
    → Next → Moved → Type 0
SettlesMeanwhile old new tickets now grants held running place (step.Wait r) m =
    StaysSame old new tickets now grants held
    × (running ≡ Some r) × (m ≡ moved.Waits)
SettlesMeanwhile old new tickets now grants held running place n m =
    SettlesMove old new tickets now grants held running place n m

-- ---- Turns

-- A lane may continue.
abbrev pub IsSoundRun : Option Running → Call → Facts → Site → Type 0
IsSoundRun None c facts site = Unit {0}
IsSoundRun (Some r) c facts site = IsRunningSound r (bytes_of c) site facts

pub record IsSafe (c : Call) (facts : Facts) (running : Option Running) (site : Site) : Type 0 where
  pub sixteen : length site.slots ≡ 16
  pub within : AreWithin facts site
  pub sound : IsSoundRun running c facts site

-- Each reply that came for an awaited request fits it.
abbrev pub AllFit : Core → List Ticketed → Option Running → Site → Type 0
AllFit core tickets running site = (k : ℕ) (t : Ticketed) (r : Running) → slice_get tickets k ≡ Some t → running
    ≡ Some r → awaited_place r site ≡ Some t.place → IsFittingReply r (reply_in (record_at core t.ticket))

-- A READ that is asked next is within the range of offsets and the session's read length: by the awaited reply, or
-- while that is missing.
abbrev pub RangesBy : Running → List ℕ → Site → Facts → Option Reply → Type 0
RangesBy r bytes site facts None = AsksWithin facts (idle r bytes site facts)
RangesBy r bytes site facts (Some y) = AsksWithin facts (after r bytes site facts (Some y))

pub record AllInRange (c : Call) (facts : Facts) (core : Core) (tickets : List Ticketed) (running : Option Running)
    (site : Site) : Type 0 where
  pub none : (r : Running) → running ≡ Some r → awaited_place r site ≡ None
      → AsksWithin facts (after r (bytes_of c) site facts None)
  pub some : (k : ℕ) (t : Ticketed) (r : Running) → slice_get tickets k ≡ Some t → running ≡ Some r
      → awaited_place r site
      ≡ Some t.place → RangesBy r (bytes_of c) site facts (reply_in (record_at core t.ticket))

-- The lane has a ticket for the reply that its call awaits.
abbrev pub HasAwaited : LaneValue → Type 0
HasAwaited v = (r : Running) (p : ℕ) → v.running ≡ Some r → awaited_place r v.site ≡ Some p
    → is_in p (ticket_places v.tickets) ≡ true

-- Each write that a slot has deferred has a ticket.
abbrev pub HasDeferred : Site → List Ticketed → Type 0
HasDeferred site tickets = (q : ℕ) → slots_times q site.slots ≤ tickets_for (ticket_places tickets) q

-- If its call continues, it is sound by some facts.
abbrev pub IsSafeBy : Option Running → Site → Type 0
IsSafeBy running site = (c : Call) × ((facts : Facts) × IsSafe c facts running site)

-- The lane's slots then hold what its call leaves if it is cancelled here, by the replies that the core has.
abbrev pub LeavesBehind : Core → LaneValue → LaneValue → Type 0
LeavesBehind core v now =
    (r : Running) (bytes : List ℕ) (facts : Facts) (answers : Answers) → v.running ≡ Some r
    → TellReplies core v.tickets answers → left_behind r bytes v.site facts [] answers ≡ now.site

-- The lane has each grant that its call may name.
abbrev pub HoldsNamed : LaneValue → Type 0
HoldsNamed v = (g : ℕ) → HasGrant v.site (opened_in v.running) g → is_in g (grant_places v.grants) ≡ true

-- The call started.
pub record TurnBegins (c : Call) (facts : Facts) (place : ℕ) (old new : Core) (v now : LaneValue) (m : Moved) : Type 0
  where
    pub answer : Next
    pub ended : now.ended ≡ v.ended
    pub was : v.running ≡ None
    pub asks : BeginsAsking None place v.site now.site answer
    pub own : makes_many c ≡ true → OwnOn place answer
    pub ran : BeginsLaneCall c facts place v.site now.site answer
    pub settles : SettlesMove old new v.tickets now.tickets v.grants now.grants now.running place answer m

-- The call continued after the reply that it awaited.
pub record TurnReplied (c : Call) (facts : Facts) (place : ℕ) (old new : Core) (v now : LaneValue) (m : Moved) : Type 0
  where
    pub answer : Next
    pub ended : now.ended ≡ v.ended
    pub running : Running
    pub awaits : ℕ
    pub reply : Reply
    pub between : Core
    pub tickets : List Ticketed
    pub grants : List Held
    pub was : v.running ≡ Some running
    pub looks : awaited_place running v.site ≡ Some awaits
    pub asks : GoesOnAsking (opened_after running (Some reply)) place (reads_under (Some running)) v.site now.site
        answer
    pub by : GoesOnBy running (Some reply) place facts answer
    pub spent : SpendsTicket old between v.tickets tickets v.grants grants awaits reply
    pub ran : WentOn running (Some reply) c facts place v.site now.site answer
    pub settles : SettlesMove between new tickets now.tickets grants now.grants now.running place answer m

-- The call continued and awaited no reply.
pub record TurnUnreplied (c : Call) (facts : Facts) (place : ℕ) (old new : Core) (v now : LaneValue) (m : Moved) : Type
    0 where
  pub answer : Next
  pub ended : now.ended ≡ v.ended
  pub running : Running
  pub was : v.running ≡ Some running
  pub looks : awaited_place running v.site ≡ None
  pub asks : GoesOnAsking (opened_after running None) place (reads_under (Some running)) v.site now.site answer
  pub by : GoesOnBy running None place facts answer
  pub ran : WentOn running None c facts place v.site now.site answer
  pub settles : SettlesMove old new v.tickets now.tickets v.grants now.grants now.running place answer m

-- The reply that the call awaits has not come, and the call asked for more or ended.
pub record TurnWidens (c : Call) (facts : Facts) (place : ℕ) (old new : Core) (v now : LaneValue) (m : Moved) : Type 0
  where
    pub answer : Next
    pub active : IsActive answer
    pub ended : now.ended ≡ v.ended
    pub running : Running
    pub k : ℕ
    pub ticket : Ticketed
    pub was : v.running ≡ Some running
    pub looks : awaited_place running v.site ≡ Some ticket.place
    pub here : slice_get v.tickets k ≡ Some ticket
    pub missing : reply_in (record_at old ticket.ticket) ≡ None
    pub site : now.site ≡ v.site
    pub asks : WidensAsking running place v.site answer
    pub reads : is_window running ≡ true → ReadsOn place (reads_under (Some running)) facts answer
    pub ran : AnswersUnreplied running c facts place v.site answer
    pub settles : SettlesMove old new v.tickets now.tickets v.grants now.grants now.running place answer m

-- The reply has not come, and the call waits.
pub record TurnWaits (c : Call) (facts : Facts) (old new : Core) (v now : LaneValue) (m : Moved) : Type 0 where
  pub running : Running
  pub k : ℕ
  pub ticket : Ticketed
  pub was : v.running ≡ Some running
  pub looks : awaited_place running v.site ≡ Some ticket.place
  pub here : slice_get v.tickets k ≡ Some ticket
  pub missing : reply_in (record_at old ticket.ticket) ≡ None
  pub idles : (answers : Answers) → idle running (bytes_of c) v.site facts [] answers
      ≡ plan_waits (awaited_place running v.site) v.site
  pub is : m ≡ moved.Waits
  pub core : new ≡ old
  pub same : now ≡ v

-- The kinds of a turn.
pub data TurnsLane (c : Call) (facts : Facts) (place : ℕ) (old new : Core) (v now : LaneValue) (m : Moved) : Type 0
  where
    Begun : TurnBegins c facts place old new v now m → TurnsLane c facts place old new v now m
    Replied : TurnReplied c facts place old new v now m → TurnsLane c facts place old new v now m
    Unreplied : TurnUnreplied c facts place old new v now m → TurnsLane c facts place old new v now m
    Widening : TurnWidens c facts place old new v now m → TurnsLane c facts place old new v now m
    Waiting : TurnWaits c facts old new v now m → TurnsLane c facts place old new v now m
