-- believed, except ticket_of, StartsByPlan, MaySend, MayGoOn, IsUnderWay, BeginsCall, MayPoll, LeavesCall
-- The state of a call that is running, for any call, and the effect of a start and a poll on it by the call's plan.
use Rattle.std.specs.Prelude.{◌≡◌, ◌≢◌, ◌⊎◌, ℕ, Bool, true, false, List, [], Option, Some, None, Result, Ok, Err, IsSome}
use Rattle.sftp_model.specs.Answers.{allows_reply}
use Rattle.sftp_model.specs.declared.answers.Expected.{Expected}
use Rattle.sftp_model.specs.declared.error.Error.{Error}
use Rattle.sftp_model.specs.declared.error.Error.TheVariants as error
use Rattle.sftp_model.specs.declared.reply.Reply.{Reply}
use Rattle.sftp_model.specs.declared.reply.Reply.TheVariants as reply
use Rattle.sftp_model.specs.declared.slot.Move.{Move}
use Rattle.sftp_model.specs.declared.slot.Move.TheVariants.{Ask, Done, Wait}
use Rattle.plan_model.specs.Moves.{Answers, Own, Plan}
use Rattle.sftp_core.specs.declared.id_record.IdRecord.TheVariants.{Granted}
use Rattle.sftp_core.specs.Core.{Core, core_after_abandon, after_poll, record_at, core_after_release, reply_in}
use Rattle.sftp_core.specs.Grant.{GrantValue}
use Rattle.plan_state.specs.declared.submission.Asking.{Asking}
use Rattle.plan_state.specs.declared.poll.Poll.{Poll}
use Rattle.plan_state.specs.declared.poll.Poll.TheVariants as poll
use Rattle.plan_state.specs.declared.stage.Stage.{Stage}
use Rattle.plan_state.specs.declared.stage.Stage.TheVariants.{Ended, Ready, Unsent, Asked, Came}
use Rattle.plan_state.specs.declared.told.Told.{Told}
use Rattle.plan_state.specs.declared.told.Told.TheVariants as told
use Rattle.plan_state.specs.Asked.{HoldsTicket, IsReady, SubmitsAsking}
use Rattle.plan_state.specs.Keeping.{KeepsHeld, KeepsGrants, StaysOpen}
use Rattle.plan_state.specs.Runners.{GoesBehind, MayAsk, Meaning}
use Rattle.plan_state.specs.Told.{IsCounted, IsFormed, grant_in, reply_of}

-- ---- A state

-- The stage of a call, and its runner.
pub record CallValue (M : Type 0) : Type 0 where
  pub stage : Stage
  pub runner : M

-- True if the call has returned its result.
abbrev pub is_ended : Stage → Bool
is_ended Ended = true
is_ended other = false

-- The number of the awaited ticket.
abbrev pub ticket_of : Stage → Option ℕ
ticket_of (Asked ticket) = Some ticket
ticket_of other = None

-- The reply that came may be passed to a runner that awaits it.
pub record IsAllowed {W M V : Type 0} (s : Meaning W M V) (core : Core) (m : M) (t : Told) : Type 0 where
  pub allowed : allows_reply (s.expected m) (reply_of t) ≡ true
  pub formed : IsFormed t
  pub counted : IsCounted core t

-- The core and the runner can continue with the stage.
abbrev pub IsHeldAt : {W M V : Type 0} → Meaning W M V → Core → M → Stage → Type 0
IsHeldAt s core m Ended = Unit {0}
IsHeldAt s core m Ready = s.ready m
IsHeldAt s core m (Unsent asking) = MayAsk s asking m × (s.again ≡ true)
IsHeldAt s core m (Asked ticket) = HoldsTicket core ticket (s.expected m)
IsHeldAt s core m (Came t) = IsAllowed s core m t

abbrev pub IsHeld : {W M V : Type 0} → Meaning W M V → Core → CallValue M → Type 0
IsHeld s core call = IsHeldAt s core call.runner call.stage

-- From here a plan continues as the call does.
abbrev pub IsLeftAt : {W M V : Type 0} → Meaning W M V → W → Plan → Answers → M → Stage → Type 0
IsLeftAt s w plan answers m Ended = Unit {0}
IsLeftAt s w plan answers m Ready = plan [] answers ≡ s.first w m
IsLeftAt s w plan answers m (Unsent asking) = GoesBehind s w plan answers asking m
IsLeftAt s w plan answers m other = s.known m answers × ((later : Own) → plan later answers ≡ s.left w m later answers)

abbrev pub IsLeft : {W M V : Type 0} → Meaning W M V → W → Plan → Answers → CallValue M → Type 0
IsLeft s w plan answers call = IsLeftAt s w plan answers call.runner call.stage

-- The reply to the awaited request is the one that the core, or the call, has.
abbrev pub TellsAt : {W M V : Type 0} → Meaning W M V → Core → M → Stage → Answers → Type 0
TellsAt s core m (Asked ticket) answers = answers (s.place m) ≡ reply_in (record_at core ticket)
TellsAt s core m (Came t) answers = answers (s.place m) ≡ Some (reply_of t)
TellsAt s core m other answers = Unit {0}

abbrev pub TellsReply : {W M V : Type 0} → Meaning W M V → Core → CallValue M → Answers → Type 0
TellsReply s core call answers = TellsAt s core call.runner call.stage answers

-- ---- A start and a poll

-- The core after the awaited reply was polled.
abbrev pub polled_core : Core → Stage → Core
polled_core core (Asked ticket) = after_poll core ticket
polled_core core other = core

-- The plan waits for a reply that is missing, and nothing changed.
pub record WaitsForReply {W M V : Type 0} (s : Meaning W M V) (plan : Plan) (answers : Answers) (old new : Core)
    (p q : CallValue M) (result : Poll (Result V Error)) : Type 0 where
  pub pending : result ≡ poll.Pending
  pub waits : plan [] answers ≡ Wait (s.place p.runner)
  pub unfailed : old.fault ≡ None
  pub core : new ≡ old
  pub same : q ≡ p

-- The plan asks this request; it was submitted, and its reply is awaited.
pub record AsksAndAwaits {W M V : Type 0} (s : Meaning W M V) (w : W) (plan : Plan) (answers : Answers) (old new : Core)
    (q : CallValue M) : Type 0 where
  pub asking : Asking
  pub ticket : ℕ
  pub awaits : q.stage ≡ Asked ticket
  pub behind : GoesBehind s w plan answers asking q.runner
  pub cut : s.cut q.runner asking
  pub submitted : SubmitsAsking old asking ticket new

-- The plan asks or waits.
abbrev pub IsUnfinished : Move → Type 0
IsUnfinished (Ask asked) = Unit {0}
IsUnfinished (Wait place) = Unit {0}
IsUnfinished (Done o site) = ⊥

-- The effect of a move of the plan: the request that it asks, or the value with which it ends. After `OutOfMemory` the
-- call may be polled again, and continues with the same move: it has the reply that came, or the request.
abbrev pub MovesByPlan : {W M V : Type 0} → Meaning W M V → W → Plan → Answers → Core → Core → CallValue M
    → Poll (Result V Error) → Type 0
MovesByPlan s w plan answers old new q poll.Pending = AsksAndAwaits s w plan answers old new q
MovesByPlan s w plan answers old new q (poll.Ready (Err error.OutOfMemory)) = IsLeft s w plan answers q × (new ≡ old)
    × TellsReply s new q answers
MovesByPlan s w plan answers old new q (poll.Ready (Err (error.BackgroundTaskFailure fault))) = (old.fault ≡ Some fault)
    × (is_ended q.stage ≡ true) × IsUnfinished (plan [] answers) × (new ≡ old)
MovesByPlan s w plan answers old new q (poll.Ready value) = (plan [] answers ≡ s.ended w q.runner value)
    × (is_ended q.stage ≡ true) × (new ≡ old)

-- The result of a poll, by the next move of the plan.
abbrev pub PollsByPlan : {W M V : Type 0} → Meaning W M V → W → Plan → Answers → Core → Core → CallValue M → CallValue M
    → Poll (Result V Error) → Type 0
PollsByPlan s w plan answers old new p q result = WaitsForReply s plan answers old new p q result
    ⊎ MovesByPlan s w plan answers (polled_core old p.stage) new q result

-- The result of a start, by the first move of the plan: a call that awaits its request or has its value; or an error,
-- after which the core is unchanged.
abbrev pub StartsByPlan : {W M V : Type 0} → Meaning W M V → W → (Error → Move) → Plan → Answers → Core → Core
    → Result (CallValue M) Error → Type 0
StartsByPlan s w refused plan answers old new (Ok q) = AsksAndAwaits s w plan answers old new q
    ⊎ (IsLeft s w plan answers q × (q.stage ≡ Ready) × (new ≡ old))
StartsByPlan s w refused plan answers old new (Err error.OutOfMemory) = new ≡ old
StartsByPlan s w refused plan answers old new (Err (error.BackgroundTaskFailure fault)) = (old.fault ≡ Some fault)
    × (new ≡ old) × IsUnfinished (plan [] answers)
StartsByPlan s w refused plan answers old new (Err e) = (plan [] answers ≡ refused e) × (new ≡ old)

-- The core counts one user of the grant, if there is one.
abbrev pub CountsGrant : Core → Option GrantValue → Type 0
CountsGrant core None = Unit {0}
CountsGrant core (Some g) = record_at core g.id ≡ Some (Granted g.handle 1)

-- The core counts one user of the grant of the value that a poll returned, if it returned one.
abbrev pub HoldsReady : {W M V : Type 0} → Meaning W M V → Core → Poll (Result V Error) → Type 0
HoldsReady s core (poll.Ready (Ok value)) = CountsGrant core (s.grant value)
HoldsReady s core other = Unit {0}

-- ---- The grant of a call

-- The grant that the reply to a ticket brings: it has the ticket's number and the handle of the HANDLE.
abbrev pub grant_by : ℕ → Option Reply → Option GrantValue
grant_by ticket (Some (reply.Handle handle)) = Some (record { id = ticket; handle = handle })
grant_by ticket other = None

-- The grant that came for a call: by the reply to its ticket, or already with the call.
abbrev pub grant_brought : Core → Stage → Option GrantValue
grant_brought core (Asked ticket) = grant_by ticket (reply_in (record_at core ticket))
grant_brought core (Came t) = grant_in t
grant_brought core other = None

-- The grant after a poll of the call: the value has it, or the call still has it.
abbrev pub grant_after : {W M V : Type 0} → Meaning W M V → Core → Stage → Poll (Result V Error) → Option GrantValue
grant_after s core stage (poll.Ready (Ok value)) = s.grant value
grant_after s core stage other = grant_brought core stage

-- The call has this grant, which no file has yet.
abbrev pub IsGrantOf : Stage → ℕ → Type 0
IsGrantOf (Came (told.Granted g)) id = g.id ≡ id
IsGrantOf other id = ⊥

-- The number does not belong to the call: it is not that of the ticket that it awaits, nor of the grant that it has.
abbrev pub IsNoneOfCall : Stage → ℕ → Type 0
IsNoneOfCall (Asked ticket) id = id ≢ ticket
IsNoneOfCall (Came (told.Granted g)) id = id ≢ g.id
IsNoneOfCall other id = Unit {0}

-- Each grant stays except one that the call had.
abbrev pub KeepsGrantsOfOthers : Core → Core → Stage → Type 0
KeepsGrantsOfOthers old new stage = (id : ℕ) (handle : List ℕ) (users : ℕ) → (IsGrantOf stage id → ⊥)
    → record_at old id ≡ Some (Granted handle users)
    → record_at new id ≡ Some (Granted handle users)

-- ---- Conditions and effects of the calls of each function

-- A request may be submitted for a runner whose call awaits nothing.
pub record MaySend {W M V : Type 0} (s : Meaning W M V) (core : Core) (call : CallValue M) (asking : Asking) : Type 0
  where
    pub over : is_ended call.stage ≡ true
    pub ready : IsReady core
    pub asks : MayAsk s asking call.runner
    pub again : s.again ≡ true

-- A runner whose call awaits nothing may continue with the reply that came.
pub record MayGoOn {W M V : Type 0} (s : Meaning W M V) (core : Core) (call : CallValue M) (t : Told) : Type 0 where
  pub over : is_ended call.stage ≡ true
  pub ready : s.again ≡ true → IsReady core
  pub came : IsAllowed s core call.runner t

-- A call has not returned its result, and the core and its runner can continue.
pub record IsUnderWay {W M V : Type 0} (s : Meaning W M V) (core : Core) (call : CallValue M) : Type 0 where
  pub over : is_ended call.stage ≡ false
  pub held : IsHeld s core call

-- A request of a call was submitted, and the call awaits its reply.
pub record BeginsCall {W M V : Type 0} (s : Meaning W M V) (asking : Asking) (m : M) (old new : Core)
    (call : CallValue M) :
    Type 0 where
  pub under_way : IsUnderWay s new call
  pub runner : call.runner ≡ m
  pub ticket : ℕ
  pub awaits : call.stage ≡ Asked ticket
  pub submitted : SubmitsAsking old asking ticket new

-- A call may be polled.
pub record MayPoll {W M V : Type 0} (s : Meaning W M V) (core : Core) (call : CallValue M) : Type 0 where
  pub under_way : IsUnderWay s core call
  pub ready : s.again ≡ true → IsReady core

-- A call has ended if it returned a value or an error other than `OutOfMemory`.
abbrev pub IsOver : {V : Type 0} → Stage → Poll (Result V Error) → Type 0
IsOver stage poll.Pending = is_ended stage ≡ false
IsOver stage (poll.Ready (Err error.OutOfMemory)) = is_ended stage ≡ false
IsOver stage (poll.Ready value) = is_ended stage ≡ true

-- This holds if the poll ran out of memory.
abbrev pub IfOutOfMemory : {V : Type 0} → Poll (Result V Error) → Type 0 → Type 0
IfOutOfMemory (poll.Ready (Err error.OutOfMemory)) P = P
IfOutOfMemory other P = Unit {0}

-- The call has what it continues with: the reply that came, or the request that was not submitted.
abbrev pub CanContinue : Core → Stage → Type 0
CanContinue core (Unsent asking) = Unit {0}
CanContinue core (Asked ticket) = IsSome (reply_in (record_at core ticket))
CanContinue core (Came t) = Unit {0}
CanContinue core other = ⊥

-- A call without a result awaits a ticket whose reply is missing.
abbrev pub AwaitsReply : {V : Type 0} → Core → Stage → Poll (Result V Error) → Type 0
AwaitsReply core stage poll.Pending = (ticket : ℕ) × ((stage ≡ Asked ticket)
    × (reply_in (record_at core ticket) ≡ None))
AwaitsReply core stage other = Unit {0}

-- The call does not await the reply to this ticket.
abbrev pub IsNotOf : Stage → ℕ → Type 0
IsNotOf stage ticket = stage ≡ Asked ticket → ⊥

-- Each ticket that others hold stays held, and does not belong to the call.
abbrev pub KeepsOtherTickets : Core → Core → Stage → Stage → Type 0
KeepsOtherTickets old new before after = (ticket : ℕ) (kind : Expected) → IsNotOf before ticket
    → HoldsTicket old ticket kind
    → HoldsTicket new ticket kind × IsNotOf after ticket

-- The effect of continuing from a stage with a runner, for any plan.
pub record LeavesCall {W M V : Type 0} (s : Meaning W M V) (old new : Core) (before : Stage) (q : CallValue M)
    (result : Poll (Result V Error)) : Type 0 where
  pub held : IsHeld s new q
  pub over : IsOver q.stage result
  pub awaits : AwaitsReply new q.stage result
  pub holds : HoldsReady s new result
  pub brings : grant_after s new q.stage result ≡ grant_brought old before
  pub keeps : KeepsHeld old new
  pub others : KeepsOtherTickets old new before q.stage
  pub memory : IfOutOfMemory result (s.again ≡ true)

-- A poll made the next move of each plan whose rest is the call, whatever replies are still to come.
--
-- The call may be polled again or cancelled, and it awaits a reply if it has no result. Its runner keeps its
-- properties. The grant that came by the reply to its ticket belongs to the value, or the call still has it, and the
-- core counts it. Every grant stays, the replies that others await stay, and the session stays open. The poll may run
-- out of memory only if the call may ask a further request and its reply came.
pub record StepsByPlan {W M V : Type 0} (s : Meaning W M V) (old new : Core) (p q : CallValue M)
    (result : Poll (Result V Error)) : Type 0 where
  pub polled : (w : W) (plan : Plan) (answers : Answers) → IsLeft s w plan answers p → TellsReply s old p answers
      → PollsByPlan s w plan answers old new p q result
  pub held : IsHeld s new q
  pub over : IsOver q.stage result
  pub awaits : AwaitsReply new q.stage result
  pub holds : HoldsReady s new result
  pub brings : grant_after s new q.stage result ≡ grant_brought old p.stage
  pub grants : KeepsGrants old new
  pub others : KeepsOtherTickets old new p.stage q.stage
  pub stays : s.stays p.runner q.runner
  pub memory : IfOutOfMemory result ((s.again ≡ true) × CanContinue old p.stage)

-- ---- A cancel

-- The core after the reply that came was dropped: a handle is closed.
abbrev pub core_after_drop : Core → Told → Core
core_after_drop core (told.Reply r) = core
core_after_drop core (told.Granted g) = core_after_abandon (core_after_release core g) g.id

-- The core after a call was cancelled.
abbrev pub core_after_cancel : Core → Stage → Core
core_after_cancel core (Asked ticket) = core_after_abandon core ticket
core_after_cancel core (Came t) = core_after_drop core t
core_after_cancel core other = core

-- The effect of a cancel. Every other grant stays, the replies that others await stay, and the session stays open.
pub record CancelsAwaited (old new : Core) (stage : Stage) : Type 0 where
  pub core : new ≡ core_after_cancel old stage
  pub grants : KeepsGrantsOfOthers old new stage
  pub opened : StaysOpen old new
  pub others : (ticket : ℕ) (kind : Expected) → IsNotOf stage ticket → HoldsTicket old ticket kind
      → HoldsTicket new ticket kind
