-- What a call does is the move of each plan that it is left of.
use Rattle.std.proofs.Common.{◌≡◌, ◌∙◌, refl, sym, ap, subst, ℕ, true, [], ◌∷◌, Some, None, Result, Ok, Err, inl, inr}
use Rattle.sftp_model.specs.declared.error.Error.{Error}
use Rattle.sftp_model.specs.declared.error.Error.TheVariants as error
use Rattle.sftp_model.specs.declared.error.Fault.{Fault}
use Rattle.sftp_model.specs.declared.slot.Move.{Move}
use Rattle.sftp_model.specs.declared.slot.Move.TheVariants.{Ask, Wait}
use Rattle.plan_model.specs.Moves.{Answers, Own, Plan}
use Rattle.sftp_core.specs.Core.{Core, after_poll, record_at, reply_in}
use Rattle.plan_state.specs.declared.stage.Stage.{Stage}
use Rattle.plan_state.specs.declared.stage.Stage.TheVariants.{Ended, Ready, Asked, Came, Unsent}
use Rattle.plan_state.proofs.Grants.{told_gives, told_holds}
use Rattle.plan_state.proofs.Keeping.{keeps_same}
use Rattle.plan_state.proofs.OthersKept.{ended_idle, idle_others}
use Rattle.plan_state.specs.Runners.{HandsGrantOn, GoesBehind, IsOwn, Meaning}
use Rattle.plan_state.specs.declared.runner.Then.TheVariants as then
use Rattle.plan_state.specs.declared.submission.Asking.{Asking}
use Rattle.plan_state.specs.Asked.{SubmitsAsking, request_of}
use Rattle.plan_state.specs.Calls.{
  AsksAndAwaits,
  CallValue,
  IfOutOfMemory,
  IsHeldAt,
  IsLeft,
  IsLeftAt,
  IsOver,
  IsUnfinished,
  LeavesCall,
  PollsByPlan,
  TellsReply,
  TellsAt,
  MovesByPlan,
  is_ended,
  polled_core,
}
use Rattle.plan_state.specs.declared.poll.Poll.{Poll}
use Rattle.plan_state.specs.declared.poll.Poll.TheVariants as poll
use Rattle.plan_state.specs.declared.told.Told.{Told}
use Rattle.plan_state.specs.Told.{IsCounted, reply_of}
use Rattle.sftp_model.specs.declared.reply.Reply.{Reply}

-- a plan that goes on as a runner asks what the runner asks
pub behind_by : {W M V : Type 0} (s : Meaning W M V) (w : W) (plan : Plan) (answers : Answers) (asking : Asking)
    (m next : M)
    → ((later : Own) → plan later answers ≡ s.left w m later answers) → GoesBehind s w (s.left w m) answers asking next
    → GoesBehind s w plan answers asking next
behind_by s w plan answers asking m next same b =
    record {
      asks = same [] ∙ b.asks;
      rest = λ later. same ((s.place next, request_of asking) ∷ later) ∙ b.rest later;
      knows = b.knows;
    }

-- and ends as it
pub ended_by : {W M V : Type 0} (s : Meaning W M V) (w : W) (plan : Plan) (answers : Answers) (old new : Core)
    (q : CallValue M) (value : Result V Error)
    → IsOwn value → plan [] answers ≡ s.ended w q.runner value → is_ended q.stage ≡ true → new ≡ old
    → MovesByPlan s w plan answers old new q (poll.Ready value)
ended_by s w plan answers old new q (Ok value) own done over same = (done, over, same)
ended_by s w plan answers old new q (Err error.OutOfMemory) own done over same = absurd own
ended_by s w plan answers old new q (Err (error.BackgroundTaskFailure fault)) own done over same = absurd own
ended_by s w plan answers old new q (Err other) own done over same = (done, over, same)

-- what was submitted is awaited
pub sent_by : {W M V : Type 0} (s : Meaning W M V) (w : W) (plan : Plan) (answers : Answers) (old new : Core) (m : M)
    (asking : Asking) (ticket : ℕ) (q : CallValue M)
    → q.stage ≡ Asked ticket → q.runner ≡ m → GoesBehind s w plan answers asking m → s.cut m asking
    → SubmitsAsking old asking ticket new → AsksAndAwaits s w plan answers old new q
sent_by s w plan answers old new m asking ticket q is same b cut submitted =
    record {
      asking = asking;
      ticket = ticket;
      awaits = is;
      behind =
          subst (λ x. GoesBehind s w plan answers asking x) (sym same) b;
      cut =
          subst (λ x. s.cut x asking) (sym same) cut;
      submitted = submitted;
    }

-- the runner goes on behind what it asks
pub asks_behind : {W M V : Type 0} (s : Meaning W M V) (w : W) (plan : Plan) (answers : Answers) (asking : Asking)
    (now m next : M) (r : Reply) → now ≡ m
    → (s.known now answers → answers (s.place now) ≡ Some r → GoesBehind s w (s.left w now) answers asking next)
    → s.known m answers → answers (s.place m) ≡ Some r → ((later : Own) → plan later answers ≡ s.left w m later answers)
    → GoesBehind s w plan answers asking next
asks_behind s w plan answers asking now m next r e f known came same =
    behind_by s w plan answers asking m next same (subst (λ x. s.known x answers → answers (s.place x) ≡ Some r
    → GoesBehind s w (s.left w x) answers asking next) e f known came)

pub unfinished_by : (x y : Move) → x ≡ y → IsUnfinished y → IsUnfinished x
unfinished_by x y e h = subst IsUnfinished (sym e) h

-- a kept fault is answered in place of a request
pub asks_failed : {W M V : Type 0} (s : Meaning W M V) (w : W) (plan : Plan) (answers : Answers) (old new : Core)
    (q : CallValue M) (asking : Asking) (m : M) (fault : Fault)
    → GoesBehind s w plan answers asking m → old.fault ≡ Some fault → is_ended q.stage ≡ true → new ≡ old
    → MovesByPlan {V = V} s w plan answers old new q (poll.Ready (Err (error.BackgroundTaskFailure fault)))
asks_failed s w plan answers old new q asking m fault b kept over same =
    (kept, over, unfinished_by (plan [] answers) (Ask (request_of asking)) b.asks tt, same)

-- ---- a poll, by what was awaited

-- or in place of a reply
pub failed_polled : {W M V : Type 0} (s : Meaning W M V) (w : W) (plan : Plan) (answers : Answers) (old new : Core)
    (p q : CallValue M) (ticket : ℕ) (fault : Fault)
    → ((later : Own) → answers (s.place p.runner) ≡ None → s.left w p.runner later answers ≡ Wait (s.place p.runner))
    → p.stage ≡ Asked ticket → reply_in (record_at old ticket) ≡ None → (after_poll old ticket).fault ≡ Some fault
    → is_ended q.stage ≡ true → new ≡ after_poll old ticket → IsLeft s w plan answers p → TellsReply s old p answers
    → PollsByPlan {V = V} s w plan answers old new p q (poll.Ready (Err (error.BackgroundTaskFailure fault)))
failed_polled s w plan answers old new p q ticket fault waits is none kept over core left tells =
    let l = subst (λ x. IsLeftAt s w plan answers p.runner x) is left in
    let told : answers (s.place p.runner) ≡ reply_in (record_at old ticket) =
    subst (λ x. TellsAt s old p.runner x answers) is tells in
    inr (
      subst (λ x. (polled_core old x).fault ≡ Some fault) (sym is) kept,
      over,
      unfinished_by (plan [] answers) (Wait (s.place p.runner)) (l.1 [] ∙ waits [] (told ∙ none)) tt,
      core ∙ ap (λ (x : Stage). polled_core old x) (sym is),
    )

pub unsent_polled : {W M V : Type 0} (s : Meaning W M V) (w : W) (plan : Plan) (answers : Answers) (old new : Core)
    (p q : CallValue M) (result : Poll (Result V Error)) (asking : Asking)
    → p.stage ≡ Unsent asking → IsLeft s w plan answers p → (GoesBehind s w plan answers asking p.runner
    → MovesByPlan s w plan answers old new q result) → PollsByPlan s w plan answers old new p q result
unsent_polled s w plan answers old new p q result asking is left f =
    inr (subst (λ x. MovesByPlan s w plan answers (polled_core old x) new q result) (sym is)
    (f (subst (λ x. IsLeftAt s w plan answers p.runner x) is left)))

-- a runner goes on with a reply
abbrev pub GoesOn : {W M V : Type 0} → Meaning W M V → W → Plan → Answers → M → Reply → Type 0 → Type 0
GoesOn s w plan answers m r P = s.known m answers → answers (s.place m) ≡ Some r
    → ((later : Own) → plan later answers ≡ s.left w m later answers) → P

pub came_polled : {W M V : Type 0} (s : Meaning W M V) (w : W) (plan : Plan) (answers : Answers) (old new : Core)
    (p q : CallValue M) (result : Poll (Result V Error)) (t : Told)
    → p.stage ≡ Came t → IsLeft s w plan answers p → TellsReply s old p answers
    → GoesOn s w plan answers p.runner (reply_of t) (MovesByPlan s w plan answers old new q result)
    → PollsByPlan s w plan answers old new p q result
came_polled s w plan answers old new p q result t is left tells f =
    let l = subst (λ x. IsLeftAt s w plan answers p.runner x) is left in
    inr (subst (λ x. MovesByPlan s w plan answers (polled_core old x) new q result) (sym is)
    (f l.0 (subst (λ x. TellsAt s old p.runner x answers) is tells) l.1))

pub asked_polled : {W M V : Type 0} (s : Meaning W M V) (w : W) (plan : Plan) (answers : Answers)
    (old polled new : Core) (p q : CallValue M) (result : Poll (Result V Error)) (ticket : ℕ) (r : Reply)
    → p.stage ≡ Asked ticket → polled ≡ after_poll old ticket → reply_in (record_at old ticket) ≡ Some r
    → IsLeft s w plan answers p → TellsReply s old p answers
    → GoesOn s w plan answers p.runner r (MovesByPlan s w plan answers polled new q result)
    → PollsByPlan s w plan answers old new p q result
asked_polled s w plan answers old polled new p q result ticket r is core came left tells f =
    let l = subst (λ x. IsLeftAt s w plan answers p.runner x) is left in
    let told : answers (s.place p.runner) ≡ reply_in (record_at old ticket) =
    subst (λ x. TellsAt s old p.runner x answers) is tells in
    inr (subst (λ x. MovesByPlan s w plan answers (polled_core old x) new q result) (sym is)
    (subst (λ (x : Core). MovesByPlan s w plan answers x new q result) core (f l.0 (told ∙ came) l.1)))

pub missing_polled : {W M V : Type 0} (s : Meaning W M V) (w : W) (plan : Plan) (answers : Answers) (old new : Core)
    (p q : CallValue M) (ticket : ℕ)
    → ((later : Own) → answers (s.place p.runner) ≡ None → s.left w p.runner later answers ≡ Wait (s.place p.runner))
    → p.stage ≡ Asked ticket → reply_in (record_at old ticket) ≡ None → old.fault ≡ None → new ≡ old → q ≡ p
    → IsLeft s w plan answers p → TellsReply s old p answers → PollsByPlan s w plan answers old new p q poll.Pending
missing_polled s w plan answers old new p q ticket waits is none unfailed core same left tells =
    let l = subst (λ x. IsLeftAt s w plan answers p.runner x) is left in
    let told : answers (s.place p.runner) ≡ reply_in (record_at old ticket) =
    subst (λ x. TellsAt s old p.runner x answers) is tells in
    inl (record {
      pending = refl;
      waits = l.1 [] ∙ waits [] (told ∙ none);
      unfailed = unfailed;
      core = core;
      same =
          same;
    })

-- ---- a value

over_ready : {V : Type 0} (stage : Stage) (value : Result V Error) → is_ended stage ≡ true → IsOwn value
    → IsOver stage (poll.Ready value)
over_ready stage (Ok value) over own = over
over_ready stage (Err error.OutOfMemory) over own = absurd own
over_ready stage (Err (error.BackgroundTaskFailure fault)) over own = absurd own
over_ready stage (Err other) over own = over

own_memory : {V : Type 0} (value : Result V Error) (P : Type 0) → IsOwn value → IfOutOfMemory (poll.Ready value) P
own_memory (Ok value) P own = tt
own_memory (Err error.OutOfMemory) P own = absurd own
own_memory (Err other) P own = tt

-- a poll that ran out of memory
pub short_then : {V : Type 0} (result : Poll (Result V Error)) (P Q : Type 0) → (P → Q) → IfOutOfMemory result P
    → IfOutOfMemory result Q
short_then poll.Pending P Q f short = tt
short_then (poll.Ready (Ok value)) P Q f short = tt
short_then (poll.Ready (Err error.OutOfMemory)) P Q f short = f short
short_then (poll.Ready (Err other)) P Q f short = tt

pub short_any : {V : Type 0} (result : Poll (Result V Error)) (P : Type 0) → P → IfOutOfMemory result P
short_any poll.Pending P h = tt
short_any (poll.Ready (Ok value)) P h = tt
short_any (poll.Ready (Err error.OutOfMemory)) P h = h
short_any (poll.Ready (Err other)) P h = tt

held_ended : {W M V : Type 0} (s : Meaning W M V) (core : Core) (m : M) (stage : Stage) → is_ended stage ≡ true
    → IsHeldAt s core m stage
held_ended s core m Ended over = tt
held_ended s core m Ready over = absurd cc
held_ended s core m (Unsent asking) over = absurd cc
held_ended s core m (Asked ticket) over = absurd cc
held_ended s core m (Came t) over = absurd cc

-- a value ends the call
pub done_leaves : {W M V : Type 0} (s : Meaning W M V) (core : Core) (t : Told) (q : CallValue M)
    (value : Result V Error)
    → is_ended q.stage ≡ true → IsOwn value → IsCounted core t → HandsGrantOn s t (then.Done value)
    → LeavesCall s core core (Came t) q (poll.Ready value)
done_leaves s core t q value over own counted gives =
    record {
      held = held_ended s core q.runner q.stage over;
      over = over_ready q.stage value over own;
      awaits = tt;
      holds = told_holds s core t value counted gives;
      brings = told_gives s core t q.stage value over gives;
      keeps = keeps_same core;
      others = idle_others core core (Came t) q.stage (keeps_same core) (ended_idle q.stage over);
      memory = own_memory value (s.again ≡ true) own;
    }
