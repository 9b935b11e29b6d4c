-- A lane of a session at rest may have its turn, and what it was is to be noted.
use Rattle.std.proofs.Common.{◌≡◌, ◌<◌, ◌≤◌, ◌+◌, ℕ, Bool, true, false, if◌then◌else◌, List, [], ◌∷◌, Option, Some, refl, ap, sym, subst, arith}
use Rattle.std.specs.Prelude.{Result, Ok, Err, IfOk, None, OnErr, is_some, length, slice_get, slice_index_or}
use Rattle.std.proofs.lemmas.List.{length-append}
use Rattle.std.proofs.lemmas.Option.{slice_get_within}
use Rattle.sftp_model.specs.declared.reply.Reply.{Reply}
use Rattle.sftp_model.specs.declared.reply.Reply.TheVariants as reply
use Rattle.sftp_model.specs.declared.slot.Facts.{Facts}
use Rattle.sftp_core.specs.Core.{Core}
use Rattle.plan_runner.specs.declared.next.Asked.{Asked}
use Rattle.plan_runner.specs.declared.next.Asked.TheVariants as ask
use Rattle.plan_runner.specs.declared.next.Next.{Next}
use Rattle.plan_runner.specs.declared.next.Next.TheVariants as step
use Rattle.plan_runner.specs.declared.next.Running.{Running}
use Rattle.plan_model.specs.declared.call.Call.{Call}
use Rattle.session_model.specs.Calls.{Setting}
use Rattle.plan_model.specs.Lanes.{is_within}
use Rattle.session_model.specs.Readings.{count_submitted}
use Rattle.session_laws.specs.Lanes.{Held, LaneValue, Ticketed}
use Rattle.session_laws.specs.Places.{without_index}
use Rattle.session_work.specs.Premises.{MayTurn}
use Rattle.session_work.specs.Rests.{AwaitsReplies, IsSmall}
use Rattle.session_work.specs.Holding.{MayGoOn}
use Rattle.session_work.specs.Tokens.{grants_with}
use Rattle.session_work.specs.Turning.{AllInRange, AsksOrCloses, IsOpen, IsSafe, SettlesMove, TurnsLane, Begun, Replied, Unreplied, Waiting, Widening}
use Rattle.session_work.specs.declared.lane.Moved.{Moved}
use Rattle.session_work.specs.declared.lane.Moved.TheVariants as moved
use Rattle.session_work.proofs.Awaiting.{lanes_await}
use Rattle.session_work.proofs.Ranges.{lanes_in_range}
use Rattle.session_work.proofs.Rests.{turns_leave}
use Rattle.session_work.proofs.Turned.{lanes_may}
use Rattle.session_work.proofs.WentLaws.{went_few}
use Rattle.session_laws.specs.Rest.{awaited_in}
use Rattle.session_work.specs.Noting.{HasTurnToNote, call_in, is_went, turned_in, turns_left}
use Rattle.session_work.specs.Working.{LanesValue, IsAtRestOpen, lane_in}
use Rattle.session_work.proofs.CallsLaws.{call_within}
use Rattle.session_work.proofs.ClosingLaws.{fewer_grants}
use Rattle.session_work.proofs.Contents.{state_at}
use Rattle.session_work.proofs.FewIds.{few_ids}
use Rattle.session_work.proofs.Remaining.{asks_within}
use Rattle.session_work.proofs.NotingLaws.{AtCall, at_call, call_fits, current_at, there_at, turning_unfailed, within_states}

-- ---- what a turn leaves of the lane

-- the number of its call is the same
pub turned_same : (c : Call) (facts : Facts) (place : ℕ) (core new : Core) (v now : LaneValue) (m : Moved)
    → TurnsLane c facts place core new v now m → now.ended ≡ v.ended
turned_same c facts place core new v now m (Begun x) = x.ended
turned_same c facts place core new v now m (Replied x) = x.ended
turned_same c facts place core new v now m (Unreplied x) = x.ended
turned_same c facts place core new v now m (Widening x) = x.ended
turned_same c facts place core new v now m (Waiting x) = ap (λ (y : LaneValue). y.ended) x.same

without_short : (gs : List Held) (k : ℕ) (g : Held) → slice_get gs k ≡ Some g → length (without_index k gs) ≤ length gs
without_short gs k g here = (let less = fewer_grants gs k (slice_get_within gs k g here) in omega (arith, less))

asked_short : (core new : Core) (tickets now : List Ticketed) (gs held : List Held) (place : ℕ) (a : Asked) (id : ℕ)
    (r : _) → AsksOrCloses core new tickets now gs held place a id r → length held ≤ length gs
asked_short core new tickets now gs held place (ask.Close g) id r x =
    subst (λ (hs : List Held). length hs ≤ length gs) (sym x.kept)
    (without_short gs x.k (record { place = g; grant = x.grant }) x.here)
asked_short core new tickets now gs held place a id r x = subst (λ (hs : List Held). length hs ≤ length gs) (sym x.kept)
    (omega arith)

settled_short : (core new : Core) (tickets now : List Ticketed) (gs held : List Held) (running : Option Running)
    (place : ℕ) (n : Next) (m : Moved) → SettlesMove core new tickets now gs held running place n m
    → length held ≤ length gs
settled_short core new tickets now gs held running place (step.Ask a r) (moved.Asked id q) x =
    asked_short core new tickets now gs held place a id q x.0
settled_short core new tickets now gs held running place (step.Ask a r) moved.Waits x = absurd x
settled_short core new tickets now gs held running place (step.Ask a r) moved.Went x = absurd x
settled_short core new tickets now gs held running place (step.Ask a r) (moved.Ended o) x = absurd x
settled_short core new tickets now gs held running place (step.Wait r) m x =
    subst (λ (hs : List Held). length hs ≤ length gs) (sym x.0.kept) (omega arith)
settled_short core new tickets now gs held running place (step.Done o) m x =
    subst (λ (hs : List Held). length hs ≤ length gs) (sym x.0.kept) (omega arith)

one_more : (gs : List Held) (place ticket : ℕ) (y : Reply) → length (grants_with gs place ticket y) ≤ length gs + 1
one_more gs place ticket (reply.Handle handle) = (let more =
    length-append gs ((record { place = place; grant = record { id = ticket; handle = handle } }) ∷ []) in
    omega (arith, more))
one_more gs place ticket y = omega arith

-- and it has one grant more at the most
pub turned_grants : (c : Call) (facts : Facts) (place : ℕ) (core new : Core) (v now : LaneValue) (m : Moved)
    → TurnsLane c facts place core new v now m → length now.grants ≤ length v.grants + 1
turned_grants c facts place core new v now m (Begun x) = (let short =
    settled_short core new v.tickets now.tickets v.grants now.grants now.running place x.answer m x.settles in
    omega (arith, short))
turned_grants c facts place core new v now m (Replied x) =
    (let short = settled_short x.between new x.tickets now.tickets x.grants now.grants now.running place x.answer m
    x.settles in
    let more = one_more v.grants x.awaits x.spent.ticket x.reply in
    let same : length x.grants ≡ length (grants_with v.grants x.awaits x.spent.ticket x.reply) = ap length x.spent.now
    in omega (arith, short, more, same))
turned_grants c facts place core new v now m (Unreplied x) =
    (let short = settled_short core new v.tickets now.tickets v.grants now.grants now.running place x.answer m x.settles
    in omega (arith, short))
turned_grants c facts place core new v now m (Widening x) = (let short =
    settled_short core new v.tickets now.tickets v.grants now.grants now.running place x.answer m x.settles in
    omega (arith, short))
turned_grants c facts place core new v now m (Waiting x) = (let same : length now.grants ≡ length v.grants =
    ap (λ (y : LaneValue). length y.grants) x.same in omega (arith, same))

-- ---- the lane before it

-- what a turn asks for
pub record TurnsByPlan (s : Setting) (c : LanesValue) (lane : ℕ) (call : Call) : Type 0 where
  pub call_within : is_within call ≡ true
  pub goes : MayGoOn call s.facts c.core (lane_in c.states lane)
  pub replies : AwaitsReplies c.core (lane_in c.states lane)
  pub range : AllInRange call s.facts c.core (lane_in c.states lane).tickets (lane_in c.states lane).running
      (lane_in c.states lane).site

pub may_turn : (s : Setting) (c : LanesValue) (lane : ℕ) (call : Call) → IsAtRestOpen s c → AtCall c lane call
    → TurnsByPlan s c lane call
may_turn s c lane call w a =
    (let there = there_at s c lane call w a in
    let is = current_at s c lane call w a in
    record {
      call_within = call_within c.calls lane a.state.ended a.calls call w.stands.ok a.lane_is a.call_is;
      goes = lanes_may s c.past c.core (lane_in c.states) [] lane call w.rest.between.tied there is;
      replies = lanes_await s c.past c.core (lane_in c.states) c.begun lane call w.rest there is;
      range = lanes_in_range s c.past c.core (lane_in c.states) c.begun lane call w.rest there is
          (call_fits s c lane call w a) w.stands.fit;
    })

-- ---- the turn that is to be noted

pub turning : (s : Setting) (c : LanesValue) (lane : ℕ) (call : Call) (new : Core) (now : LaneValue) (m : Moved)
    → IsAtRestOpen s c → call_in c.calls c.states lane ≡ Some call → TurnsLane call c.facts c.asked c.core new
    (lane_in c.states lane) now m → IsSmall m
    → HasTurnToNote s lane c (turned_in c lane new now) m
turning s c lane call new now m w calls t small =
    let a = at_call c lane call calls in
    let there = there_at s c lane call w a in
    let turned : TurnsLane call s.facts (count_submitted c.past) c.core new (lane_in c.states lane) now m =
    subst (λ (f : Facts). TurnsLane call f (count_submitted c.past) c.core new (lane_in c.states lane) now m)
    w.stands.facts
    (subst (λ (n : ℕ). TurnsLane call c.facts n c.core new (lane_in c.states lane) now m) w.stands.asked t) in
    record {
      works = w;
      there = there;
      call = call;
      calls = calls;
      new = new;
      now = now;
      is = refl;
      small = small;
      same = turned_same call c.facts c.asked c.core new (lane_in c.states lane) now m t;
      leaves = turns_leave s c.past c.core new (lane_in c.states) c.begun lane call now m w.rest there
          (current_at s c lane call w a)
          (λ r move. asks_within s c.past lane call r (call_fits s c lane call w a) w.stands.fit w.rest.between.good.run
          (current_at s c lane call w a) move) small turned;
    }

-- ---- what a call of the code asks for

-- the lane at hand may have its turn
pub may_have : (s : Setting) (c : LanesValue) (lane : ℕ) (call : Call) (v : LaneValue) → IsAtRestOpen s c
    → call_in c.calls c.states lane ≡ Some call → v ≡ slice_index_or c.states lane v → MayTurn call c.facts c.core v
may_have s c lane call v w some value =
    (let a = at_call c lane call some in
    let m = may_turn s c lane call w a in
    subst (λ (y : LaneValue). MayTurn call c.facts c.core y) (sym
    (state_at c.states lane v (within_states c lane call a) value)) (record {
      within = m.call_within;
      counted = m.goes.counted;
      held = m.goes.held;
      ready = m.goes.ready;
      safe = subst (λ (f : Facts). IsSafe call f (lane_in c.states lane).running (lane_in c.states lane).site)
          (sym w.stands.facts) m.goes.safe;
      fits = m.replies.fits;
      range = subst (λ (f : Facts). AllInRange call f c.core (lane_in c.states lane).tickets
          (lane_in c.states lane).running (lane_in c.states lane).site) (sym w.stands.facts) m.range;
      awaits = m.goes.awaits;
      holds = m.replies.holds;
      few = few_ids s c w;
    }))

-- ---- what a turn of the code was

-- the lane that the code had is that of the list
pub turned_ok : {E : Type 0} (c : Call) (facts : Facts) (place : ℕ) (core new : Core) (v now u : LaneValue)
    (r : Result Moved E) → v ≡ u → IfOk r (λ m. TurnsLane c facts place core new v now m)
    → IfOk r (λ m. TurnsLane c facts place core new u now m)
turned_ok c facts place core new v now u (Ok m) is t = subst
    (λ (y : LaneValue). TurnsLane c facts place core new y now m) is t
turned_ok c facts place core new v now u (Err e) is t = tt

-- unless it was refused it is to be noted
pub turning_ok : {E : Type 0} (s : Setting) (c : LanesValue) (lane : ℕ) (call : Call) (new : Core) (now : LaneValue)
    (r : Result Moved E) → IsAtRestOpen s c → call_in c.calls c.states lane ≡ Some call
    → IfOk r (λ m. TurnsLane call c.facts c.asked c.core new (lane_in c.states lane) now m) → IfOk r IsSmall
    → IfOk r (HasTurnToNote s lane c (turned_in c lane new now))
turning_ok s c lane call new now (Ok m) w calls t small = turning s c lane call new now m w calls t small
turning_ok s c lane call new now (Err e) w calls t small = tt

-- the core has no fault, also where it was refused
pub turned_unfailed : {E : Type 0} (s : Setting) (c now : LanesValue) (lane : ℕ) (r : Result Moved E)
    → IfOk r (HasTurnToNote s lane c now) → OnErr r (IsOpen now.core) → now.core.fault ≡ None
turned_unfailed s c now lane (Ok m) t left = turning_unfailed s lane c now m t
turned_unfailed s c now lane (Err e) t left = left.unfailed

pub is_moved_went : (m : Moved) → is_went m ≡ true → m ≡ moved.Went
is_moved_went moved.Went e = refl
is_moved_went moved.Waits e = absurd cc
is_moved_went (moved.Asked id r) e = absurd cc
is_moved_went (moved.Ended o) e = absurd cc

fewer_by : (now was : ℕ) (b : Bool) → now ≤ was → (b ≡ true → now < was) → now + 0 < was + (if b then 0 else 1)
fewer_by now was true le less = (let lt = less refl in omega (arith, lt))
fewer_by now was false le less = omega (arith, le)

-- a turn without an entry leaves fewer of them
went_fewer : (c : Call) (facts : Facts) (place : ℕ) (core new : Core) (v now : LaneValue)
    → TurnsLane c facts place core new v now moved.Went → turns_left now < turns_left v
went_fewer c facts place core new v now t =
    let few = went_few c facts place core new v now t in
    subst (λ (b : Bool). length now.tickets + (if b then 0 else 1) < turns_left v) (sym few.0)
    (fewer_by (length now.tickets) (length v.tickets) (is_some (awaited_in v.running v.site)) few.1 few.2)

pub turned_fewer : (c : Call) (facts : Facts) (place : ℕ) (core new : Core) (v now : LaneValue) (m : Moved)
    → TurnsLane c facts place core new v now m → is_went m ≡ true → turns_left now < turns_left v
turned_fewer c facts place core new v now m t went = went_fewer c facts place core new v now
    (subst (λ (x : Moved). TurnsLane c facts place core new v now x) (is_moved_went m went) t)
