use Rattle.std.proofs.Common.{rules, ◌≡◌, ◌<◌, ◌≤◌, ◌+◌, Some, None, length, refl, ap, sym, subst, ◌∙◌, arith}
use Rattle.std.specs.Prelude.{IfOk, reverse, slice_set, vec_capacity, vec_len}
use Rattle.std.proofs.lemmas.Result.{IfOk-weaker}
use Rattle.session_work.specs.Turning.{TurnsLane}
use Rattle.session_work.specs.declared.lane.Moved.{Moved}
use Rattle.session_laws.specs.Lanes.{LaneValue}
use Rattle.session_work.specs.Noting.{HasTurnToNote, with_begun, call_in, turned_in, turns_left}
use Rattle.session_work.specs.Working.{LanesValue, contents_of, lane_in}
use Rattle.session_work.proofs.BegunLaws.{others_kept}
use Rattle.session_work.proofs.Contents.{set_here, state_at}
use Rattle.session_work.proofs.NotingLaws.{at_call, within_states}
use Rattle.session_work.proofs.TurningLaws.{may_have, turned_fewer, turned_grants, turned_ok, turned_same, turned_unfailed, turning_ok}
use Rattle.session_work.proofs.lanes.Lanes.turn.Goals as goal

pub turn-requires : goal.turn-requires
turn-requires c =
    let some : call_in c.args.self.now.calls c.args.self.now.states.items c.args.lane ≡ Some c.in-Some.call.now =
    search rules in
    let o = c.requires.opened in
    (may_have o.0 (with_begun o.1.0 (contents_of c.args.self.now)) c.args.lane c.in-Some.call.now
    c.index_mut-state.result.now
    o.1.1 some c.index_mut-state.ensures.value)

pub returns-clause-turned : goal.returns-clause-turned
returns-clause-turned c =
    let some : call_in c.args.self.now.calls c.args.self.now.states.items c.args.lane ≡ Some c.in-Some.call.now =
    search rules in
    let old : LanesValue = contents_of c.args.self.now in
    let lt = within_states old c.args.lane c.in-Some.call.now (at_call old c.args.lane c.in-Some.call.now some) in
    let v : LaneValue = c.index_mut-state.result.now in
    let is : v ≡ lane_in old.states c.args.lane = state_at old.states c.args.lane v lt c.index_mut-state.ensures.value
    in
    let now : LaneValue = c.turn.new.self in
    let kept : c.reserve.new.self.items ≡ c.args.self.now.journal.items = search rules in
    let t = turned_ok c.in-Some.call.now old.facts old.asked old.core c.turn.new.core v now
    (lane_in old.states c.args.lane) c.turn.result is c.turn.ensures.turned in
    λ s begun w. subst (λ (x : LanesValue). IfOk c.turn.result (HasTurnToNote s c.args.lane (with_begun begun old) x))
    (λ i. record {
      calls = old.calls;
      core = c.turn.new.core;
      facts = old.facts;
      past = reverse (sym kept i);
      asked =
          old.asked;
      states = slice_set old.states c.args.lane now;
      begun = begun;
    })
    (turning_ok s (with_begun begun old) c.args.lane c.in-Some.call.now c.turn.new.core now c.turn.result w some t
    c.turn.ensures.small)

pub returns-clause-leaves : goal.returns-clause-leaves
returns-clause-leaves c =
    let some : call_in c.args.self.now.calls c.args.self.now.states.items c.args.lane ≡ Some c.in-Some.call.now =
    search rules in
    let old : LanesValue = contents_of c.args.self.now in
    let lt = within_states old c.args.lane c.in-Some.call.now (at_call old c.args.lane c.in-Some.call.now some) in
    let v : LaneValue = c.index_mut-state.result.now in
    let is : v ≡ lane_in old.states c.args.lane = state_at old.states c.args.lane v lt c.index_mut-state.ensures.value
    in
    let now : LaneValue = c.turn.new.self in
    let here : lane_in (slice_set old.states c.args.lane now) c.args.lane ≡ now = set_here old.states c.args.lane now lt
    in
    let same : length (lane_in (slice_set old.states c.args.lane now) c.args.lane).grants ≡ length now.grants =
    ap (λ (y : LaneValue). length y.grants) here in
    let room : vec_len c.reserve.new.self + (length v.grants + 4) ≤ vec_capacity c.reserve.new.self = search rules in
    IfOk-weaker c.turn.result (λ (m : Moved). TurnsLane c.in-Some.call.now old.facts old.asked old.core c.turn.new.core
    v now m)
    _
    (λ m t. record {
      number = ap (λ (y : LaneValue). y.ended) here ∙ turned_same c.in-Some.call.now old.facts old.asked old.core
          c.turn.new.core v now m t ∙ ap (λ (y : LaneValue). y.ended) is;
      fewer = λ went. subst (λ (y : LaneValue). turns_left (lane_in (slice_set old.states c.args.lane now) c.args.lane)
          < turns_left y) is
          (subst (λ (y : LaneValue). turns_left y < turns_left v) (sym here)
          (turned_fewer c.in-Some.call.now old.facts old.asked old.core c.turn.new.core v now m t went));
      room = (let more = turned_grants c.in-Some.call.now old.facts old.asked old.core c.turn.new.core v now m t in
          omega (arith, more, same, room));
      others = others_kept old.states c.args.lane now lt;
    }) c.turn.ensures.turned

pub returns-clause-left : goal.returns-clause-left
returns-clause-left c =
    let some : call_in c.args.self.now.calls c.args.self.now.states.items c.args.lane ≡ Some c.in-Some.call.now =
    search rules in
    let old : LanesValue = contents_of c.args.self.now in
    let lt = within_states old c.args.lane c.in-Some.call.now (at_call old c.args.lane c.in-Some.call.now some) in
    let is : c.index_mut-state.result.now ≡ lane_in old.states c.args.lane =
    state_at old.states c.args.lane c.index_mut-state.result.now lt c.index_mut-state.ensures.value in
    let kept : c.reserve.new.self.items ≡ c.args.self.now.journal.items = search rules in
    let t = turned_ok c.in-Some.call.now old.facts old.asked old.core c.turn.new.core c.index_mut-state.result.now
    c.turn.new.self (lane_in old.states c.args.lane) c.turn.result is c.turn.ensures.turned in
    let o = c.requires.opened in
    let was : LanesValue = with_begun o.1.0 old in
    let unfailed : c.turn.new.core.fault ≡ None = turned_unfailed o.0 was
    (turned_in was c.args.lane c.turn.new.core c.turn.new.self) c.args.lane c.turn.result
    (turning_ok o.0 was c.args.lane c.in-Some.call.now c.turn.new.core c.turn.new.self c.turn.result o.1.1 some t
    c.turn.ensures.small) c.turn.ensures.left in
    record {
      past = ap reverse kept;
      fault = unfailed ∙ sym o.1.1.rest.between.tied.work.unfailed;
      reports = refl;
      calls = refl;
    }
