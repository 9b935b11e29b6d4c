use Rattle.std.proofs.Common.{◌≡◌, ◌<◌, ◌+◌, ◌-◌, ◌∷◌, ℕ, List, Some, drop, take, length, ap, sym, subst, ◌∙◌, arith, refl}
use Rattle.std.specs.Prelude.{slice_get, vec_capacity, vec_len}
use Rattle.std.proofs.lemmas.Option.{slice_get_within}
use Rattle.sftp_model.specs.declared.slot.Slot.{Slot}
use Rattle.session_laws.specs.Lanes.{LaneValue}
use Rattle.session_laws.specs.Ends.{StaysOpen}
use Rattle.session_work.specs.Closing.{HasClosed, closed_in}
use Rattle.session_work.specs.Letting.{IsLetGo, LettingLane}
use Rattle.session_work.specs.Working.{LanesValue, contents_of, lane_in, past_of}
use Rattle.session_work.proofs.ClosingLaws.{counted_in, grants_left}
use Rattle.session_work.proofs.Contents.{state_at}
use Rattle.session_work.proofs.LettingLaws.{first_is, letting_closes, letting_grants, letting_over, letting_passes, letting_there, none_left}
use Rattle.session_work.proofs.ReportLaws.{leaves_on}
use Rattle.session_work.proofs.UnnotedLaws.{let_go_on}
use Rattle.session_work.proofs.lanes.Lanes.close_slots.Goals as goal

pub forget_unawaited-requires : goal.forget_unawaited-requires
forget_unawaited-requires c =
    let o = c.requires.letting in
    let rest : List Slot = c.loop-rest.rest.now in
    let h : LettingLane o.0 o.1.0 c.args.lane (contents_of c.loop-rest.self) rest =
    c.loop-rest.invariant.1 o.0 o.1.0 o.1.1 in
    record {
      opened = (
        o.0,
        (letting_over o.0 o.1.0 c.args.lane (contents_of c.args.self.now) (contents_of c.loop-rest.self)
            (subst (λ (xs : List Slot). LettingLane o.0 o.1.0 c.args.lane (contents_of c.loop-rest.self) xs)
            (none_left rest c.in-empty.len_below) h) c.loop-rest.invariant.2).works,
      );
      there = letting_there o.0 o.1.0 c.args.lane (contents_of c.loop-rest.self) rest h;
      idle = h.idle;
    }

pub returns-in-empty-clause-let_go : goal.returns-in-empty-clause-let_go
returns-in-empty-clause-let_go c = λ s before base.
    let rest : List Slot = c.loop-rest.rest.now in
    let h : LettingLane s before c.args.lane (contents_of c.loop-rest.self) rest = c.loop-rest.invariant.1 s before base
    in
    let gone : IsLetGo s before (contents_of c.args.self.now) (contents_of c.loop-rest.self) =
    letting_over s before c.args.lane (contents_of c.args.self.now) (contents_of c.loop-rest.self)
    (subst (λ (xs : List Slot). LettingLane s before c.args.lane (contents_of c.loop-rest.self) xs)
    (none_left rest c.in-empty.len_below) h) c.loop-rest.invariant.2 in
    let_go_on s before (contents_of c.args.self.now) (contents_of c.loop-rest.self)
    (contents_of c.forget_unawaited.new.self) gone (c.forget_unawaited.ensures.forgets s gone.works)

pub index-requires : goal.index-requires
index-requires c =
    let o = c.requires.letting in
    let lt = letting_there o.0 o.1.0 c.args.lane (contents_of c.loop-rest.self) c.loop-rest.rest.now
    (c.loop-rest.invariant.1 o.0 o.1.0 o.1.1) in
    let len = c.loop-rest.self.states.ok.0 in
    omega (arith, lt, len)

pub close-requires : goal.close-requires
close-requires c =
    let o = c.requires.letting in
    let states : List LaneValue = c.loop-rest.self.states.items in
    let v : LaneValue = c.index.result.now in
    let going = c.loop-rest.invariant.1 o.0 o.1.0 o.1.1 in
    let there = letting_there o.0 o.1.0 c.args.lane (contents_of c.loop-rest.self) c.loop-rest.rest.now going in
    let is : v ≡ lane_in states c.args.lane = state_at states c.args.lane v there c.index.ensures in
    let f = c.closing.ensures.some c.in-Some.k c.in-Some.is in
    let few = counted_in o.0 (contents_of c.loop-rest.self) c.loop-rest.self.journal.items going.stands refl in
    let len = c.loop-rest.self.journal.ok.0 in
    let room = c.loop-rest.invariant.0 in
    record {
      there = there;
      held = letting_grants o.0 o.1.0 c.args.lane (contents_of c.loop-rest.self) c.loop-rest.rest.now going;
      within = subst (λ (y : LaneValue). c.in-Some.k < length y.grants) is
          (slice_get_within v.grants c.in-Some.k f.0 f.1.0);
      counted = omega (arith, few, len);
      room = omega (arith, room);
    }

pub loop-rest-preserved-in-Some : goal.loop-rest-preserved-in-Some
loop-rest-preserved-in-Some c =
    let o = c.requires.letting in
    let states : List LaneValue = c.loop-rest.self.states.items in
    let rest : List Slot = c.loop-rest.rest.now in
    let later : List Slot = take (length rest - 1) (drop 1 rest) in
    let slot : Slot = c.slot-item.result in
    let split : rest ≡ slot ∷ later = first_is rest slot c.in-len1-up.len_at_least c.slot-item.is in
    let v : LaneValue = c.index.result.now in
    let k : ℕ = c.in-Some.k in
    let lt = letting_there o.0 o.1.0 c.args.lane (contents_of c.loop-rest.self) rest
    (c.loop-rest.invariant.1 o.0 o.1.0 o.1.1) in
    let is : v ≡ lane_in states c.args.lane = state_at states c.args.lane v lt c.index.ensures in
    let f = c.closing.ensures.some k c.in-Some.is in
    let here : slice_get (lane_in states c.args.lane).grants k ≡ Some f.0 =
    ap (λ (y : LaneValue). slice_get y.grants k) (sym is) ∙ f.1.0 in
    let closed : HasClosed (contents_of c.loop-rest.self) (contents_of c.close.new.self) c.args.lane k f.0 =
    c.close.ensures.closed f.0 here in
    let less = grants_left (contents_of c.loop-rest.self) c.args.lane k f.0 lt
    (slice_get_within (lane_in states c.args.lane).grants k f.0 here) in
    let same : length (lane_in c.close.new.self.states.items c.args.lane).grants
    ≡ length (lane_in (closed_in (contents_of c.loop-rest.self) c.args.lane k f.0).states c.args.lane).grants =
    ap (λ (x : LanesValue). length (lane_in x.states c.args.lane).grants) closed.is in
    let room : vec_len c.loop-rest.self.journal + length (lane_in states c.args.lane).grants < vec_capacity
    c.loop-rest.self.journal = c.loop-rest.invariant.0 in
    let len = c.close.ensures.one.len in
    let capacity = c.close.ensures.one.capacity in (
      omega (arith, less, same, room, len, capacity),
      λ s before base. (let h : LettingLane s before c.args.lane (contents_of c.loop-rest.self) (slot ∷ later) =
          subst (λ (xs : List Slot). LettingLane s before c.args.lane (contents_of c.loop-rest.self) xs) split
          (c.loop-rest.invariant.1 s before base) in
          subst (λ (x : LanesValue). LettingLane s before c.args.lane x later) (sym closed.is)
          (letting_closes s before c.args.lane k (contents_of c.loop-rest.self) f.0 slot later h f.1.1 f.1.2 here
          closed.small)),
      ap (λ (x : LanesValue). x.begun) closed.is ∙ c.loop-rest.invariant.2,
      leaves_on (past_of c.args.self.now) c.args.self.now c.loop-rest.self c.close.new.self c.loop-rest.invariant.3
          c.close.ensures.reports,
    )

pub loop-rest-preserved : goal.loop-rest-preserved
loop-rest-preserved c =
    let o = c.requires.letting in
    let states : List LaneValue = c.loop-rest.self.states.items in
    let rest : List Slot = c.loop-rest.rest.now in
    let later : List Slot = take (length rest - 1) (drop 1 rest) in
    let slot : Slot = c.slot-item.result in
    let split : rest ≡ slot ∷ later = first_is rest slot c.in-len1-up.len_at_least c.slot-item.is in
    let v : LaneValue = c.index.result.now in
    let is : v ≡ lane_in states c.args.lane = state_at states c.args.lane v
    (letting_there o.0 o.1.0 c.args.lane (contents_of c.loop-rest.self) rest
    (c.loop-rest.invariant.1 o.0 o.1.0 o.1.1)) c.index.ensures in (
      c.loop-rest.invariant.0,
      λ s before base. (let h : LettingLane s before c.args.lane (contents_of c.loop-rest.self) (slot ∷ later) =
          subst (λ (xs : List Slot). LettingLane s before c.args.lane (contents_of c.loop-rest.self) xs) split
          (c.loop-rest.invariant.1 s before base) in
          letting_passes s before c.args.lane (contents_of c.loop-rest.self) slot later h
          (subst (λ (y : LaneValue). StaysOpen y.grants slot later) is (c.closing.ensures.none c.in_default.is))),
      c.loop-rest.invariant.2,
      c.loop-rest.invariant.3,
    )

pub returns-in-empty-clause-reports : goal.returns-in-empty-clause-reports
returns-in-empty-clause-reports c = leaves_on (past_of c.args.self.now) c.args.self.now c.loop-rest.self
    c.forget_unawaited.new.self c.loop-rest.invariant.3 c.forget_unawaited.ensures.reports
