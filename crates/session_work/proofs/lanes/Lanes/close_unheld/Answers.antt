use Rattle.std.proofs.Common.{◌≡◌, ◌<◌, ◌+◌, ◌∷◌, [], ℕ, List, Some, length, ap, sym, subst, ◌∙◌, arith, refl}
use Rattle.std.specs.Prelude.{slice_get, vec_capacity, vec_len}
use Rattle.std.proofs.lemmas.Option.{slice_get_within}
use Rattle.session_laws.specs.Dues.{unheld_of}
use Rattle.session_laws.specs.Lanes.{LaneValue, grant_places}
use Rattle.session_laws.specs.Places.{without_index}
use Rattle.session_work.specs.Closing.{HasClosed, IsClosed, closed_in}
use Rattle.session_work.specs.Working.{LanesValue, contents_of, lane_in, past_of}
use Rattle.session_work.proofs.ClosingLaws.{Goes, closed_all, counted_in, goes_next, goes_on, grants_in, grants_left, there_in}
use Rattle.session_work.proofs.Contents.{state_at}
use Rattle.session_work.proofs.ReportLaws.{leaves_on}
use Rattle.session_work.proofs.UnnotedLaws.{closed_on}
use Rattle.session_work.proofs.lanes.Lanes.close_unheld.Goals as goal

pub index-requires : goal.index-requires
index-requires c =
    let o = c.requires.closing in
    let lt = there_in o.0 o.1.0 c.args.lane (contents_of c.loop-k.self) (c.loop-k.invariant.1 o.0 o.1.0 o.1.1).closing
    in
    let len = c.loop-k.self.states.ok.0 in
    omega (arith, lt, len)

pub close-requires : goal.close-requires
close-requires c =
    let o = c.requires.closing in
    let states : List LaneValue = c.loop-k.self.states.items in
    let v : LaneValue = c.index.result.now in
    let going = (c.loop-k.invariant.1 o.0 o.1.0 o.1.1).closing in
    let there = there_in o.0 o.1.0 c.args.lane (contents_of c.loop-k.self) going in
    let is : v ≡ lane_in states c.args.lane = state_at states c.args.lane v there c.index.ensures in
    let f = c.unheld.ensures.first c.in-Some.k c.in-Some.is in
    let few = counted_in o.0 (contents_of c.loop-k.self) c.loop-k.self.journal.items going.stands refl in
    let len = c.loop-k.self.journal.ok.0 in
    let room = c.loop-k.invariant.0 in
    record {
      there = there;
      held = grants_in o.0 o.1.0 c.args.lane (contents_of c.loop-k.self) going;
      within = subst (λ (y : LaneValue). c.in-Some.k < length y.grants) is
          (slice_get_within v.grants c.in-Some.k f.0 f.1.0);
      counted = omega (arith, few, len);
      room = omega (arith, room);
    }

pub loop-k-smaller : goal.loop-k-smaller
loop-k-smaller c =
    let o = c.requires.closing in
    let states : List LaneValue = c.loop-k.self.states.items in
    let v : LaneValue = c.index.result.now in
    let lt = there_in o.0 o.1.0 c.args.lane (contents_of c.loop-k.self) (c.loop-k.invariant.1 o.0 o.1.0 o.1.1).closing
    in
    let is : v ≡ lane_in states c.args.lane = state_at states c.args.lane v lt c.index.ensures in
    let f = c.unheld.ensures.first c.in-Some.k c.in-Some.is in
    let here : slice_get (lane_in states c.args.lane).grants c.in-Some.k ≡ Some f.0 =
    ap (λ (y : LaneValue). slice_get y.grants c.in-Some.k) (sym is) ∙ f.1.0 in
    let closed : HasClosed (contents_of c.loop-k.self) (contents_of c.close.new.self) c.args.lane c.in-Some.k f.0 =
    c.close.ensures.closed f.0 here in
    let less = grants_left (contents_of c.loop-k.self) c.args.lane c.in-Some.k f.0 lt
    (slice_get_within (lane_in states c.args.lane).grants c.in-Some.k f.0 here) in
    let same : length (lane_in c.close.new.self.states.items c.args.lane).grants
    ≡ length (lane_in (closed_in (contents_of c.loop-k.self) c.args.lane c.in-Some.k f.0).states c.args.lane).grants
    = ap (λ (x : LanesValue). length (lane_in x.states c.args.lane).grants) closed.is in
    omega (arith, less, same)

pub loop-k-preserved : goal.loop-k-preserved
loop-k-preserved c =
    let o = c.requires.closing in
    let states : List LaneValue = c.loop-k.self.states.items in
    let v : LaneValue = c.index.result.now in
    let lt = there_in o.0 o.1.0 c.args.lane (contents_of c.loop-k.self) (c.loop-k.invariant.1 o.0 o.1.0 o.1.1).closing
    in
    let is : v ≡ lane_in states c.args.lane = state_at states c.args.lane v lt c.index.ensures in
    let f = c.unheld.ensures.first c.in-Some.k c.in-Some.is in
    let k : ℕ = c.in-Some.k in
    let here : slice_get (lane_in states c.args.lane).grants k ≡ Some f.0 =
    ap (λ (y : LaneValue). slice_get y.grants k) (sym is) ∙ f.1.0 in
    let first : unheld_of (lane_in states c.args.lane).site (grant_places (lane_in states c.args.lane).grants)
    ≡ f.0.place ∷ unheld_of (lane_in states c.args.lane).site
    (grant_places (without_index k (lane_in states c.args.lane).grants)) =
    subst (λ (y : LaneValue). unheld_of y.site (grant_places y.grants)
    ≡ f.0.place ∷ unheld_of y.site (grant_places (without_index k y.grants))) is f.1.1 in
    let closed : HasClosed (contents_of c.loop-k.self) (contents_of c.close.new.self) c.args.lane k f.0 =
    c.close.ensures.closed f.0 here in
    let less = grants_left (contents_of c.loop-k.self) c.args.lane k f.0 lt
    (slice_get_within (lane_in states c.args.lane).grants k f.0 here) in
    let same : length (lane_in c.close.new.self.states.items c.args.lane).grants
    ≡ length (lane_in (closed_in (contents_of c.loop-k.self) c.args.lane k f.0).states c.args.lane).grants =
    ap (λ (x : LanesValue). length (lane_in x.states c.args.lane).grants) closed.is in
    let room : vec_len c.loop-k.self.journal + length (lane_in states c.args.lane).grants < vec_capacity
    c.loop-k.self.journal = c.loop-k.invariant.0 in
    let len = c.close.ensures.one.len in
    let capacity = c.close.ensures.one.capacity in (
      omega (arith, less, same, room, len, capacity),
      λ s before base. (let was : Goes s before c.args.lane (contents_of c.args.self.now) (contents_of c.loop-k.self) =
          c.loop-k.invariant.1 s before base in
          goes_on s before c.args.lane (contents_of c.args.self.now) (contents_of c.loop-k.self)
          (contents_of c.close.new.self) was
          (subst (λ (x : LanesValue). Goes s before c.args.lane (contents_of c.loop-k.self) x) (sym closed.is)
          (goes_next s before c.args.lane k (contents_of c.loop-k.self) f.0 was.closing here first closed.small))),
      leaves_on (past_of c.args.self.now) c.args.self.now c.loop-k.self c.close.new.self c.loop-k.invariant.2
          c.close.ensures.reports,
    )

pub forget_unawaited-requires : goal.forget_unawaited-requires
forget_unawaited-requires c =
    let o = c.requires.closing in
    let states : List LaneValue = c.loop-k.self.states.items in
    let v : LaneValue = c.index.result.now in
    let was : Goes o.0 o.1.0 c.args.lane (contents_of c.args.self.now) (contents_of c.loop-k.self) =
    c.loop-k.invariant.1 o.0 o.1.0 o.1.1 in
    let there = there_in o.0 o.1.0 c.args.lane (contents_of c.loop-k.self) was.closing in
    let is : v ≡ lane_in states c.args.lane = state_at states c.args.lane v there c.index.ensures in
    record {
      opened = (
        o.0,
        (closed_all o.0 o.1.0 c.args.lane (contents_of c.args.self.now) (contents_of c.loop-k.self) was
            (subst (λ (y : LaneValue). unheld_of y.site (grant_places y.grants) ≡ []) is
            (c.unheld.ensures.none c.in_default.is))).works,
      );
      there = there;
      idle = was.closing.idle;
    }

pub returns-clause-closed : goal.returns-clause-closed
returns-clause-closed c = λ s before base.
    let states : List LaneValue = c.loop-k.self.states.items in
    let v : LaneValue = c.index.result.now in
    let was : Goes s before c.args.lane (contents_of c.args.self.now) (contents_of c.loop-k.self) =
    c.loop-k.invariant.1 s before base in
    let is : v ≡ lane_in states c.args.lane = state_at states c.args.lane v
    (there_in s before c.args.lane (contents_of c.loop-k.self) was.closing) c.index.ensures in
    let closed : IsClosed s before (contents_of c.args.self.now) (contents_of c.loop-k.self) =
    closed_all s before c.args.lane (contents_of c.args.self.now) (contents_of c.loop-k.self) was
    (subst (λ (y : LaneValue). unheld_of y.site (grant_places y.grants) ≡ []) is
    (c.unheld.ensures.none c.in_default.is)) in
    closed_on s before (contents_of c.args.self.now) (contents_of c.loop-k.self)
    (contents_of c.forget_unawaited.new.self) closed (c.forget_unawaited.ensures.forgets s closed.works)

pub returns-clause-reports : goal.returns-clause-reports
returns-clause-reports c = leaves_on (past_of c.args.self.now) c.args.self.now c.loop-k.self c.forget_unawaited.new.self
    c.loop-k.invariant.2 c.forget_unawaited.ensures.reports
