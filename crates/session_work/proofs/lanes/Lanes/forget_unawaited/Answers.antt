use Rattle.std.proofs.Common.{◌≡◌, ◌≢◌, ◌<◌, ℕ, Some, length, sym, subst, ◌∙◌, arith, refl}
use Rattle.std.specs.Prelude.{slice_get}
use Rattle.std.proofs.lemmas.List.{length-set}
use Rattle.plan_runner.specs.Pending.{slots_times}
use Rattle.session_work.specs.Tokens.{AreCounted}
use Rattle.session_laws.specs.Lanes.{LaneValue, Ticketed}
use Rattle.session_work.specs.Working.{LanesValue, NotesNothing, contents_of, lane_in}
use Rattle.session_work.proofs.Contents.{state_at}
use Rattle.session_work.proofs.UnnotedLaws.{HasForgotten, has_forgotten, forgets_idle, forgets_less, forgets_unnoted, tickets_in, unnoted_on, unnoted_self}
use Rattle.session_work.proofs.lanes.Lanes.forget_unawaited.Goals as goal

pub loop-k-init : goal.loop-k-init
loop-k-init c = (c.requires.there, c.requires.idle, λ s w. unnoted_self s (contents_of c.args.self.now) w, refl, refl)

pub index-requires : goal.index-requires
index-requires c =
    let lt = c.loop-k.invariant.0 in
    let len = c.loop-k.self.states.ok.0 in
    omega (arith, lt, len)

pub forget-requires-clause-counted : goal.forget-requires-clause-counted
forget-requires-clause-counted c =
    let o = c.requires.opened in
    let lt = c.loop-k.invariant.0 in
    let v : LaneValue = c.index_mut.result.now in
    let is : v ≡ lane_in c.loop-k.self.states.items c.args.lane =
    state_at c.loop-k.self.states.items c.args.lane v lt c.index_mut.ensures.value in
    subst (λ (y : LaneValue). AreCounted c.loop-k.self.core y.tickets) (sym is)
    (tickets_in o.0 c.args.lane (contents_of c.loop-k.self) (c.loop-k.invariant.2 o.0 o.1).works lt)

pub forget-requires-clause-within : goal.forget-requires-clause-within
forget-requires-clause-within c =
    let lt = c.loop-k.invariant.0 in
    let states = c.loop-k.self.states.items in
    let v : LaneValue = c.index.result.now in
    let u : LaneValue = c.index_mut.result.now in
    let same : v ≡ u = state_at states c.args.lane v lt c.index.ensures
    ∙ sym (state_at states c.args.lane u lt c.index_mut.ensures.value) in
    subst (λ (y : LaneValue). c.in-Some.k < length y.tickets) same c.in-Some.ensures.within

pub loop-k-smaller : goal.loop-k-smaller
loop-k-smaller c =
    let lt = c.loop-k.invariant.0 in
    let mid : LanesValue = contents_of c.loop-k.self in
    let k = c.in-Some.k in
    let has : HasForgotten mid.core c.forget.new.core (lane_in mid.states c.args.lane) c.forget.new.self k =
    has_forgotten mid.states c.args.lane k c.index.result.now c.index_mut.result.now c.forget.new.self mid.core
    c.forget.new.core lt c.index.ensures c.index_mut.ensures.value c.in-Some.ensures.within
    (λ t here. c.unawaited.ensures.some k t c.in-Some.is here) c.forget.ensures.core c.forget.ensures.lane in
    forgets_less c.args.lane k mid c.forget.new.core c.forget.new.self lt has

pub loop-k-preserved : goal.loop-k-preserved
loop-k-preserved c =
    let lt = c.loop-k.invariant.0 in
    let idle = c.loop-k.invariant.1 in
    let old : LanesValue = contents_of c.args.self.now in
    let mid : LanesValue = contents_of c.loop-k.self in
    let k = c.in-Some.k in
    let has : HasForgotten mid.core c.forget.new.core (lane_in mid.states c.args.lane) c.forget.new.self k =
    has_forgotten mid.states c.args.lane k c.index.result.now c.index_mut.result.now c.forget.new.self mid.core
    c.forget.new.core lt c.index.ensures c.index_mut.ensures.value c.in-Some.ensures.within
    (λ t here. c.unawaited.ensures.some k t c.in-Some.is here) c.forget.ensures.core c.forget.ensures.lane in (
      (let same = length-set mid.states c.args.lane c.forget.new.self in omega (arith, lt, same)),
      forgets_idle c.args.lane k mid c.forget.new.core c.forget.new.self lt idle has,
      λ s w. (let u : NotesNothing s old mid = c.loop-k.invariant.2 s w in
          unnoted_on s old mid _ u (forgets_unnoted s c.args.lane k mid c.forget.new.core c.forget.new.self u.works lt
          idle has refl)),
      c.loop-k.invariant.3,
      c.loop-k.invariant.4,
    )

pub returns-clause-none : goal.returns-clause-none
returns-clause-none c =
    let v : LaneValue = c.index.result.now in
    let is : v ≡ lane_in c.loop-k.self.states.items c.args.lane =
    state_at c.loop-k.self.states.items c.args.lane v c.loop-k.invariant.0 c.index.ensures in
    subst (λ (y : LaneValue). (k : ℕ) (t : Ticketed) → slice_get y.tickets k ≡ Some t
    → slots_times t.place y.site.slots ≢ 0) is (λ k t here. c.unawaited.ensures.none k t c.in_default.is here)
