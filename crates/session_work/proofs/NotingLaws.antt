-- What is noted of a lane's turn is a step.
use Rattle.std.proofs.Common.{◌≡◌, ◌<◌, ◌≤◌, ◌+◌, ◌^◌, ℕ, Bool, List, ◌∷◌, Option, Some, None, true, false, refl, ap, sym, ◌∙◌, subst, arith, inl, inr}
use Rattle.std.specs.Prelude.{is_some, length, reverse, slice_get, slice_set}
use Rattle.std.proofs.lemmas.List.{length-set}
use Rattle.std.proofs.lemmas.Option.{get_or_from_slice_get, slice_get_within}
use Rattle.sftp_model.specs.declared.outcome.Outcome.{Outcome}
use Rattle.sftp_model.specs.declared.request.Request.{Request}
use Rattle.sftp_model.specs.declared.slot.Facts.{Facts}
use Rattle.sftp_model.specs.declared.slot.Move.{Move}
use Rattle.plan_model.specs.GoodMoves.{FitsCall}
use Rattle.plan_model.specs.RequestCounts.{work as most_requests}
use Rattle.plan_model.specs.declared.call.Call.{Call}
use Rattle.plan_model.specs.declared.call.Lane.{Lane}
use Rattle.session_model.specs.declared.event.Event.TheVariants.{End}
use Rattle.session_model.specs.declared.entry.Entry.{Entry}
use Rattle.session_model.specs.declared.entry.Entry.TheVariants as entry
use Rattle.session_model.specs.Calls.{Setting, calls_of, current}
use Rattle.session_model.specs.Readings.{count_ended, own}
use Rattle.session_model.specs.Turns.{begun_but, begun_with}
use Rattle.session_model.proofs.CallLaws.{own_fresh}
use Rattle.session_model.proofs.PlannedLaws.{planned_fits}
use Rattle.session_driver.specs.Session.{StepsTo}
use Rattle.session_driver.specs.declared.session.Stepped.TheVariants as stepped
use Rattle.session_driver.proofs.Journals.{later_on, later_self}
use Rattle.session_laws.specs.Changes.{ended_lane, fresh_lane, with_lane}
use Rattle.session_laws.specs.Dues.{unheld_of}
use Rattle.session_laws.specs.Lanes.{LaneValue, grant_places}
use Rattle.session_laws.specs.Running.{own_request}
use Rattle.session_laws.specs.Rest.{AtRest, IsBetweenSteps, begun_of, weigh}
use Rattle.session_work.specs.Rests.{AskedOwn, EndsCall, GoesWithoutEntry, LaneWaits}
use Rattle.session_work.specs.declared.lane.Moved.{Moved}
use Rattle.session_work.specs.declared.lane.Moved.TheVariants as moved
use Rattle.session_work.proofs.Holding.{with_again}
use Rattle.session_work.specs.Closing.{IsClosingLane, IsClosed}
use Rattle.session_work.specs.Noting.{HasCall, OthersRun, HasTurnToNote, with_begun, asked_in, call_by, call_in, ended_in, turned_in}
use Rattle.session_work.specs.Working.{LanesValue, HasGivenLanes, StepsIn, NotesNothing, IsAtRestOpen, lane_in, lanes_left, progress_in}
use Rattle.session_work.proofs.BegunLaws.{begun_ends, begun_runs, others_kept}
use Rattle.session_work.proofs.CallsLaws.{call_within, calls_few, current_is}
use Rattle.session_work.proofs.ClosingLaws.{counted_in}
use Rattle.session_work.proofs.Contents.{get_set, lane_set, set_here}
use Rattle.session_work.proofs.Remaining.{asked_left, asks_within, ended_left}

-- ---- the lane of a turn

-- a lane and its calls, of which this one is current
pub record AtCall (c : LanesValue) (lane : ℕ) (call : Call) : Type 0 where
  pub calls : Lane
  pub lane_is : slice_get c.calls lane ≡ Some calls
  pub state : LaneValue
  pub here : slice_get c.states lane ≡ Some state
  pub call_is : slice_get calls.calls state.ended ≡ Some call

pub at_call : (c : LanesValue) (lane : ℕ) (call : Call) → call_in c.calls c.states lane ≡ Some call → AtCall c lane call
at_call c lane call e = by_lane (slice_get c.calls lane) (slice_get c.states lane) refl refl e
  where
    by_lane : (x : Option Lane) (y : Option LaneValue) → slice_get c.calls lane ≡ x → slice_get c.states lane ≡ y
        → call_by x y ≡ Some call → AtCall c lane call
    by_lane None y is here e = absurd cc
    by_lane (Some l) None is here e = absurd cc
    by_lane (Some l) (Some v) is here e = record { calls = l; lane_is = is; state = v; here = here; call_is = e }

pub state_is : (c : LanesValue) (lane : ℕ) (call : Call) → (a : AtCall c lane call) → lane_in c.states lane ≡ a.state
state_is c lane call a = get_or_from_slice_get c.states lane a.state fresh_lane a.here

pub within_states : (c : LanesValue) (lane : ℕ) (call : Call) → AtCall c lane call → lane < length c.states
within_states c lane call a = slice_get_within c.states lane a.state a.here

-- the number of its call
pub ends_at : (s : Setting) (lane : ℕ) (c : LanesValue) → IsAtRestOpen s c → lane < length s.lanes
    → (lane_in c.states lane).ended ≡ count_ended c.past lane
ends_at s lane c w there = (w.rest.between.tied.each lane there).ends

pub there_at : (s : Setting) (c : LanesValue) (lane : ℕ) (call : Call) → IsAtRestOpen s c → AtCall c lane call
    → lane < length s.lanes
there_at s c lane call w a = (let within = within_states c lane call a in let count = w.stands.count in
    omega (arith, within, count))

-- it stands behind those that have ended
call_here : (s : Setting) (c : LanesValue) (lane : ℕ) (call : Call) → IsAtRestOpen s c → (a : AtCall c lane call)
    → slice_get a.calls.calls (count_ended c.past lane) ≡ Some call
call_here s c lane call w a =
    (let number : count_ended c.past lane ≡ a.state.ended = sym (ends_at s lane c w (there_at s c lane call w a))
    ∙ ap (λ (v : LaneValue). v.ended) (state_is c lane call a) in ap (slice_get a.calls.calls) number ∙ a.call_is)

more_calls : (s : Setting) (c : LanesValue) (lane : ℕ) (call : Call) → IsAtRestOpen s c → (a : AtCall c lane call)
    → count_ended c.past lane < length a.calls.calls
more_calls s c lane call w a = slice_get_within a.calls.calls (count_ended c.past lane) call
    (call_here s c lane call w a)

-- and is the lane's current call by the journal
pub current_at : (s : Setting) (c : LanesValue) (lane : ℕ) (call : Call) → IsAtRestOpen s c → AtCall c lane call
    → current s c.past lane ≡ Some call
current_at s c lane call w a =
    current_is s c lane w.stands ∙ ap (λ (o : Option Lane). slice_get (calls_of o) (count_ended c.past lane)) a.lane_is
    ∙ call_here s c lane call w a

-- its numbers fit their fields
pub call_fits : (s : Setting) (c : LanesValue) (lane : ℕ) (call : Call) → IsAtRestOpen s c → AtCall c lane call
    → FitsCall call
call_fits s c lane call w a =
    planned_fits call (call_within c.calls lane (count_ended c.past lane) a.calls call w.stands.ok a.lane_is
    (call_here s c lane call w a))

-- ---- the three kinds of turn

turned_stands : (s : Setting) (c : LanesValue) (lane : ℕ) (v : LaneValue) → HasGivenLanes s c
    → length (slice_set c.states lane v) ≡ length s.lanes
turned_stands s c lane v t = length-set c.states lane v ∙ t.count

pub waits_in : (s : Setting) (lane : ℕ) (old c : LanesValue) → HasTurnToNote s lane old c moved.Waits
    → StepsIn s lane old (record c { begun = begun_with c.begun lane }) stepped.Nothing
waits_in s lane old c t =
    let a = at_call old lane t.call t.calls in
    let lt : lane < length old.states = within_states old lane t.call a in
    let x : LaneWaits s old.past old.core t.new (with_lane (lane_in old.states) lane t.now) old.begun lane = t.leaves in
    let made : LanesValue = record old {
      core = t.new;
      states = slice_set old.states lane t.now;
      begun =
          begun_with old.begun lane;
    } in
    subst (λ (y : LanesValue). StepsIn s lane old (record y { begun = begun_with y.begun lane }) stepped.Nothing)
    (sym t.is) (record {
      steps = subst (λ (m : Option Move). StepsTo s lane (progress_in old) (progress_in made) m stepped.Nothing)
          (sym x.move) (refl, refl);
      later = later_self s old.past;
      working = record {
        stands = record {
          calls = t.works.stands.calls;
          ok = t.works.stands.ok;
          facts = t.works.stands.facts;
          fit =
              t.works.stands.fit;
          asked = t.works.stands.asked;
          count = turned_stands s old lane t.now t.works.stands;
          lanes = t.works.stands.lanes;
        };
        rest = subst (λ (f : ℕ → LaneValue). AtRest s old.past t.new f (begun_with old.begun lane))
            (sym (lane_set old.states lane t.now lt)) x.rest;
      };
      less = (let work = x.work in omega (arith, work));
      waits = λ e some. x.unanswered;
    })

less_asked : (left less weight more : ℕ) → less + 4 ≤ left → more ≤ weight + 3 → less + more < left + weight
less_asked left less weight more a b = omega (arith, a, b)

pub asked_step : (s : Setting) (lane id : ℕ) (r : Request) (old c : LanesValue)
    → HasTurnToNote s lane old c (moved.Asked id r)
    → StepsIn s lane old (asked_in c lane (count_ended old.past lane) id r) stepped.Submitted
asked_step s lane id r old c t =
    let a = at_call old lane t.call t.calls in
    let lt : lane < length old.states = within_states old lane t.call a in
    let x : AskedOwn s old.past old.core t.new (with_lane (lane_in old.states) lane t.now) old.begun lane id r =
    t.leaves in
    let now : List Entry = own_request old.past lane id r ∷ old.past in
    let made : LanesValue = asked_in (turned_in old lane t.new t.now) lane (count_ended old.past lane) id r in
    let fewer : length (own old.past lane (count_ended old.past lane)) < most_requests (t.call) old.facts =
    subst (λ (f : Facts). length (own old.past lane (count_ended old.past lane)) < most_requests (t.call) f)
    (sym t.works.stands.facts)
    (asks_within s old.past lane t.call r (call_fits s old lane t.call t.works a) t.works.stands.fit
    t.works.rest.between.good.run (current_at s old lane t.call t.works a) x.move) in
    let left = asked_left old.facts old.past old.calls lane id r a.calls t.call a.lane_is
    (call_here s old lane t.call t.works a) fewer in
    subst (λ (y : LanesValue). StepsIn s lane old (asked_in y lane (count_ended old.past lane) id r) stepped.Submitted)
    (sym t.is) (record {
      steps = subst (λ (m : Option Move). StepsTo s lane (progress_in old) (progress_in made) m stepped.Submitted)
          (sym x.move) (refl, refl, (id, (x.free, (inl refl, x.rest.settled))));
      later = inr (x.next, later_self s old.past);
      working = record {
        stands = record {
          calls = t.works.stands.calls;
          ok = t.works.stands.ok;
          facts = t.works.stands.facts;
          fit =
              t.works.stands.fit;
          asked = ap (λ (n : ℕ). n + 1) t.works.stands.asked;
          count =
              turned_stands s old lane t.now t.works.stands;
          lanes = t.works.stands.lanes;
        };
        rest = subst (λ (f : ℕ → LaneValue). AtRest s now t.new f (begun_with old.begun lane))
            (sym (lane_set old.states lane t.now lt)) x.rest;
      };
      less = less_asked (lanes_left old.facts old.past old.calls 0) (lanes_left old.facts now old.calls 0)
          (weigh old.core) (weigh t.new) left x.work;
      waits = λ e some. absurd cc;
    })

-- a call that ended: the grants of its lane that no slot has are to be closed
pub ended_closing : (s : Setting) (lane : ℕ) (o : Outcome) (old c : LanesValue)
    → HasTurnToNote s lane old c (moved.Ended o)
    → IsClosingLane s (entry.Event (End lane (count_ended old.past lane) o) ∷ old.past) lane
    (ended_in c lane (count_ended old.past lane) o)
ended_closing s lane o old c t =
    let a = at_call old lane t.call t.calls in
    let lt : lane < length old.states = within_states old lane t.call a in
    let now : List Entry = entry.Event (End lane (count_ended old.past lane) o) ∷ old.past in
    let x : EndsCall s old.past old.core t.new (with_lane (lane_in old.states) lane (ended_lane t.now t.now.site))
    old.begun lane t.now o = t.leaves in
    let mid : List LaneValue = slice_set old.states lane t.now in
    let mid_lt : lane < length mid = (let same = length-set old.states lane t.now in omega (arith, lt, same)) in
    let here : lane_in mid lane ≡ t.now = set_here old.states lane t.now lt in
    let last : LaneValue = ended_lane (lane_in mid lane) (lane_in mid lane).site in
    let last_is : last ≡ ended_lane t.now t.now.site = ap (λ (v : LaneValue). ended_lane v v.site) here in
    let lanes_are : lane_in (slice_set mid lane last) ≡ with_lane (lane_in old.states) lane
    (ended_lane t.now t.now.site) =
    lane_set mid lane last mid_lt ∙ ap (λ (f : ℕ → LaneValue). with_lane f lane last)
    (lane_set old.states lane t.now lt) ∙ with_again (lane_in old.states) lane t.now last
    ∙ ap (with_lane (lane_in old.states) lane) last_is in
    let last_here : lane_in (slice_set mid lane last) lane ≡ ended_lane t.now t.now.site = set_here mid lane last mid_lt
    ∙ last_is in
    subst (λ (y : LanesValue). IsClosingLane s now lane (ended_in y lane (count_ended old.past lane) o)) (sym t.is)
    (record {
      stands = record {
        calls = t.works.stands.calls;
        ok = t.works.stands.ok;
        facts = t.works.stands.facts;
        fit =
            t.works.stands.fit;
        asked = t.works.stands.asked;
        count = length-set mid lane last
            ∙ turned_stands s old lane t.now t.works.stands;
        lanes = t.works.stands.lanes;
      };
      there = t.there;
      plain = refl;
      idle = ap (λ (v : LaneValue). v.running) last_here;
      between = subst (λ (v : LaneValue). IsBetweenSteps s now t.new (lane_in (slice_set mid lane last))
          (begun_but old.begun lane) (unheld_of v.site (grant_places v.grants))) (sym last_here)
          (subst (λ (f : ℕ → LaneValue). IsBetweenSteps s now t.new f (begun_but old.begun lane)
          (unheld_of t.now.site (grant_places t.now.grants))) (sym lanes_are) x.between);
      closes = inl refl;
      later = inl refl;
    })

less_ended : (left less weight more mid same : ℕ) → less + 1 ≤ left → same ≡ less → mid ≤ more → more ≤ weight
    → same + mid < left + weight
less_ended left less weight more mid same a b c d = omega (arith, a, b, c, d)

-- and once they are closed, this was a step
pub ended_step : (s : Setting) (lane : ℕ) (o : Outcome) (old c new : LanesValue)
    → HasTurnToNote s lane old c (moved.Ended o)
    → IsClosed s (entry.Event (End lane (count_ended old.past lane) o) ∷ old.past)
    (ended_in c lane (count_ended old.past lane) o)
    new → StepsIn s lane old new stepped.Ended
ended_step s lane o old c new t closed =
    let a = at_call old lane t.call t.calls in
    let now : List Entry = entry.Event (End lane (count_ended old.past lane) o) ∷ old.past in
    let x : EndsCall s old.past old.core t.new (with_lane (lane_in old.states) lane (ended_lane t.now t.now.site))
    old.begun lane t.now o = t.leaves in
    let made : LanesValue = ended_in (turned_in old lane t.new t.now) lane (count_ended old.past lane) o in
    let y : IsClosed s now made new = subst (λ (z : LanesValue). IsClosed s now
    (ended_in z lane (count_ended old.past lane) o) new) t.is closed in
    let left = ended_left old.facts old.past old.calls lane o a.calls t.call a.lane_is
    (call_here s old lane t.call t.works a) (own_fresh s old.past lane (count_ended old.past lane + 1)
    t.works.rest.between.good.run (omega arith)) in
    record {
      steps = subst (λ (m : Option Move). StepsTo s lane (progress_in old) (progress_in new) m stepped.Ended)
          (sym x.move)
          (refl, y.begun, (y.closes, y.works.rest.settled));
      later = later_on s old.past now new.past (inr (x.next, later_self s old.past)) y.later;
      working = y.works;
      less = less_ended (lanes_left old.facts old.past old.calls 0) (lanes_left old.facts now old.calls 0)
          (weigh old.core) (weigh t.new) (weigh new.core) (lanes_left new.facts new.past new.calls 0) left y.left y.work
          x.work;
      waits = λ e some. absurd cc;
    }

-- ---- the lane behind its turn

-- it runs a call that waits, or whose request was submitted
pub waits_runs : (s : Setting) (lane : ℕ) (old c : LanesValue) → HasTurnToNote s lane old c moved.Waits
    → is_some (lane_in c.states lane).running ≡ true
waits_runs s lane old c t =
    let lt : lane < length old.states = within_states old lane t.call (at_call old lane t.call t.calls) in
    let x : LaneWaits s old.past old.core t.new (with_lane (lane_in old.states) lane t.now) old.begun lane = t.leaves in
    ap (λ (y : LanesValue). is_some (lane_in y.states lane).running) t.is
    ∙ ap (λ (f : ℕ → LaneValue). is_some (f lane).running) (lane_set old.states lane t.now lt) ∙ x.runs

pub asked_runs : (s : Setting) (lane id : ℕ) (r : Request) (old c : LanesValue)
    → HasTurnToNote s lane old c (moved.Asked id r)
    → is_some (lane_in c.states lane).running ≡ true
asked_runs s lane id r old c t =
    let lt : lane < length old.states = within_states old lane t.call (at_call old lane t.call t.calls) in
    let x : AskedOwn s old.past old.core t.new (with_lane (lane_in old.states) lane t.now) old.begun lane id r =
    t.leaves in
    ap (λ (y : LanesValue). is_some (lane_in y.states lane).running) t.is
    ∙ ap (λ (f : ℕ → LaneValue). is_some (f lane).running) (lane_set old.states lane t.now lt) ∙ x.runs

-- it is one of the lanes
pub turned_there : (s : Setting) (lane : ℕ) (old c : LanesValue) (m : Moved) → HasTurnToNote s lane old c m
    → lane < length c.states
turned_there s lane old c m t =
    (let lt : lane < length old.states = within_states old lane t.call (at_call old lane t.call t.calls) in
    let same : length c.states ≡ length old.states = ap (λ (y : LanesValue). length y.states) t.is
    ∙ length-set old.states lane t.now in
    omega (arith, lt, same))

-- ---- what stands in the contents behind a note

-- a request: the lane was begun
pub asked_noted : (lane n id : ℕ) (r : Request) (begun : ℕ → Bool) (c new : LanesValue) → OthersRun begun lane c.states
    → is_some (lane_in c.states lane).running ≡ true → new ≡ with_begun (begun_of (lane_in new.states))
    (asked_in c lane n id r)
    → asked_in (with_begun begun c) lane n id r ≡ new
asked_noted lane n id r begun c new others runs noted =
    let kept : new.states ≡ c.states = ap (λ (y : LanesValue). y.states) noted in
    let are : begun_with begun lane ≡ begun_of (lane_in new.states) = begun_runs begun lane c.states others runs
    ∙ ap (λ (ss : List LaneValue). begun_of (lane_in ss)) (sym kept) in
    ap (λ (b : ℕ → Bool). with_begun b (asked_in c lane n id r)) are ∙ sym noted

-- an end: it is not begun any more
pub ended_noted : (lane n : ℕ) (o : Outcome) (begun : ℕ → Bool) (c new : LanesValue) → OthersRun begun lane c.states
    → lane < length c.states → new ≡ with_begun (begun_of (lane_in new.states)) (ended_in c lane n o)
    → ended_in (with_begun begun c) lane n o ≡ new
ended_noted lane n o begun c new others lt noted =
    let v : LaneValue = lane_in c.states lane in
    let left : List LaneValue = slice_set c.states lane (ended_lane v v.site) in
    let kept : new.states ≡ left = ap (λ (y : LanesValue). y.states) noted in
    let none : is_some (lane_in left lane).running ≡ false = ap (λ (y : LaneValue). is_some y.running)
    (set_here c.states lane (ended_lane v v.site) lt) in
    let are : begun_but begun lane ≡ begun_of (lane_in new.states) =
    begun_ends begun lane left (others_kept c.states lane (ended_lane v v.site) lt begun others) none
    ∙ ap (λ (ss : List LaneValue). begun_of (lane_in ss)) (sym kept) in
    ap (λ (b : ℕ → Bool). with_begun b (ended_in c lane n o)) are ∙ sym noted

-- ---- a turn without an entry

-- it leaves the session at rest as it was
pub went_unnoted : (s : Setting) (lane : ℕ) (old c : LanesValue) → HasTurnToNote s lane old c moved.Went
    → NotesNothing s old c
went_unnoted s lane old c t =
    let lt : lane < length old.states = within_states old lane t.call (at_call old lane t.call t.calls) in
    let x : GoesWithoutEntry s old.past old.core t.new (with_lane (lane_in old.states) lane t.now) old.begun = t.leaves
    in
    subst (λ (y : LanesValue). NotesNothing s old y) (sym t.is) (record {
      works = record {
        stands = record {
          calls = t.works.stands.calls;
          ok = t.works.stands.ok;
          facts = t.works.stands.facts;
          fit =
              t.works.stands.fit;
          asked = t.works.stands.asked;
          count = turned_stands s old lane t.now t.works.stands;
          lanes = t.works.stands.lanes;
        };
        rest = subst (λ (f : ℕ → LaneValue). AtRest s old.past t.new f old.begun)
            (sym (lane_set old.states lane t.now lt)) x.rest;
      };
      same = refl;
      work = x.work;
    })

-- the core has no fault behind a turn
pub turning_unfailed : (s : Setting) (lane : ℕ) (old c : LanesValue) (m : Moved) → HasTurnToNote s lane old c m
    → c.core.fault ≡ None
turning_unfailed s lane old c moved.Waits t = (waits_in s lane old c t).working.rest.between.tied.work.unfailed
turning_unfailed s lane old c moved.Went t = (went_unnoted s lane old c t).works.rest.between.tied.work.unfailed
turning_unfailed s lane old c (moved.Asked id r) t = (asked_step s lane id r old c
    t).working.rest.between.tied.work.unfailed
turning_unfailed s lane old c (moved.Ended o) t = (ended_closing s lane o old c t).between.tied.work.unfailed

-- behind a turn the lane has the call that it had
turning_call : (s : Setting) (lane : ℕ) (old c : LanesValue) (m : Moved) → (t : HasTurnToNote s lane old c m)
    → call_in c.calls c.states lane ≡ Some t.call
turning_call s lane old c m t =
    (let a = at_call old lane t.call t.calls in
    let lt : lane < length old.states = within_states old lane t.call a in
    let number : t.now.ended ≡ a.state.ended = t.same ∙ ap (λ (v : LaneValue). v.ended) (state_is old lane t.call a) in
    ap (λ (x : LanesValue). call_in x.calls x.states lane) t.is
    ∙ ap (λ (o : Option Lane). call_by o (slice_get (slice_set old.states lane t.now) lane)) a.lane_is
    ∙ ap (call_by (Some a.calls)) (get_set old.states lane t.now lt) ∙ ap (slice_get a.calls.calls) number ∙ a.call_is)

pub has_call : (s : Setting) (lane : ℕ) (old c : LanesValue) (m : Moved) → HasTurnToNote s lane old c m → HasCall c lane
has_call s lane old c m t none = (let clash : ◌≡◌ {A = Option Call} None (Some t.call) = sym none
    ∙ turning_call s lane old c m t in cc)

-- ---- what a call of the code asks for

-- the number of the call that had its turn
pub turning_number : (s : Setting) (lane : ℕ) (old c : LanesValue) (m : Moved) → HasTurnToNote s lane old c m
    → (lane_in c.states lane).ended ≡ count_ended old.past lane
turning_number s lane old c m t =
    (let lt : lane < length old.states = within_states old lane t.call (at_call old lane t.call t.calls) in
    ap (λ (x : LanesValue). (lane_in x.states lane).ended) t.is ∙ ap (λ (v : LaneValue). v.ended)
    (set_here old.states lane t.now lt) ∙ t.same ∙ ends_at s lane old t.works t.there)

pub turning_few : (s : Setting) (lane : ℕ) (old c : LanesValue) (m : Moved) → HasTurnToNote s lane old c m
    → (lane_in c.states lane).ended < 2 ^ 31
turning_few s lane old c m t =
    (let a = at_call old lane t.call t.calls in
    let more = more_calls s old lane t.call t.works a in
    let few = calls_few old.calls lane a.calls t.works.stands.ok a.lane_is in
    let number = turning_number s lane old c m t in
    omega (arith, more, few, number))

-- there are no more requests than entries
pub turning_counted : (s : Setting) (lane : ℕ) (old c : LanesValue) (m : Moved) (journal : List Entry)
    → HasTurnToNote s lane old c m → c.past ≡ reverse journal → c.asked ≤ length journal
turning_counted s lane old c m journal t is =
    (let few = counted_in s old journal t.works.stands (sym (ap (λ (x : LanesValue). x.past) t.is) ∙ is) in
    let same : c.asked ≡ old.asked = ap (λ (x : LanesValue). x.asked) t.is in
    omega (arith, few, same))
