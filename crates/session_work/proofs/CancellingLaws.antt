-- A call that is cancelled.
use Rattle.std.proofs.Common.{
  ◌≡◌,
  ◌≢◌,
  ◌<◌,
  ◌≤◌,
  ◌^◌,
  ◌⊎◌,
  ℕ,
  zero,
  suc,
  Bool,
  true,
  false,
  List,
  [],
  ◌∷◌,
  Option,
  Some,
  None,
  refl,
  ap,
  sym,
  ◌∙◌,
  subst,
  arith,
  inl,
  inr,
}
use Rattle.std.specs.Prelude.{◌&&◌, length, slice_get, slice_index_or, slice_set, is_some, MatchBool}
use Rattle.std.proofs.lemmas.List.{length-set}
use Rattle.std.proofs.lemmas.Option.{slice_get_within}
use Rattle.sftp_core.specs.Core.{Core}
use Rattle.plan_runner.specs.declared.next.Running.{Running}
use Rattle.plan_runner.specs.Runners.{bytes_of}
use Rattle.plan_runner.specs.Pending.{own_place, reads_under, with_one, with_reads}
use Rattle.plan_window.specs.declared.window.ReadAt.{ReadAt}
use Rattle.plan_model.specs.declared.call.Call.{Call}
use Rattle.plan_model.specs.declared.call.Lane.{Lane}
use Rattle.session_model.specs.Calls.{Setting, calls_of, current}
use Rattle.session_model.specs.Readings.{answer, count_ended}
use Rattle.session_model.specs.Turns.{begun_but}
use Rattle.session_driver.proofs.Journals.{later_on, later_self}
use Rattle.session_laws.specs.Dues.{unheld_of}
use Rattle.session_laws.specs.Places.{IsRising}
use Rattle.session_laws.specs.Lanes.{AtTied, LaneValue, grant_places, ticket_places}
use Rattle.session_laws.proofs.LaneLaws.{replies_agree}
use Rattle.session_laws.specs.Ends.{CancelsRunning as IsCancelled, GivesUp, Dropped, Kept, LeavesSite, Polled, cancelled_past}
use Rattle.session_laws.specs.Rest.{IsBetweenSteps}
use Rattle.session_laws.proofs.CancelSteps.{cancels_keep}
use Rattle.session_work.specs.Closing.{IsClosingLane, IsClosed}
use Rattle.session_work.specs.Working.{CancelsIn, LanesValue, IsAtRestOpen, lane_in}
use Rattle.session_work.proofs.CallsLaws.{calls_few, current_is}
use Rattle.session_work.proofs.Contents.{lane_set, set_here, state_at}
use Rattle.session_work.specs.Tokens.{AreCounted}
use Rattle.session_work.specs.Turning.{HasAwaited, HasDeferred, IsSafeBy, LeavesBehind}
use Rattle.session_work.proofs.Turned.{lanes_may}

-- ---- nothing is cancelled

none_current : (s : Setting) (c : LanesValue) (lane : ℕ) → IsAtRestOpen s c → length c.states ≤ lane
    → current s c.past lane ≡ None
none_current s c lane w out =
    (let none : slice_get c.calls lane ≡ None = beyond c.calls lane
    (let count = w.stands.count in let lanes = w.stands.lanes in omega (arith, out, count, lanes)) in
    current_is s c lane w.stands ∙ ap (λ (o : Option Lane). slice_get (calls_of o) (count_ended c.past lane)) none
    ∙ nothing (count_ended c.past lane))
  where
    beyond : (xs : List Lane) (k : ℕ) → length xs ≤ k → slice_get xs k ≡ None
    beyond [] k le = refl
    beyond (x ∷ xs) zero le = absurd (omega (arith, le))
    beyond (x ∷ xs) (suc k) le = beyond xs k (omega (arith, le))

    nothing : (n : ℕ) → slice_get (calls_of None) n ≡ None
    nothing n = refl

not_both : (a b : Bool) (X Y : Type 0) → (a ≡ false) ⊎ (b ≡ false) → Y → MatchBool (a && b) X Y
not_both false b X Y how y = y
not_both true false X Y how y = y
not_both true true X Y (inl e) y = absurd cc
not_both true true X Y (inr e) y = absurd cc

pub cancels_nothing : (s : Setting) (lane : ℕ) (c : LanesValue) → IsAtRestOpen s c → (length c.states ≤ lane)
    ⊎ (c.begun lane ≡ false) → CancelsIn s lane c c false
cancels_nothing s lane c w how = record {
  cancels = not_both (is_some (current s c.past lane)) (c.begun lane) _ _
      (either how) (refl, refl);
  later = later_self s c.past;
  working = w;
}
  where
    either : (length c.states ≤ lane) ⊎ (c.begun lane ≡ false) → (is_some (current s c.past lane) ≡ false)
        ⊎ (c.begun lane ≡ false)
    either (inl out) = inl (ap is_some (none_current s c lane w out))
    either (inr out) = inr out

-- ---- a begun call

current_begun : (s : Setting) (lane : ℕ) (c : LanesValue) → IsAtRestOpen s c → lane < length s.lanes
    → is_some (lane_in c.states lane).running ≡ true → (call : Call) × (current s c.past lane ≡ Some call)
current_begun s lane c w there runs = by_running (lane_in c.states lane).running refl runs
  where
    some_call : (o : Option Call) → o ≢ None → (call : Call) × (o ≡ Some call)
    some_call None never = absurd (never refl)
    some_call (Some call) never = (call, refl)

    by_running : (o : Option Running) → (lane_in c.states lane).running ≡ o → is_some o ≡ true → (call : Call)
        × (current s c.past lane ≡ Some call)
    by_running None is e = absurd cc
    by_running (Some r) is e =
        (let goes = (w.rest.between.tied.each lane there).goes in
        let at = subst (λ (x : Option Running). AtTied s c.past lane x (lane_in c.states lane).site) is goes.runs in
        some_call (current s c.past lane) at.2)

-- what it leaves is what its slots have, since the core has the replies of the journal
leaves_site : (s : Setting) (lane : ℕ) (c : LanesValue) (call : Call) (now : LaneValue) → IsAtRestOpen s c
    → lane < length s.lanes → LeavesBehind c.core (lane_in c.states lane) now
    → LeavesSite c.past s call (lane_in c.states lane) now
leaves_site s lane c call now w there behind r runs =
    behind r (bytes_of call) s.facts (answer c.past) runs (λ k t here. replies_agree s c.past c.core (lane_in c.states)
    [] lane k t w.rest.between.tied there here)

pub gives_idle : (core new : Core) (v now : LaneValue) → GivesUp core new v now → now.running ≡ None
gives_idle core new v now (Dropped x) = ap (λ (y : LaneValue). y.running) x.lane
gives_idle core new v now (Polled x) = ap (λ (y : LaneValue). y.running) x.lane
gives_idle core new v now (Kept x) = ap (λ (y : LaneValue). y.running) x.lane

-- the lanes once a call was cancelled, before its grants are closed
abbrev pub cancelled_in : LanesValue → ℕ → Core → LaneValue → LanesValue
cancelled_in c lane new now = record c {
  core = new;
  past = cancelled_past c.past lane;
  states =
      slice_set c.states lane now;
  begun = begun_but c.begun lane;
}

-- the grants of its lane that no slot has are to be closed
pub record Cancelling (s : Setting) (lane : ℕ) (c : LanesValue) (new : Core) (now : LaneValue) : Type 0 where
  pub call : Call
  pub is : current s c.past lane ≡ Some call
  pub cancelled : IsCancelled s c.past new (lane_in c.states) c.begun lane now
  pub closing : IsClosingLane s (cancelled_past c.past lane) lane (cancelled_in c lane new now)

pub cancelling : (s : Setting) (lane : ℕ) (c : LanesValue) (new : Core) (now : LaneValue) → IsAtRestOpen s c
    → lane < length s.lanes → c.begun lane ≡ true → is_some (lane_in c.states lane).running ≡ true
    → GivesUp c.core new (lane_in c.states lane) now → LeavesBehind c.core (lane_in c.states lane) now
    → Cancelling s lane c new now
cancelling s lane c new now w there begun runs gives behind =
    let call = current_begun s lane c w there runs in
    let lt : lane < length c.states = (let count = w.stands.count in omega (arith, there, count)) in
    let x = cancels_keep s c.past c.core new (lane_in c.states) c.begun lane call.0 now w.rest there call.1 begun runs
    (leaves_site s lane c call.0 now w there behind) gives in
    let here : lane_in (slice_set c.states lane now) lane ≡ now = set_here c.states lane now lt in
    record {
      call = call.0;
      is = call.1;
      cancelled = x;
      closing = record {
        stands = record {
          calls = w.stands.calls;
          ok = w.stands.ok;
          facts = w.stands.facts;
          fit = w.stands.fit;
          asked =
              w.stands.asked;
          count = length-set c.states lane now ∙ w.stands.count;
          lanes = w.stands.lanes;
        };
        there = there;
        plain = refl;
        idle = ap (λ (y : LaneValue). y.running) here ∙ gives_idle c.core new (lane_in c.states lane) now gives;
        between = subst (λ (y : LaneValue). IsBetweenSteps s (cancelled_past c.past lane) new
            (lane_in (slice_set c.states lane now)) (begun_but c.begun lane) (unheld_of y.site (grant_places y.grants)))
            (sym here)
            (subst (λ (f : ℕ → LaneValue). IsBetweenSteps s (cancelled_past c.past lane) new f (begun_but c.begun lane)
            (unheld_of now.site (grant_places now.grants))) (sym (lane_set c.states lane now lt)) x.between);
        closes = inl refl;
        later = inl refl;
      };
    }

both_true : (a b : Bool) (X Y : Type 0) → a ≡ true → b ≡ true → X → MatchBool (a && b) X Y
both_true true true X Y ea eb x = x
both_true true false X Y ea eb x = absurd cc
both_true false b X Y ea eb x = absurd cc

-- and once they are closed, the call was cancelled
pub cancels_call : (s : Setting) (lane : ℕ) (c last : LanesValue) (new : Core) (now : LaneValue) → c.begun lane ≡ true
    → Cancelling s lane c new now → IsClosed s (cancelled_past c.past lane) (cancelled_in c lane new now) last
    → CancelsIn s lane c last true
cancels_call s lane c last new now begun x closed =
    record {
      cancels = both_true (is_some (current s c.past lane)) (c.begun lane) _ _ (ap is_some x.is) begun
          (refl, closed.begun, (closed.closes, closed.works.rest.settled));
      later = later_on s c.past (cancelled_past c.past lane) last.past
          (inr (x.cancelled.second, inr (x.cancelled.first, later_self s c.past))) closed.later;
      working = closed.works;
    }

-- ---- what a call of the code asks for

pub there_of : (s : Setting) (c : LanesValue) (lane : ℕ) → IsAtRestOpen s c → lane < length c.states
    → lane < length s.lanes
there_of s c lane w lt = (let count = w.stands.count in omega (arith, lt, count))

-- what is given up of the lane at hand
pub record MayCancel (core : Core) (v : LaneValue) : Type 0 where
  pub safe : IsSafeBy v.running v.site
  pub awaits : HasAwaited v
  pub deferred : HasDeferred v.site v.tickets
  pub counted : AreCounted core v.tickets
  pub rising : IsRising (ticket_places v.tickets)
  pub unfailed : core.fault ≡ None
  pub few : v.ended < 2 ^ 31

pub may_cancel : (s : Setting) (lane : ℕ) (c : LanesValue) (v : LaneValue) → IsAtRestOpen s c → lane < length c.states
    → is_some (lane_in c.states lane).running ≡ true → v ≡ slice_index_or c.states lane v → MayCancel c.core v
may_cancel s lane c v w lt runs value =
    (let there = there_of s c lane w lt in
    let call = current_begun s lane c w there runs in
    let goes = lanes_may s c.past c.core (lane_in c.states) [] lane call.0 w.rest.between.tied there call.1 in
    let number = ends_few s c lane call.0 w there call.1 in
    subst (λ (y : LaneValue). MayCancel c.core y) (sym (state_at c.states lane v lt value)) (record {
      safe = (call.0, (s.facts, goes.safe));
      awaits = goes.awaits;
      deferred = λ q. deferred_by (own_place (lane_in c.states lane).running)
          (reads_under (lane_in c.states lane).running) q _ _ ((w.rest.between.tied.each lane there).goes.awaits q);
      counted = goes.counted;
      rising = (w.rest.between.tied.each lane there).holds.tied_rise;
      unfailed = w.rest.between.tied.work.unfailed;
      few = number;
    }))
  where
    deferred_by : (own : Option ℕ) (reads : List ReadAt) (q times most : ℕ)
        → with_one own q (with_reads reads q times) ≤ most → times ≤ most
    deferred_by None [] q times most le = le
    deferred_by (Some p) [] q times most le = omega (arith, le)
    deferred_by None (r ∷ rest) q times most le = omega (arith, le)
    deferred_by (Some p) (r ∷ rest) q times most le = omega (arith, le)

    lane_at : (o : Option Lane) (n : ℕ) (call : Call) → slice_get (calls_of o) n ≡ Some call → (l : Lane) × (o ≡ Some l)
    lane_at None n call e = absurd cc
    lane_at (Some l) n call e = (l, refl)

    ends_few : (s : Setting) (c : LanesValue) (lane : ℕ) (call : Call) → IsAtRestOpen s c → lane < length s.lanes
        → current s c.past lane ≡ Some call → (lane_in c.states lane).ended < 2 ^ 31
    ends_few s c lane call w there is =
        (let got : slice_get (calls_of (slice_get c.calls lane)) (count_ended c.past lane) ≡ Some call =
        sym (current_is s c lane w.stands) ∙ is in
        let l = lane_at (slice_get c.calls lane) (count_ended c.past lane) call got in
        let within = slice_get_within l.0.calls (count_ended c.past lane) call
        (sym (ap (λ (o : Option Lane). slice_get (calls_of o) (count_ended c.past lane)) l.1) ∙ got) in
        let few = calls_few c.calls lane l.0 w.stands.ok l.1 in
        let number = (w.rest.between.tied.each lane there).ends in
        omega (arith, within, few, number))
