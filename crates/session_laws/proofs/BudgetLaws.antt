-- What a session's lanes may keep, as its journal goes on.
use Rattle.std.proofs.Common.{
  ◌≡◌,
  ◌≢◌,
  ◌<◌,
  ◌≤◌,
  ◌+◌,
  ℕ,
  zero,
  suc,
  false,
  List,
  [],
  ◌∷◌,
  ◌++◌,
  Option,
  Some,
  None,
  refl,
  ap,
  sym,
  ◌∙◌,
  subst,
  arith,
  inl,
  inr,
  ne_eqb,
}
use Rattle.std.specs.Prelude.{length, min, slice_get}
use Rattle.std.proofs.lemmas.Bool.{eq-eqb}
use Rattle.std.proofs.lemmas.Bool.Decides.{eqb_tells}
use Rattle.sftp_model.specs.declared.request.Request.{Request}
use Rattle.sftp_core.specs.Core.{Core}
use Rattle.plan_model.specs.Moves.{Own}
use Rattle.plan_runner.specs.declared.next.Running.{Running}
use Rattle.plan_runner.specs.declared.next.Running.TheVariants as running
use Rattle.plan_runner.specs.Asking.{is_window}
use Rattle.plan_model.specs.declared.call.Call.{Call}
use Rattle.session_model.specs.declared.entry.Entry.{Entry}
use Rattle.session_model.specs.Calls.{Setting, current, lane_calls}
use Rattle.session_model.specs.Readings.{count_submitted, count_ended, own}
use Rattle.session_model.specs.declared.event.Event.TheVariants.{End, Submit}
use Rattle.session_model.specs.declared.event.Owner.TheVariants as owner
use Rattle.session_model.specs.declared.entry.Entry.TheVariants as entry
use Rattle.session_model.proofs.CallLaws.{ended_other, own_other, own_submit}
use Rattle.sftp_model.specs.declared.outcome.Outcome.{Outcome}
use Rattle.sftp_model.specs.declared.slot.Facts.{Facts}
use Rattle.session_laws.specs.Changes.{with_lane}
use Rattle.session_laws.specs.Lanes.{LaneValue}
use Rattle.session_laws.specs.Budgets.{CallSpends, LaneSpends, IdSpending, KeepsIdBudget, budget, budget_of, budgets, in_hand, kept_ids, spending_of, total, used_in}

-- ---- sums over lanes

-- lanes that spend alike may keep alike
total_same : (s : Setting) (past now : List Entry) (lanes news : ℕ → LaneValue) (n : ℕ)
    → ((l : ℕ) → l < n → spending_of s now l (news l).running ≡ spending_of s past l (lanes l).running)
    → total s now news n
    ≡ total s past lanes n
total_same s past now lanes news zero h = refl
total_same s past now lanes news (suc n) h = λ i. total_same s past now lanes news n (λ l lt. h l (omega (arith, lt))) i
    + used_in s.facts (h n (omega arith) i)

-- where one lane may keep more, all may
total_step : (s : Setting) (past now : List Entry) (lanes news : ℕ → LaneValue) (lane d e n : ℕ) → lane < n
    → ((l : ℕ) → l < n → l ≢ lane → spending_of s now l (news l).running ≡ spending_of s past l (lanes l).running)
    → used_in s.facts (spending_of s past lane (lanes lane).running) + d ≤ used_in s.facts
    (spending_of s now lane (news lane).running) + e → total s past lanes n + d ≤ total s now news n + e
total_step s past now lanes news lane d e zero lt others more = absurd (omega (arith, lt))
total_step s past now lanes news lane d e (suc n) lt others more =
    elim (eqb_tells lane n) [
      | inl t ↦
          (let below = total_same s past now lanes news n (λ l less. others l (omega (arith, less))
          (λ same. omega (arith, same, less, t.1))) in
          let here : used_in s.facts (spending_of s past n (lanes n).running) + d ≤ used_in s.facts
          (spending_of s now n (news n).running) + e =
          subst (λ (k : ℕ). used_in s.facts (spending_of s past k (lanes k).running) + d ≤ used_in s.facts
          (spending_of s now k (news k).running) + e) t.1 more in
          omega (arith, below, here))
      | inr t ↦
          (let same = ap (used_in s.facts) (others n (omega arith) (λ e. t.1 (sym e))) in
          let below = total_step s past now lanes news lane d e n (strictly n t.1 lt)
          (λ l less. others l (omega (arith, less))) more in
          omega (arith, same, below))
    ]
  where
    strictly : (k : ℕ) → lane ≢ k → lane < suc k → lane < k
    strictly k ne less = omega (arith, ne, less)

-- ---- the session

-- lanes that spend alike keep what holds, where the core keeps no more
pub spends_same : (s : Setting) (past now : List Entry) (core new : Core) (lanes news : ℕ → LaneValue)
    → ((l : ℕ) → l < length s.lanes → spending_of s now l (news l).running ≡ spending_of s past l (lanes l).running)
    → kept_ids new ≤ kept_ids core
    → KeepsIdBudget s past core lanes → KeepsIdBudget s now new news
spends_same s past now core new lanes news h less x =
    record {
      each = λ l lt. subst (LaneSpends s.facts) (sym (h l lt)) (x.each l lt);
      few = (let same = total_same s past now lanes news (length s.lanes) h in let few = x.few in
          omega (arith, same, few, less));
    }

this_lane : (lanes : ℕ → LaneValue) (lane : ℕ) (v : LaneValue) → with_lane lanes lane v lane ≡ v
this_lane lanes lane v = rw (eq-eqb lane lane refl) refl

other_lane : (lanes : ℕ → LaneValue) (lane l : ℕ) (v : LaneValue) → l ≢ lane → with_lane lanes lane v l ≡ lanes l
other_lane lanes lane l v ne = rw (ne_eqb lane l (λ e. ne (sym e))) refl

-- One lane goes on: it may keep so many more, and the core keeps no more than that.
pub spends_step : (s : Setting) (past now : List Entry) (core new : Core) (lanes : ℕ → LaneValue) (lane d e : ℕ)
    (v : LaneValue) → lane < length s.lanes → ((l : ℕ) → l ≢ lane → spending_of s now l (lanes l).running
    ≡ spending_of s past l (lanes l).running)
    → LaneSpends s.facts (spending_of s now lane v.running) → used_in s.facts
    (spending_of s past lane (lanes lane).running) +
    d ≤ used_in s.facts (spending_of s now lane v.running) + e → kept_ids new + e ≤ kept_ids core + d
    → KeepsIdBudget s past core lanes → KeepsIdBudget s now new (with_lane lanes lane v)
spends_step s past now core new lanes lane d e v there others mine more less x =
    record {
      each = λ l lt. elim (eqb_tells l lane) [
        | inl t ↦ subst (λ (k : ℕ). LaneSpends s.facts (spending_of s now k (news k).running)) (sym t.1)
            (subst (λ (y : LaneValue). LaneSpends s.facts (spending_of s now lane y.running)) (sym here) mine)
        | inr t ↦ subst (LaneSpends s.facts) (sym (alike l t.1)) (x.each l lt)
      ];
      few = (let sum = total_step s past now lanes news lane d e (length s.lanes) there (λ l lt ne. alike l ne)
          (subst (λ (y : LaneValue). used_in s.facts (spending_of s past lane (lanes lane).running) + d ≤ used_in
          s.facts
          (spending_of s now lane y.running) + e) (sym here) more) in
          let few = x.few in omega (arith, sum, few, less));
    }
  where
    news : ℕ → LaneValue
    news = with_lane lanes lane v

    here : news lane ≡ v
    here = this_lane lanes lane v

    alike : (l : ℕ) → l ≢ lane → spending_of s now l (news l).running ≡ spending_of s past l (lanes l).running
    alike l ne = ap (λ (y : LaneValue). spending_of s now l y.running) (other_lane lanes lane l v ne) ∙ others l ne

-- a lane that goes on with the same leaves what holds
pub spends_with : (s : Setting) (past now : List Entry) (core new : Core) (lanes : ℕ → LaneValue) (lane : ℕ)
    (v : LaneValue) → ((l : ℕ) → l < length s.lanes → spending_of s now l (lanes l).running
    ≡ spending_of s past l (lanes l).running)
    → v.running ≡ (lanes lane).running → kept_ids new ≤ kept_ids core → KeepsIdBudget s past core lanes
    → KeepsIdBudget s now new (with_lane lanes lane v)
spends_with s past now core new lanes lane v others same less x =
    spends_same s past now core new lanes (with_lane lanes lane v) (λ l lt. elim (eqb_tells l lane) [
      | inl t ↦
          subst (λ (k : ℕ). spending_of s now k (with_lane lanes lane v k).running
          ≡ spending_of s past k (lanes k).running) (sym t.1)
          (ap (λ (y : LaneValue). spending_of s now lane y.running) (this_lane lanes lane v)
          ∙ (ap (spending_of s now lane) same ∙ subst (λ (k : ℕ). spending_of s now k (lanes k).running
          ≡ spending_of s past k (lanes k).running) t.1 (others l lt)))
      | inr t ↦ ap (λ (y : LaneValue). spending_of s now l y.running) (other_lane lanes lane l v t.1) ∙ others l lt
    ]) less x

-- ---- a lane that runs no call

pub idle_spends : (facts : Facts) (x : IdSpending) → x.running ≡ None → LaneSpends facts x
idle_spends facts x idle c r is some = absurd (let clash : ◌≡◌ {A = Option Running} None (Some r) = sym idle ∙ some in
    cc)

-- ---- what a call may keep now

pub hand_min : (most made : ℕ) (r : Running) → is_window r ≡ false → in_hand most (Some r) made ≡ min made most
hand_min most made (running.ReadingWhole grant bound window) none = absurd cc
hand_min most made other none = refl

-- a call keeps no more now than it may
pub hand_within : (facts : Facts) (c : Call) (own : Own) (x : Option Running)
    → ((r : Running) → x ≡ Some r → CallSpends facts c own r) → in_hand (budget c facts) x (length own) ≤ budget c facts
hand_within facts c own None holds = omega arith
hand_within facts c own (Some r) holds = by_running r (holds r refl)
  where
    by_running : (q : Running) → CallSpends facts c own q → in_hand (budget c facts) (Some q) (length own) ≤ budget c
        facts
    by_running (running.ReadingWhole grant bound window) x = (x.reads refl).fits
    by_running other x = omega arith

-- ---- entries

-- the end of another lane's call
pub spending_end : (s : Setting) (past : List Entry) (l lane n : ℕ) (o : Outcome) (x : Option Running) → l ≢ lane
    → spending_of s (entry.Event (End lane n o) ∷ past) l x ≡ spending_of s past l x
spending_end s past l lane n o x ne =
    let same : count_ended (entry.Event (End lane n o) ∷ past) l ≡ count_ended past l =
    ended_other past lane n l o (λ e. ne (sym e)) in
    λ i. record {
      earlier = budgets s.facts (lane_calls s past l) (same i);
      call =
          slice_get (lane_calls s past l) (same i);
      own = own past l (same i);
      running = x;
    }

-- a request of another lane
pub spending_submit : (s : Setting) (past : List Entry) (l lane n id : ℕ) (r : Request) (x : Option Running) → l ≢ lane
    → spending_of s (entry.Event (Submit (owner.Call lane n) id r) ∷ past) l x ≡ spending_of s past l x
spending_submit s past l lane n id r x ne =
    let same : own (entry.Event (Submit (owner.Call lane n) id r) ∷ past) l (count_ended past l)
    ≡ own past l (count_ended past l) =
    own_other past (owner.Call lane n) id r l (count_ended past l) (rw (ne_eqb lane l (λ e. ne (sym e))) refl) in
    λ i. record {
      earlier = budgets s.facts (lane_calls s past l) (count_ended past l);
      call = current s past l;
      own =
          same i;
      running = x;
    }

-- a request of the lane's current call
abbrev pub with_request : IdSpending → ℕ × Request → Option Running → IdSpending
with_request x asked running = record {
  earlier = x.earlier;
  call = x.call;
  own = x.own ++ asked ∷ [];
  running =
      running;
}

pub spending_mine : (s : Setting) (past : List Entry) (lane id : ℕ) (r : Request) (x y : Option Running)
    → spending_of s (entry.Event (Submit (owner.Call lane (count_ended past lane)) id r) ∷ past) lane y
    ≡ with_request (spending_of s past lane x) (count_submitted past, r) y
spending_mine s past lane id r x y =
    let more = own_submit past lane (count_ended past lane) id r in
    λ i. record {
      earlier = budgets s.facts (lane_calls s past lane) (count_ended past lane);
      call =
          current s past lane;
      own = more i;
      running = y;
    }

-- ---- an end

budgets_next : (facts : Facts) (calls : List Call) (n : ℕ) (c : Call) → slice_get calls n ≡ Some c
    → budgets facts calls (n + 1) ≡ budgets facts calls n + budget c facts
budgets_next facts [] n c is = absurd cc
budgets_next facts (d ∷ calls) zero c is = (let same : d ≡ c = cc in
    subst (λ (x : Call). budget d facts + 0 ≡ 0 + budget x facts) same (omega arith))
budgets_next facts (d ∷ calls) (suc n) c is =
    (let next = budgets_next facts calls n c is in
    let same : suc n + 1 ≡ suc (n + 1) = omega arith in
    subst (λ (k : ℕ). budgets facts (d ∷ calls) k ≡ budgets facts (d ∷ calls) (suc n) + budget c facts) (sym same)
    (omega (arith, next)))

-- the call of a lane has ended: what it keeps counts as its budget
pub spends_end : (s : Setting) (past now : List Entry) (core new : Core) (lanes : ℕ → LaneValue) (lane : ℕ) (c : Call)
    (v : LaneValue) → lane < length s.lanes → current s past lane ≡ Some c
    → ((l : ℕ) → l ≢ lane → spending_of s now l (lanes l).running ≡ spending_of s past l (lanes l).running)
    → lane_calls s now lane ≡ lane_calls s past lane → count_ended now lane ≡ count_ended past lane + 1 → v.running
    ≡ None
    → kept_ids new ≤ kept_ids core
    → KeepsIdBudget s past core lanes → KeepsIdBudget s now new (with_lane lanes lane v)
spends_end s past now core new lanes lane c v there is others calls more idle less x =
    spends_step s past now core new lanes lane 0 0 v there others
    (idle_spends s.facts (spending_of s now lane v.running) idle) used (omega (arith, less)) x
  where
    mine : Own
    mine = own past lane (count_ended past lane)

    within : in_hand (budget_of s.facts (current s past lane)) (lanes lane).running (length mine) ≤ budget c s.facts
    within = subst (λ (o : Option Call). in_hand (budget_of s.facts o) (lanes lane).running (length mine) ≤ budget c
        s.facts) (sym is) (hand_within s.facts c mine (lanes lane).running (λ r runs. x.each lane there c r is runs))

    none : in_hand (budget_of s.facts (current s now lane)) v.running (length (own now lane (count_ended now lane))) ≡ 0
    none = ap (λ (o : Option Running). in_hand (budget_of s.facts (current s now lane)) o
        (length (own now lane (count_ended now lane)))) idle

    next : budgets s.facts (lane_calls s now lane) (count_ended now lane)
        ≡ budgets s.facts (lane_calls s past lane) (count_ended past lane) + budget c s.facts
    next = (λ i. budgets s.facts (calls i) (more i)) ∙ budgets_next s.facts (lane_calls s past lane)
        (count_ended past lane) c is

    used : used_in s.facts (spending_of s past lane (lanes lane).running) + 0 ≤ used_in s.facts
        (spending_of s now lane v.running) + 0
    used = omega (arith, within, none, next)
