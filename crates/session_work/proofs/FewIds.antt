-- A session keeps few ids: no more than its lanes may, which weigh less than the limit.
use Rattle.std.proofs.Common.{◌≡◌, ◌≢◌, ◌<◌, ◌≤◌, ◌+◌, ℕ, zero, suc, List, [], ◌∷◌, Option, Some, None, refl, ap, sym, ◌∙◌, subst, arith}
use Rattle.std.specs.Prelude.{drop, length, slice_get}
use Rattle.std.specs.List.{sum_by}
use Rattle.std.proofs.lemmas.List.Sums.{sum_by-cons}
use Rattle.sftp_model.specs.declared.slot.Facts.{Facts}
use Rattle.sftp_core.specs.Info.{MAX_IDS}
use Rattle.plan_model.specs.GoodMoves.{FitsFacts}
use Rattle.plan_model.specs.Moves.{Own}
use Rattle.plan_runner.specs.declared.next.Running.{Running}
use Rattle.plan_model.specs.declared.call.Call.{Call}
use Rattle.plan_model.specs.declared.call.Call.TheVariants as call
use Rattle.plan_model.specs.declared.call.Lane.{Lane}
use Rattle.session_model.specs.declared.entry.Entry.{Entry}
use Rattle.session_model.specs.Calls.{Setting, calls_of, current, lane_calls}
use Rattle.plan_model.specs.Lanes.{lane_weight, weight}
use Rattle.session_model.specs.Readings.{count_ended, own}
use Rattle.session_laws.specs.Lanes.{AtTied, LaneValue}
use Rattle.session_laws.specs.Budgets.{CallSpends, budget, budget_of, budgets, in_hand, kept_ids, total}
use Rattle.session_laws.proofs.BudgetLaws.{hand_within}
use Rattle.session_work.specs.Working.{LanesValue, IsAtRestOpen, lane_in}
use Rattle.session_work.proofs.CallsLaws.{weighs_few}
use Rattle.session_work.proofs.Remaining.{drop_at}

-- ---- calls

-- a call may keep no more than it weighs
within_weight : (c : Call) (facts : Facts) → FitsFacts facts → budget c facts ≤ weight c
within_weight (call.FsRead path bound) facts fit = (let narrow = fit.read_window.1 in omega (arith, narrow))
within_weight (call.BufWrite slot bytes) facts fit = omega arith
within_weight (call.BufWriteAll slot bytes) facts fit = omega arith
within_weight other facts fit = omega arith

calls_within : (facts : Facts) (calls : List Call) (n : ℕ) → FitsFacts facts
    → budgets facts calls n ≤ sum_by weight calls
calls_within facts [] zero fit = omega arith
calls_within facts [] (suc n) fit = omega arith
calls_within facts (c ∷ calls) zero fit = omega arith
calls_within facts (c ∷ calls) (suc n) fit =
    (let sum = sum_by-cons weight c calls in let rest = calls_within facts calls n fit in let one =
    within_weight c facts fit in omega (arith, sum, rest, one))

-- with the next one
next_within : (facts : Facts) (calls : List Call) (n : ℕ) → FitsFacts facts
    → budgets facts calls n + budget_of facts (slice_get calls n) ≤ sum_by weight calls
next_within facts [] zero fit = omega arith
next_within facts [] (suc n) fit = omega arith
next_within facts (c ∷ calls) zero fit = (let sum = sum_by-cons weight c calls in let one = within_weight c facts fit in
    omega (arith, sum, one))
next_within facts (c ∷ calls) (suc n) fit =
    (let sum = sum_by-cons weight c calls in let rest = next_within facts calls n fit in let one =
    within_weight c facts fit in omega (arith, sum, rest, one))

-- ---- a lane

lane_within : (facts : Facts) (calls : List Call) (n : ℕ) (mine : Own) (x : Option Running) → FitsFacts facts
    → ((r : Running) → x ≡ Some r → (c : Call) × ((slice_get calls n ≡ Some c) × CallSpends facts c mine r))
    → budgets facts calls n + in_hand (budget_of facts (slice_get calls n)) x (length mine) ≤ sum_by weight calls
lane_within facts calls n mine None fit runs = (let all = calls_within facts calls n fit in omega (arith, all))
lane_within facts calls n mine (Some r) fit runs =
    (let c = runs r refl in
    let all = next_within facts calls n fit in
    let hand : in_hand (budget_of facts (slice_get calls n)) (Some r) (length mine) ≤ budget_of facts
    (slice_get calls n) =
    subst (λ (o : Option Call). in_hand (budget_of facts o) (Some r) (length mine) ≤ budget_of facts o) (sym c.1.0)
    (hand_within facts c.0 mine (Some r) (λ r1 is. (let same : r ≡ r1 = cc in
    subst (CallSpends facts c.0 mine) same c.1.1))) in
    omega (arith, all, hand))

some_at : {A : Type 0} (xs : List A) (k : ℕ) → k < length xs → (x : A) × (slice_get xs k ≡ Some x)
some_at [] k lt = absurd (omega (arith, lt))
some_at (x ∷ xs) zero lt = (x, refl)
some_at (x ∷ xs) (suc k) lt = some_at xs k (omega (arith, lt))

-- ---- all lanes

-- what the first lanes may keep, and what the others weigh
total_within : (s : Setting) (past : List Entry) (lanes : ℕ → LaneValue) (xs : List Lane) (n : ℕ)
    → ((k : ℕ) → calls_of (slice_get xs k) ≡ lane_calls s past k) → FitsFacts s.facts
    → ((k : ℕ) → k < length xs → (r : Running) → (lanes k).running ≡ Some r → (c : Call)
    × ((current s past k ≡ Some c) × CallSpends s.facts c (own past k (count_ended past k)) r)) → n ≤ length xs
    → total s past lanes n + sum_by lane_weight (drop n xs) ≤ sum_by lane_weight xs
total_within s past lanes xs zero are fit runs le = omega arith
total_within s past lanes xs (suc n) are fit runs le =
    (let x = some_at xs n (omega (arith, le)) in
    let same : x.0.calls ≡ lane_calls s past n = ap calls_of (sym x.1) ∙ are n in
    let before = total_within s past lanes xs n are fit runs (omega (arith, le)) in
    let here = lane_within s.facts (lane_calls s past n) (count_ended past n) (own past n (count_ended past n))
    (lanes n).running fit (runs n (omega (arith, le))) in
    let one : sum_by lane_weight (drop n xs) ≡ lane_weight x.0 + sum_by lane_weight (drop (suc n) xs) =
    ap (sum_by lane_weight) (drop_at xs n x.0 x.1) ∙ sum_by-cons lane_weight x.0 (drop (suc n) xs) in
    let weighs : sum_by weight x.0.calls ≡ sum_by weight (lane_calls s past n) = ap (sum_by weight) same in
    omega (arith, before, here, one, weighs))

-- the ids of a session are few
pub few_ids : (s : Setting) (c : LanesValue) → IsAtRestOpen s c → kept_ids c.core < MAX_IDS
few_ids s c w =
    (let b = w.rest.between in
    let few = b.spends.few in
    let lanes = w.stands.lanes in
    let all = total_within s c.past (lane_in c.states) c.calls (length s.lanes) w.stands.calls w.stands.fit runs
    (omega (arith, lanes)) in
    let weighs = weighs_few c.calls w.stands.ok in
    omega (arith, few, all, weighs))
  where
    runs : (k : ℕ) → k < length c.calls → (r : Running) → (lane_in c.states k).running ≡ Some r → (d : Call)
        × ((current s c.past k ≡ Some d) × CallSpends s.facts d (own c.past k (count_ended c.past k)) r)
    runs k lt r is = by_call (current s c.past k) refl
      where
        there : k < length s.lanes
        there = (let lanes = w.stands.lanes in omega (arith, lt, lanes))

        some : current s c.past k ≢ None
        some = (subst (λ (o : Option Running). AtTied s c.past k o (lane_in c.states k).site) is
            (w.rest.between.tied.each k there).goes.runs).2

        by_call : (o : Option Call) → current s c.past k ≡ o → (d : Call)
            × ((current s c.past k ≡ Some d) × CallSpends s.facts d (own c.past k (count_ended c.past k)) r)
        by_call None none = absurd (some none)
        by_call (Some d) here = (d, (here, w.rest.between.spends.each k there d r here is))
