-- The calls of a session, and numbers that are small.
use Rattle.std.proofs.Common.{◌≡◌, ◌<◌, ◌≤◌, ◌+◌, ◌^◌, ℕ, zero, suc, Bool, true, false, List, [], ◌∷◌, length, Some, refl, ap, sym, ◌∙◌, arith}
use Rattle.std.specs.Prelude.{◌&&◌, slice_get, nat_lt}
use Rattle.std.specs.List.{list_all, sum_by}
use Rattle.std.proofs.lemmas.Bool.Decides.{nat_tests}
use Rattle.std.proofs.lemmas.List.Sums.{sum_by-cons}
use Rattle.plan_model.specs.declared.call.Call.{Call}
use Rattle.plan_model.specs.declared.call.Call.TheVariants as call
use Rattle.plan_model.specs.declared.call.Lane.{Lane}
use Rattle.session_model.specs.Readings.{count_ended}
use Rattle.session_model.specs.Calls.{Setting, calls_of, current}
use Rattle.plan_model.specs.Lanes.{is_within, weight, lane_weight, are_ok}
use Rattle.session_work.specs.Working.{LanesValue, HasGivenLanes}

-- the current call of a lane is that of its calls which has not ended
pub current_is : (s : Setting) (c : LanesValue) (lane : ℕ) → HasGivenLanes s c → current s c.past lane
    ≡ slice_get (calls_of (slice_get c.calls lane)) (count_ended c.past lane)
current_is s c lane t = ap (λ (calls : List Call). slice_get calls (count_ended c.past lane)) (sym (t.calls lane))

-- ---- lanes that a session can be given

both : (a b : Bool) → (a && b) ≡ true → (a ≡ true) × (b ≡ true)
both true b e = (refl, e)
both false b e = absurd cc

pub all_at : {A : Type 0} (f : A → Bool) (xs : List A) (k : ℕ) (x : A) → list_all f xs ≡ true → slice_get xs k ≡ Some x
    → f x ≡ true
all_at f [] k x e is = absurd cc
all_at f (y ∷ xs) zero x e is = let same : y ≡ x = cc in ap f (sym same) ∙ (both (f y) (list_all f xs) e).0
all_at f (y ∷ xs) (suc k) x e is = all_at f xs k x (both (f y) (list_all f xs) e).1 is

pub call_within : (lanes : List Lane) (k j : ℕ) (lane : Lane) (c : Call) → are_ok lanes ≡ true → slice_get lanes k
    ≡ Some lane → slice_get lane.calls j ≡ Some c → is_within c ≡ true
call_within lanes k j lane c ok at_lane at_call =
    all_at is_within lane.calls j c (all_at (λ (l : Lane). list_all is_within l.calls) lanes k lane
    (both (list_all (λ (l : Lane). list_all is_within l.calls) lanes) _ ok).0 at_lane) at_call

one_of : (a b rest all : ℕ) → all ≡ a + rest → a ≡ b → b ≤ all
one_of a b rest all sum e = omega (arith, sum, e)

more_of : (a rest b all : ℕ) → all ≡ b + rest → a ≤ rest → a ≤ all
more_of a rest b all sum le = omega (arith, sum, le)

two_more : (weighs total n all : ℕ) → all ≡ weighs + total → 2 ≤ weighs → n + n ≤ total → suc n + suc n ≤ all
two_more weighs total n all sum two rest = omega (arith, sum, two, rest)

sum_at : (lanes : List Lane) (k : ℕ) (lane : Lane) → slice_get lanes k ≡ Some lane
    → lane_weight lane ≤ sum_by lane_weight lanes
sum_at [] k lane is = absurd cc
sum_at (x ∷ lanes) zero lane is = let same : lane_weight x ≡ lane_weight lane =
    ap lane_weight (let e : x ≡ lane = cc in e) in one_of (lane_weight x) (lane_weight lane) (sum_by lane_weight lanes)
    _ (sum_by-cons lane_weight x lanes) same
sum_at (x ∷ lanes) (suc k) lane is = more_of (lane_weight lane) (sum_by lane_weight lanes) (lane_weight x) _
    (sum_by-cons lane_weight x lanes) (sum_at lanes k lane is)

-- a call weighs two at least
weighs_two : (c : Call) → 2 ≤ weight c
weighs_two (call.BufWrite slot bytes) = omega arith
weighs_two (call.BufWriteAll slot bytes) = omega arith
weighs_two other = omega arith

calls_weigh : (calls : List Call) → length calls + length calls ≤ sum_by weight calls
calls_weigh [] = omega arith
calls_weigh (c ∷ calls) = two_more (weight c) (sum_by weight calls) (length calls) _ (sum_by-cons weight c calls)
    (weighs_two c) (calls_weigh calls)

below_limit : (n : ℕ) → nat_lt n (2 ^ 31) ≡ true → n < 2 ^ 31
below_limit n e = grind (arith, nat_tests)

-- lanes that a session can be given weigh less than the limit
pub weighs_few : (lanes : List Lane) → are_ok lanes ≡ true → sum_by lane_weight lanes < 2 ^ 31
weighs_few lanes ok = below_limit (sum_by lane_weight lanes)
    (both (list_all (λ (l : Lane). list_all is_within l.calls) lanes) _ ok).1

few_calls : (total n all : ℕ) → all < 2 ^ 31 → 1 + total ≤ all → n + n ≤ total → n < 2 ^ 31
few_calls total n all less part twice = omega (arith, less, part, twice)

-- a lane has few calls
pub calls_few : (lanes : List Lane) (k : ℕ) (lane : Lane) → are_ok lanes ≡ true → slice_get lanes k ≡ Some lane
    → length lane.calls < 2 ^ 31
calls_few lanes k lane ok is =
    let less = weighs_few lanes ok in
    let part = sum_at lanes k lane is in
    few_calls (sum_by weight lane.calls) (length lane.calls) (sum_by lane_weight lanes) less part
    (calls_weigh lane.calls)

-- ---- lanes are few

lanes_weigh : (lanes : List Lane) → length lanes ≤ sum_by lane_weight lanes
lanes_weigh [] = omega arith
lanes_weigh (lane ∷ lanes) =
    let rest = lanes_weigh lanes in
    let step : sum_by lane_weight (lane ∷ lanes) ≡ 1 + sum_by weight lane.calls + sum_by lane_weight lanes =
    sum_by-cons lane_weight lane lanes in
    omega (arith, rest, step)

pub few_lanes : (lanes : List Lane) → are_ok lanes ≡ true → length lanes < 2 ^ 31
few_lanes lanes ok =
    let weigh = lanes_weigh lanes in
    let light = weighs_few lanes ok in
    omega (arith, weigh, light)
