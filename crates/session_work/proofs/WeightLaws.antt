-- What lanes count with a further call, and whether they are ok with it.
use Rattle.std.proofs.Common.{◌≡◌, ◌<◌, ◌+◌, ◌^◌, ℕ, zero, suc, Bool, true, false, List, [], ◌∷◌, ◌++◌, length, min, refl, ap, sym, ◌∙◌, arith}
use Rattle.std.specs.Prelude.{◌&&◌, nat_lt}
use Rattle.std.specs.List.{list_all, sum_by}
use Rattle.std.proofs.lemmas.Bool.Decides.{nat_tests}
use Rattle.std.proofs.lemmas.List.Folds.{list_all-append}
use Rattle.std.proofs.lemmas.List.Sums.{sum_by-cons, sum_by_push}
use Rattle.plan_model.specs.declared.call.Call.{Call}
use Rattle.plan_model.specs.declared.call.Lane.{Lane}
use Rattle.plan_model.specs.Lanes.{are_ok, is_within, lane_weight, weight, weight_limit}
use Rattle.session_driver.specs.Adding.{with_call}

-- ---- what lanes count with a further call

more_first : (a b c d all now : ℕ) → all ≡ 1 + a + c → now ≡ 1 + b + c → b ≡ a + d → now ≡ all + d
more_first a b c d all now e f g = omega (arith, e, f, g)

more_later : (x a b d all now : ℕ) → all ≡ x + a → now ≡ x + b → b ≡ a + d → now ≡ all + d
more_later x a b d all now e f g = omega (arith, e, f, g)

pub weight_with : (lanes : List Lane) (k : ℕ) (call : Call) → k < length lanes
    → sum_by lane_weight (with_call lanes k call)
    ≡ sum_by lane_weight lanes + weight call
weight_with [] k call lt = absurd (omega (arith, lt))
weight_with (lane ∷ lanes) zero call lt =
    let now : Lane = record { calls = lane.calls ++ call ∷ [] } in
    more_first (sum_by weight lane.calls) (sum_by weight now.calls) (sum_by lane_weight lanes) (weight call) _ _
    (sum_by-cons lane_weight lane lanes) (sum_by-cons lane_weight now lanes) (sum_by_push weight lane.calls call)
weight_with (lane ∷ lanes) (suc k) call lt =
    more_later (lane_weight lane) (sum_by lane_weight lanes) (sum_by lane_weight (with_call lanes k call)) (weight call)
    _ _
    (sum_by-cons lane_weight lane lanes) (sum_by-cons lane_weight lane (with_call lanes k call))
    (weight_with lanes k call (omega (arith, lt)))

-- ---- whether they are ok with it

abbrev lane_within : Lane → Bool
lane_within lane = list_all is_within lane.calls

both : (a b : Bool) → (a && b) ≡ true → (a ≡ true) × (b ≡ true)
both true b e = (refl, e)
both false b e = absurd cc

last_is : (a b : Bool) → a ≡ true → (a && (b && true)) ≡ b
last_is true true e = refl
last_is true false e = refl
last_is false b e = absurd cc

first_is : (a b : Bool) → b ≡ true → (a && b) ≡ a
first_is true b e = e
first_is false b e = refl

within_with : (lanes : List Lane) (k : ℕ) (call : Call) → k < length lanes → list_all lane_within lanes ≡ true
    → list_all lane_within (with_call lanes k call) ≡ is_within call
within_with [] k call lt ok = absurd (omega (arith, lt))
within_with (lane ∷ lanes) zero call lt ok =
    let parts = both (lane_within lane) (list_all lane_within lanes) ok in
    first_is (list_all is_within (lane.calls ++ call ∷ [])) (list_all lane_within lanes) parts.1
    ∙ list_all-append is_within lane.calls (call ∷ []) ∙ last_is (lane_within lane) (is_within call) parts.0
within_with (lane ∷ lanes) (suc k) call lt ok =
    let parts = both (lane_within lane) (list_all lane_within lanes) ok in
    (λ i. parts.0 i && list_all lane_within (with_call lanes k call))
    ∙ within_with lanes k call (omega (arith, lt)) parts.1

limited : (s w : ℕ) → nat_lt (min (min s (2 ^ 31) + min w (2 ^ 31)) (2 ^ 31)) 2147483648 ≡ nat_lt (s + w) (2 ^ 31)
limited s w = grind (arith, nat_tests)

-- a call that is within its ranges may be added where what all count with it is below the limit
pub ok_with : (lanes : List Lane) (weighs weight_of total k : ℕ) (call : Call) → are_ok lanes ≡ true → is_within call
    ≡ true
    → weighs ≡ min (sum_by lane_weight lanes) (2 ^ 31) → weight_of ≡ min (weight call) (2 ^ 31)
    → total ≡ min (weighs + weight_of) (2 ^ 31) → k < length lanes
    → nat_lt total 2147483648 ≡ are_ok (with_call lanes k call)
ok_with lanes weighs weight_of total k call ok within is by sum lt =
    let parts = both (list_all lane_within lanes) _ ok in
    (λ i. nat_lt (sum i) 2147483648) ∙ (λ i. nat_lt (min (is i + by i) (2 ^ 31)) 2147483648)
    ∙ limited (sum_by lane_weight lanes) (weight call)
    ∙ ap (λ (n : ℕ). nat_lt n weight_limit) (sym (weight_with lanes k call lt))
    ∙ (λ i. sym (within_with lanes k call lt parts.0 ∙ within) i
    && nat_lt (sum_by lane_weight (with_call lanes k call)) weight_limit)

-- and no other may
pub not_ok_with : (lanes : List Lane) (k : ℕ) (call : Call) (b : Bool) → are_ok lanes ≡ true → is_within call ≡ b → b
    ≡ false
    → k < length lanes → b ≡ are_ok (with_call lanes k call)
not_ok_with lanes k call b ok is out lt =
    let parts = both (list_all lane_within lanes) _ ok in
    out ∙ (λ i. sym (within_with lanes k call lt parts.0 ∙ is ∙ out) i
    && nat_lt (sum_by lane_weight (with_call lanes k call)) weight_limit)

-- what is kept of what they count
pub weighs_with : (lanes : List Lane) (weighs limited_weight : ℕ) (k : ℕ) (call : Call) → k < length lanes
    → weighs ≡ min (sum_by lane_weight lanes) (2 ^ 31) → limited_weight ≡ min (weight call) (2 ^ 31)
    → min (weighs + limited_weight) (2 ^ 31) ≡ min (sum_by lane_weight (with_call lanes k call)) (2 ^ 31)
weighs_with lanes weighs limited_weight k call lt is by =
    let now = weight_with lanes k call lt in
    grind (arith, is, by, now)
