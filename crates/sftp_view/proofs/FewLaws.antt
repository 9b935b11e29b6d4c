-- A session can be given a call where few are made.
use Rattle.std.proofs.Common.{◌≡◌, ◌<◌, ◌+◌, ◌*◌, ℕ, Bool, true, false, List, [], ◌∷◌, ◌++◌, length, refl, ap, sym, ◌∙◌, subst, arith}
use Rattle.std.specs.Prelude.{◌&&◌, ◌==◌, ◌^◌, nat_lt, slice_get}
use Rattle.std.specs.List.{list_all, sum_by}
use Rattle.std.proofs.lemmas.Bool.Decides.{nat_tests}
use Rattle.std.proofs.lemmas.List.{append_assoc, length-append}
use Rattle.std.proofs.lemmas.List.Sums.{sum_by-cons}
use Rattle.plan_model.specs.declared.call.Call.{Call}
use Rattle.plan_model.specs.declared.call.Lane.{Lane}
use Rattle.plan_model.specs.Lanes.{are_ok, is_within, lane_weight, weight}
use Rattle.session_model.specs.declared.entry.Entry.{Entry}
use Rattle.session_model.specs.Calls.{calls_added_to, calls_of}
use Rattle.session_driver.specs.Adding.{with_call}
use Rattle.view_model.specs.Calls.{AreFew, call_limit, is_light}
use Rattle.view_model.specs.Viewed.{Doing, makes, ◌>>=◌}
use Rattle.sftp_view.specs.Doings.{MayDo, one_lane}

-- the first of these are few too
all_first : (f : Call → Bool) (xs ys : List Call) → list_all f (xs ++ ys) ≡ true → list_all f xs ≡ true
all_first f [] ys e = refl
all_first f (x ∷ xs) ys e = both (f x) (list_all f (xs ++ ys)) (list_all f xs) e (all_first f xs ys)
  where
    both : (a b c : Bool) → a && b ≡ true → (b ≡ true → c ≡ true) → a && c ≡ true
    both true b c e g = g e
    both false b c e g = absurd cc

few_first : (n : ℕ) (xs ys : List Call) → AreFew n (xs ++ ys) → AreFew n xs
few_first n xs ys few = record {
  light = all_first is_light xs ys few.light;
  few = (let l = length-append xs ys in let le = few.few in omega (arith, l, le));
}

pub may_first : {A B : Type 0} (m : Doing A) (k : A → Doing B) {past : List Entry} → MayDo (m >>= k) past → MayDo m past
may_first m k {past = past} may = record {
  few = λ outcomes. few_first call_limit (calls_added_to past 0 ++ (m outcomes).calls)
      (k (m outcomes).value (m outcomes).later).calls
      (subst (AreFew call_limit) (sym (append_assoc (calls_added_to past 0) (m outcomes).calls
      (k (m outcomes).value (m outcomes).later).calls)) (may.few outcomes));
}

-- ---- the lane with one call more

both_so : (a b : Bool) → a && b ≡ true → (a ≡ true) × (b ≡ true)
both_so true b e = (refl, e)
both_so false b e = absurd cc

all_within : (xs : List Call) → list_all is_light xs ≡ true → list_all is_within xs ≡ true
all_within [] e = refl
all_within (x ∷ xs) e =
    let split = both_so (is_light x) (list_all is_light xs) e in
    let first = both_so (is_within x) (weight x == 2) split.0 in
    λ i. first.0 i && all_within xs split.1 i

is_two : (n : ℕ) → (n == 2) ≡ true → n ≡ 2
is_two n e = grind (arith, nat_tests)

all_weigh : (xs : List Call) → list_all is_light xs ≡ true → sum_by weight xs ≡ 2 * length xs
all_weigh [] e = refl
all_weigh (x ∷ xs) e =
    let split = both_so (is_light x) (list_all is_light xs) e in
    let two = is_two (weight x) (both_so (is_within x) (weight x == 2) split.0).1 in
    let rest = all_weigh xs split.1 in
    let sum = sum_by-cons weight x xs in
    omega (arith, two, rest, sum)

below : (n m : ℕ) → n < m → nat_lt n m ≡ true
below n m lt = grind (arith, nat_tests)

few_ok : (xs : List Call) → AreFew call_limit xs → are_ok (record { calls = xs } ∷ []) ≡ true
few_ok xs few =
    let sum : sum_by lane_weight (record { calls = xs } ∷ []) ≡ 0 + (1 + sum_by weight xs) = refl in
    let is = all_weigh xs few.light in
    let le = few.few in
    let lt : sum_by lane_weight (record { calls = xs } ∷ []) < 2 ^ 31 = omega (arith, sum, is, le) in
    λ i. (all_within xs few.light i && true) && below (sum_by lane_weight (record { calls = xs } ∷ [])) (2 ^ 31) lt i

-- the lanes of a session of one lane, with a call more
with_one : (ws : List Lane) (past : List Entry) (c : Call) → length ws ≡ length one_lane
    → ((lane : ℕ) → calls_of (slice_get ws lane) ≡ calls_of (slice_get one_lane lane) ++ calls_added_to past lane)
    → with_call ws 0 c ≡ record { calls = calls_added_to past 0 ++ c ∷ [] } ∷ []
with_one [] past c count each = absurd (omega (arith, count))
with_one (w ∷ []) past c count each = λ i. record { calls = each 0 i ++ c ∷ [] } ∷ []
with_one (w ∷ x ∷ ws) past c count each = absurd (omega (arith, count))

pub may_add : (ws : List Lane) (past : List Entry) (c : Call) → MayDo (makes c) past → length ws ≡ length one_lane
    → ((lane : ℕ) → calls_of (slice_get ws lane) ≡ calls_of (slice_get one_lane lane) ++ calls_added_to past lane)
    → are_ok (with_call ws 0 c) ≡ true
may_add ws past c may count each = ap are_ok (with_one ws past c count each)
    ∙ few_ok (calls_added_to past 0 ++ c ∷ []) (may.few [])
