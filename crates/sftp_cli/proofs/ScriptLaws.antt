-- What holds of all scripts that three numbers make.
use Rattle.std.specs.Prelude.{◌≡◌, ◌≤◌, ◌+◌, ◌*◌, ◌%◌, ◌==◌, ℕ, zero, suc, Bool, true, false, ◌&&◌, nat_lt, List, ◌∷◌, length, All, IfSome, if◌then◌else◌, refl}
use Rattle.std.proofs.Common.{ap, arith}
use Rattle.std.specs.List.{list_all, sum_by}
use Rattle.std.proofs.lemmas.List.Sums.{sum_by-cons}
use Rattle.std.proofs.lemmas.Bool.Decides.{nat_tests}
use Rattle.std.proofs.Math.Nat.{mul-add, mul_assoc, suc-mul}
use Rattle.sftp_model.specs.declared.config.Choice.{Choice}
use Rattle.sftp_model.specs.Fits.{FitsLimits, FitsNumber}
use Rattle.plan_model.specs.declared.call.Call.{Call}
use Rattle.plan_model.specs.declared.call.Lane.{Lane}
use Rattle.plan_model.specs.Lanes.{are_ok, is_within, lane_weight, weight, weight_limit}
use Rattle.script_grammar.specs.CanRun.{feigns_no_end}
use Rattle.sftp_cli.specs.Bulk.{RandomDraw, bulk_script, bulk_server, call_of, choice, count_of, draw, next_drawn_number, each, lane_of, turn_of, value_of}

-- ---- lists that are drawn

both_hold : (a b : Bool) → a ≡ true → b ≡ true → (a && b) ≡ true
both_hold true b h k = k
both_hold false b h k = h

pub each_passes : {A : Type 0} (test : A → Bool) (one : ℕ → RandomDraw A) → ((k x : ℕ) → test (one k x).0 ≡ true)
    → (k n x : ℕ) → list_all test (each one k n x).0 ≡ true
unfolding each
each_passes test one h k zero x = refl
each_passes test one h k (suc n) x = both_hold _ _ (h k x) (each_passes test one h (k + 1) n (one k x).1)

pub each_sums : {A : Type 0} (f : A → ℕ) (one : ℕ → RandomDraw A) (b : ℕ) → ((k x : ℕ) → f (one k x).0 ≤ b)
    → (k n x : ℕ) → sum_by f (each one k n x).0 ≤ n * b
unfolding each
each_sums f one b h k zero x = omega arith
each_sums f one b h k (suc n) x =
    let first = h k x in
    let later = each_sums f one b h (k + 1) n (one k x).1 in
    let sum = sum_by-cons f (one k x).0 (each one (k + 1) n (one k x).1).0 in
    let more = suc-mul n b in
    omega (arith, first, later, sum, more)

pub each_counts : {A : Type 0} (one : ℕ → RandomDraw A) (k n x : ℕ) → length (each one k n x).0 ≡ n
unfolding each
each_counts one k zero x = refl
each_counts one k (suc n) x = ap suc (each_counts one (k + 1) n (one k x).1)

all_more : {A : Type 0} (P : A → Type 0) (a : A) (later : List A) → P a → All P later → All P (a ∷ later)
all_more P a later h k zero d lt = h
all_more P a later h k (suc i) d lt = k i d (omega arith)

pub each_is : {A : Type 0} (P : A → Type 0) (one : ℕ → RandomDraw A) → ((k x : ℕ) → P (one k x).0)
    → (k n x : ℕ) → All P (each one k n x).0
unfolding each
each_is P one h k zero x = λ i d lt. absurd (omega arith)
each_is P one h k (suc n) x = all_more P (one k x).0 (each one (k + 1) n (one k x).1).0 (h k x)
    (each_is P one h (k + 1) n (one k x).1)

-- ---- calls

-- the call is within its ranges and counts at most 65
abbrev IsSmall : Call → Type 0
IsSmall c = (is_within c ≡ true) × (weight c ≤ 65)

chosen : (P : Call → Type 0) (a b : Bool) (d e f : RandomDraw Call) (x : ℕ) → P (d x).0 → P (e x).0 → P (f x).0
    → P ((if a then d else if b then e else f) x).0
chosen P true b d e f x h k l = h
chosen P false true d e f x h k l = k
chosen P false false d e f x h k l = l

call_is_small : (lane x : ℕ) → IsSmall (call_of lane x).0
call_is_small lane x =
    chosen IsSmall (nat_lt (value_of (next_drawn_number x) % 4) 2) (value_of (next_drawn_number x) % 4 == 2) _ _ _
    (next_drawn_number x) (refl, omega arith) (refl, omega arith) (refl, omega arith)

lane_is_within : (calls lane x : ℕ) → list_all is_within (lane_of calls lane x).0.calls ≡ true
lane_is_within calls lane x = each_passes is_within (λ k. call_of lane) (λ k y. (call_is_small lane y).0) 0 calls x

lane_weighs : (calls lane x : ℕ) → lane_weight (lane_of calls lane x).0 ≤ 1 + calls * 65
lane_weighs calls lane x =
    let sum = each_sums weight (λ k. call_of lane) 65 (λ k y. (call_is_small lane y).1) 0 calls x in
    omega (arith, sum)

-- so many lanes with so many calls count less than the limit
all_weigh : (lanes calls n : ℕ) → lanes ≤ 256 → lanes * calls ≤ 16384 → n ≤ lanes * (1 + calls * 65)
    → nat_lt n weight_limit ≡ true
all_weigh lanes calls n few all le =
    let apart : lanes * (1 + calls * 65) ≡ lanes + lanes * calls * 65 =
    omega (arith, mul-add lanes 1 (calls * 65), mul_assoc lanes calls 65) in
    grind (arith, nat_tests, apart)

pub lanes_ok : (start lanes calls : ℕ) → lanes ≤ 256 → lanes * calls ≤ 16384
    → are_ok (bulk_script start lanes calls).lanes ≡ true
lanes_ok start lanes calls few all =
    both_hold _ _
    (each_passes (λ lane. list_all is_within lane.calls) (lane_of calls) (λ lane x. lane_is_within calls lane x) 0 lanes
    start)
    (all_weigh lanes calls _ few all (each_sums lane_weight (lane_of calls) (1 + calls * 65)
    (λ lane x. lane_weighs calls lane x) 0 lanes start))

-- ---- how much there is

pub lane_count : (start lanes calls : ℕ) → length (bulk_script start lanes calls).lanes ≡ lanes
lane_count start lanes calls = each_counts (lane_of calls) 0 lanes start

pub call_counts : (start lanes calls : ℕ) → All (λ lane. length lane.calls ≡ calls)
    (bulk_script start lanes calls).lanes
call_counts start lanes calls =
    each_is (λ (lane : Lane). length lane.calls ≡ calls) (lane_of calls)
    (λ lane x. each_counts (λ k. call_of lane) 0 calls x) 0 lanes start

pub turn_count : (start lanes calls : ℕ) → length (bulk_script start lanes calls).turns ≡ count_of lanes calls
turn_count start lanes calls = each_counts (λ k. turn_of lanes) 0 (count_of lanes calls) _

pub choice_count : (start lanes calls : ℕ) → length (bulk_script start lanes calls).choices ≡ count_of lanes calls
choice_count start lanes calls = each_counts (λ k. choice) 0 (count_of lanes calls) _

pub pick_count : (start lanes calls : ℕ) → length (bulk_script start lanes calls).picks ≡ count_of lanes calls
pick_count start lanes calls = each_counts (λ k. draw) 0 (count_of lanes calls) _

-- ---- what fits its field

pub limits_fit : IfSome bulk_server.limits FitsLimits
limits_fit = record {
  packet_len = omega arith;
  read_len = omega arith;
  write_len = omega arith;
  open_handles =
      omega arith;
}

pub codes_fit : (start lanes calls : ℕ) → All (λ choice. FitsNumber choice.refuse)
    (bulk_script start lanes calls).choices
codes_fit start lanes calls = each_is (λ (c : Choice). FitsNumber c.refuse) (λ k. choice) (λ k x. omega arith) 0
    (count_of lanes calls) _

-- no choice refuses anything
pub choices_feign_no_end : (start lanes calls : ℕ)
    → list_all feigns_no_end (bulk_script start lanes calls).choices ≡ true
choices_feign_no_end start lanes calls = each_passes feigns_no_end (λ k. choice) (λ k x. refl) 0 (count_of lanes calls) _
