-- A call that is added keeps a session at rest.
use Rattle.std.proofs.Common.{◌≡◌, ◌≢◌, ◌<◌, ℕ, zero, suc, Bool, true, false, List, [], ◌∷◌, ◌++◌, Option, Some, refl, ap, sym, ◌∙◌, subst, arith, inl, inr}
use Rattle.std.specs.Prelude.{length, slice_get, slice_set, Result, Ok, Err, OnErr, OnOk}
use Rattle.std.proofs.lemmas.Bool.Decides.{eqb_tells}
use Rattle.std.proofs.lemmas.List.{length-set}
use Rattle.sftp_core.specs.Core.{Core}
use Rattle.plan_model.specs.declared.call.Call.{Call}
use Rattle.plan_model.specs.declared.call.Lane.{Lane}
use Rattle.session_model.specs.declared.entry.Entry.{Entry}
use Rattle.session_model.specs.declared.entry.Entry.TheVariants as entry
use Rattle.session_model.specs.Calls.{Setting, calls_of, has_waited, lane_calls}
use Rattle.session_model.specs.Journals.{IsNext, is_some_asked}
use Rattle.plan_model.specs.Lanes.{are_ok, is_within}
use Rattle.session_model.specs.Readings.{count_ended, own, was_let_go}
use Rattle.session_model.specs.Steady.{IsCancellableRun}
use Rattle.session_model.proofs.CallLaws.{added_here, added_other, may_next}
use Rattle.session_model.proofs.RunLaws.{wait_more}
use Rattle.session_driver.proofs.Journals.{later_self}
use Rattle.session_laws.specs.Dues.{AreDueGrants}
use Rattle.plan_runner.specs.declared.next.Running.{Running}
use Rattle.session_laws.specs.Lanes.{AtTied, LaneValue}
use Rattle.session_laws.proofs.DueLaws.{none_next}
use Rattle.session_laws.proofs.ReplyLaws.{added_keeps}
use Rattle.session_laws.proofs.RestLaws.{added_dues}
use Rattle.session_laws.specs.Rest.{AtRest}
use Rattle.session_laws.proofs.AskedLaws.{asks_on}
use Rattle.session_driver.specs.Adding.{with_call}
use Rattle.session_work.specs.Adding.{AddsIn, added_in}
use Rattle.session_work.specs.Working.{LanesValue, HasGivenLanes, IsAtRestOpen, lane_in}
use Rattle.session_work.proofs.AddedSpends.{added_spends}
use Rattle.session_work.proofs.CallsLaws.{call_within}

-- ---- lists

get_here : {A : Type 0} (xs : List A) (k : ℕ) (x : A) → k < length xs → slice_get (slice_set xs k x) k ≡ Some x
get_here [] k x lt = absurd (omega (arith, lt))
get_here (y ∷ xs) zero x lt = refl
get_here (y ∷ xs) (suc k) x lt = get_here xs k x (omega (arith, lt))

get_there : {A : Type 0} (xs : List A) (k j : ℕ) (x : A) → k ≢ j → slice_get (slice_set xs k x) j ≡ slice_get xs j
get_there [] k j x ne = refl
get_there (y ∷ xs) zero zero x ne = absurd (ne refl)
get_there (y ∷ xs) zero (suc j) x ne = refl
get_there (y ∷ xs) (suc k) zero x ne = refl
get_there (y ∷ xs) (suc k) (suc j) x ne = get_there xs k j x (λ e. ne (ap suc e))

get_last : {A : Type 0} (xs : List A) (x : A) → slice_get (xs ++ x ∷ []) (length xs) ≡ Some x
get_last [] x = refl
get_last (y ∷ xs) x = get_last xs x

-- twice set is set once
pub set_twice : {A : Type 0} (xs : List A) (k : ℕ) (x y : A) → slice_set (slice_set xs k x) k y ≡ slice_set xs k y
set_twice [] k x y = refl
set_twice (z ∷ xs) zero x y = refl
set_twice (z ∷ xs) (suc k) x y = λ i. z ∷ set_twice xs k x y i

-- and what is set to what it was is as before
pub set_back : {A : Type 0} (xs : List A) (k : ℕ) (x y : A) → slice_get xs k ≡ Some y → slice_set (slice_set xs k x) k y
    ≡ xs
set_back [] k x y is = refl
set_back (z ∷ xs) zero x y is = (let same : z ≡ y = cc in λ i. sym same i ∷ xs)
set_back (z ∷ xs) (suc k) x y is = λ i. z ∷ set_back xs k x y is i

-- ---- results

pub on_ok : {T E : Type 0} (r : Result T E) (P Q : Type 0) → (P → Q) → OnOk r P → OnOk r Q
on_ok (Ok x) P Q goes p = goes p
on_ok (Err e) P Q goes p = tt

pub on_err : {T E : Type 0} (r : Result T E) (P Q : Type 0) → (P → Q) → OnErr r P → OnErr r Q
on_err (Ok x) P Q goes p = tt
on_err (Err e) P Q goes p = goes p

-- ---- the lanes with the call

-- the call was taken up by a lane that was empty for a while
pub with_call_set : (lanes : List Lane) (lane : ℕ) (call : Call) (was empty : Lane) → slice_get lanes lane ≡ Some was
    → slice_set (slice_set lanes lane empty) lane (record { calls = was.calls ++ call ∷ [] })
    ≡ with_call lanes lane call
with_call_set lanes lane call was empty is =
    set_twice lanes lane empty _ ∙ ap (λ (o : Option Lane). slice_set lanes lane
    (record { calls = calls_of o ++ call ∷ [] })) (sym is)

pub with_length : (lanes : List Lane) (lane : ℕ) (call : Call) → length (with_call lanes lane call) ≡ length lanes
with_length lanes lane call = length-set lanes lane _

-- the call is within its ranges
pub added_within : (lanes : List Lane) (lane : ℕ) (call : Call) → lane < length lanes
    → are_ok (with_call lanes lane call) ≡ true → is_within call ≡ true
added_within lanes lane call lt ok =
    let last : Lane = record { calls = calls_of (slice_get lanes lane) ++ call ∷ [] } in
    call_within (with_call lanes lane call) lane (length (calls_of (slice_get lanes lane))) last call ok
    (get_here lanes lane last lt) (get_last (calls_of (slice_get lanes lane)) call)

pub added_calls : (s : Setting) (past : List Entry) (lanes : List Lane) (lane : ℕ) (call : Call) → lane < length lanes
    → ((w : ℕ) → calls_of (slice_get lanes w) ≡ lane_calls s past w)
    → (w : ℕ) → calls_of (slice_get (with_call lanes lane call) w) ≡ lane_calls s (entry.Added lane call ∷ past) w
added_calls s past lanes lane call lt are w =
    elim (eqb_tells lane w) [
      | inl t ↦ subst (λ (k : ℕ). calls_of (slice_get (with_call lanes lane call) k)
          ≡ lane_calls s (entry.Added lane call ∷ past) k) t.1
          (ap calls_of (get_here lanes lane _ lt) ∙ ap (λ (calls : List Call). calls ++ call ∷ []) (are lane)
          ∙ sym (added_here s past lane call))
      | inr t ↦ ap calls_of (get_there lanes lane w _ t.1) ∙ are w ∙ sym (added_other s past lane w call t.1)
    ]

added_stands : (s : Setting) (c : LanesValue) (lane : ℕ) (call : Call) → HasGivenLanes s c → lane < length c.calls
    → are_ok (with_call c.calls lane call) ≡ true → HasGivenLanes s (added_in c lane call)
added_stands s c lane call t lt ok =
    record {
      lanes = with_length c.calls lane call ∙ t.lanes;
      calls = added_calls s c.past c.calls lane call lt t.calls;
      ok = ok;
      facts = t.facts;
      fit = t.fit;
      asked = t.asked;
      count = t.count;
    }

-- ---- the session

added_good : (s : Setting) (past : List Entry) (begun : ℕ → Bool) (lane : ℕ) (call : Call)
    → IsNext s past (entry.Added lane call) → IsCancellableRun s past begun
    → IsCancellableRun s (entry.Added lane call ∷ past) begun
added_good s past begun lane call next g =
    record {
      run = (next, g.run);
      calm = refl;
      ready = g.ready;
      unkept = g.unkept;
      cancels = λ w h. wait_more (is_some_asked (own past w (count_ended past w))) _ (has_waited s past w)
          (g.cancels w h);
    }

-- a call that is added leaves the session at rest
added_rest : (s : Setting) (past : List Entry) (core : Core) (lanes : ℕ → LaneValue) (begun : ℕ → Bool) (lane : ℕ)
    (call : Call) → AtRest s past core lanes begun → IsNext s past (entry.Added lane call)
    → AtRest s (entry.Added lane call ∷ past) core lanes begun
added_rest s past core lanes begun lane call h next =
    let e : Entry = entry.Added lane call in
    let b = h.between in
    let due : AreDueGrants s (e ∷ past) [] = added_dues s past [] lane call b.good.run b.due in
    record {
      between = record {
        good = added_good s past begun lane call next b.good;
        due = due;
        tied = added_keeps s past core lanes [] lane call b.tied b.good.run;
        counted = record { waiting = b.counted.waiting; sent = b.counted.sent };
        spends = added_spends s past core lanes lane call (λ w lt r is.
            (subst (λ (o : Option Running). AtTied s past w o (lanes w).site) is (b.tied.each w lt).goes.runs).2)
            b.spends;
        asks = λ w lt. asks_on past (e ∷ past) w (lanes w) (λ p below. refl) (b.tied.each w lt).goes.awaits
            (b.asks w lt);
      };
      settled = none_next s (e ∷ past) refl due;
    }

pub adds : (s : Setting) (c : LanesValue) (lane : ℕ) (call : Call) → IsAtRestOpen s c → lane < length c.calls
    → was_let_go c.past lane ≡ false → are_ok (with_call c.calls lane call) ≡ true
    → AddsIn s lane call c (added_in c lane call)
adds s c lane call w lt held ok =
    let t = w.stands in
    let there : lane < length s.lanes = (let lanes = t.lanes in omega (arith, lt, lanes)) in
    let within : is_within call ≡ true = added_within c.calls lane call lt ok in
    let next : IsNext s c.past (entry.Added lane call) = may_next s c.past (entry.Added lane call)
    w.rest.between.good.calm w.rest.settled (there, held, within) in
    record {
      is = refl;
      next = next;
      later = inr (next, later_self s c.past);
      working = record {
        stands = added_stands s c lane call t lt ok;
        rest =
            added_rest s c.past c.core (lane_in c.states) c.begun lane call w.rest next;
      };
    }
