-- A call that is added lets its lane keep no fewer ids.
use Rattle.std.proofs.Common.{◌≡◌, ◌≢◌, ◌<◌, ◌≤◌, ℕ, zero, suc, List, [], ◌∷◌, ◌++◌, Option, Some, None, refl, ap, sym, ◌∙◌, subst, arith, inl, inr}
use Rattle.std.specs.Prelude.{length, slice_get}
use Rattle.std.proofs.lemmas.Bool.Decides.{eqb_tells}
use Rattle.sftp_model.specs.declared.slot.Facts.{Facts}
use Rattle.sftp_core.specs.Core.{Core}
use Rattle.plan_runner.specs.declared.next.Running.{Running}
use Rattle.plan_model.specs.declared.call.Call.{Call}
use Rattle.session_model.specs.declared.entry.Entry.{Entry}
use Rattle.session_model.specs.declared.entry.Entry.TheVariants as entry
use Rattle.session_model.specs.Calls.{Setting, current, lane_calls}
use Rattle.session_model.specs.Readings.{count_ended, own}
use Rattle.session_model.proofs.CallLaws.{added_here, added_other}
use Rattle.session_model.proofs.HolderLaws.{got_more}
use Rattle.session_laws.specs.Lanes.{LaneValue}
use Rattle.session_laws.specs.Budgets.{KeepsIdBudget, budget_of, budgets, in_hand, spending_of, total, used_in}

-- the lanes may keep no less
budgets_more : (facts : Facts) (calls more : List Call) (n : ℕ)
    → budgets facts calls n ≤ budgets facts (calls ++ more) n
budgets_more facts calls more zero = omega arith
budgets_more facts [] [] (suc n) = omega arith
budgets_more facts [] (c ∷ more) (suc n) = omega arith
budgets_more facts (c ∷ calls) more (suc n) = (let rest = budgets_more facts calls more n in omega (arith, rest))

-- a running call stays the lane's
still_current : (s : Setting) (past : List Entry) (lane w : ℕ) (call : Call) → current s past w ≢ None
    → current s (entry.Added lane call ∷ past) w ≡ current s past w
still_current s past lane w call some =
    elim (eqb_tells lane w) [
      | inl t ↦ elim (got_more (lane_calls s past w) (call ∷ []) (count_ended past w)) [
        | inl same ↦ ap (λ (calls : List Call). slice_get calls (count_ended past w))
            (subst (λ (k : ℕ). lane_calls s (entry.Added lane call ∷ past) k ≡ lane_calls s past k ++ call ∷ []) t.1
            (added_here s past lane call)) ∙ same
        | inr none ↦ absurd (some none)
      ]
      | inr t ↦ ap (λ (calls : List Call). slice_get calls (count_ended past w)) (added_other s past lane w call t.1)
    ]

added_budgets : (s : Setting) (past : List Entry) (lane w : ℕ) (call : Call)
    → budgets s.facts (lane_calls s past w) (count_ended past w) ≤ budgets s.facts
    (lane_calls s (entry.Added lane call ∷ past) w) (count_ended past w)
added_budgets s past lane w call =
    elim (eqb_tells lane w) [
      | inl t ↦
          (let more = budgets_more s.facts (lane_calls s past w) (call ∷ []) (count_ended past w) in
          let same = ap (λ (calls : List Call). budgets s.facts calls (count_ended past w))
          (subst (λ (k : ℕ). lane_calls s (entry.Added lane call ∷ past) k ≡ lane_calls s past k ++ call ∷ []) t.1
          (added_here s past lane call)) in
          omega (arith, more, same))
      | inr t ↦ (let same = ap (λ (calls : List Call). budgets s.facts calls (count_ended past w))
          (added_other s past lane w call t.1) in omega (arith, same))
    ]

added_used : (s : Setting) (past : List Entry) (lane w : ℕ) (call : Call) (x : Option Running)
    → ((r : Running) → x ≡ Some r → current s past w ≢ None) →
    used_in s.facts (spending_of s past w x) ≤ used_in s.facts (spending_of s (entry.Added lane call ∷ past) w x)
added_used s past lane w call None runs = (let more = added_budgets s past lane w call in omega (arith, more))
added_used s past lane w call (Some r) runs =
    (let more = added_budgets s past lane w call in
    let same = ap (λ (o : Option Call). in_hand (budget_of s.facts o) (Some r)
    (length (own past w (count_ended past w))))
    (still_current s past lane w call (runs r refl)) in
    omega (arith, more, same))

added_total : (s : Setting) (past : List Entry) (lanes : ℕ → LaneValue) (lane n : ℕ) (call : Call)
    → ((w : ℕ) → w < n → (r : Running) → (lanes w).running ≡ Some r → current s past w ≢ None)
    → total s past lanes n ≤ total s (entry.Added lane call ∷ past) lanes n
added_total s past lanes lane zero call runs = omega arith
added_total s past lanes lane (suc n) call runs =
    (let before = added_total s past lanes lane n call (λ w lt. runs w (omega (arith, lt))) in let here =
    added_used s past lane n call (lanes n).running (runs n (omega arith)) in omega (arith, before, here))

pub added_spends : (s : Setting) (past : List Entry) (core : Core) (lanes : ℕ → LaneValue) (lane : ℕ) (call : Call)
    → ((w : ℕ) → w < length s.lanes → (r : Running) → (lanes w).running ≡ Some r → current s past w ≢ None)
    → KeepsIdBudget s past core lanes → KeepsIdBudget s (entry.Added lane call ∷ past) core lanes
added_spends s past core lanes lane call runs x =
    record {
      each = λ w lt d r is some. x.each w lt d r (sym (still_current s past lane w call (runs w lt r some)) ∙ is) some;
      few = (let more = added_total s past lanes lane (length s.lanes) call runs in let few = x.few in
          omega (arith, few, more));
    }
