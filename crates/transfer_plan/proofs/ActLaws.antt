-- Acts one after another, as a loop does them.
use Rattle.std.proofs.Common.{◌≡◌, ◌+◌, ◌<◌, ℕ, Bool, true, false, List, [], ◌∷◌, ◌++◌, take, length, reverse, refl, sym, ap, ◌∙◌, subst, get_or}
use Rattle.std.proofs.lemmas.List.{append_assoc, append-nil, take_more, reverse-append}
use Rattle.transfer_plan.specs.Jobs.{AreActs, FactBy, HasActed, JobAct, MayWorkOne, TallyValue, WorksOne, after_job, all_worked}
use Rattle.transfer_plan.specs.declared.found.Found.{Found}

pub worked_append : {H : Type 0} (done : JobAct → H → H) (xs ys : List JobAct) (history : H)
    → all_worked done (xs ++ ys) history ≡ all_worked done ys (all_worked done xs history)
worked_append done [] ys history = refl
worked_append done (x ∷ xs) ys history = worked_append done xs ys (done x history)

-- some acts were done, and those that are still done for the jobs that are left complete those of all
pub record IsActing {H : Type 0} (done : JobAct → H → H) (phase : TallyValue → Found → Bool)
    (Is : TallyValue → Found → JobAct → Type 0) (jobs left : List Found) (old now : TallyValue) (before after : H) :
    Type 0 where
  pub acts : List JobAct
  pub told : after ≡ all_worked done acts before
  pub rest : (later : List JobAct) (end : TallyValue) → AreActs phase Is left now later end
      → AreActs phase Is jobs old (acts ++ later) end

pub begun : {H : Type 0} (done : JobAct → H → H) (phase : TallyValue → Found → Bool)
    (Is : TallyValue → Found → JobAct → Type 0) (jobs left : List Found) (old : TallyValue) (before : H) → left ≡ jobs
    → IsActing done phase Is jobs left old old before before
begun done phase Is jobs left old before same = record {
  acts = [];
  told = refl;
  rest = λ later end h. subst (λ (l : List Found). AreActs phase Is l old later end) same h;
}

passed_rest : (phase : TallyValue → Found → Bool) (Is : TallyValue → Found → JobAct → Type 0)
    (more : List Found) (found : Found) (now : TallyValue) (later : List JobAct) (end : TallyValue) (t : Bool)
    → phase now found ≡ t → t ≡ false → AreActs phase Is more now later end
    → AreActs phase Is (found ∷ more) now later end
passed_rest phase Is more found now later end t is other a = rw is (rw other a)

acted_rest : (phase : TallyValue → Found → Bool) (Is : TallyValue → Found → JobAct → Type 0)
    (more : List Found) (found : Found) (now new : TallyValue) (act : JobAct) (later : List JobAct) (end : TallyValue)
    → phase now found ≡ true → Is now found act → new ≡ after_job act now → AreActs phase Is more new later end
    → AreActs phase Is (found ∷ more) now (act ∷ later) end
acted_rest phase Is more found now new act later end in_it is after a =
    rw in_it (act, later, refl, is, subst (λ (t : TallyValue). AreActs phase Is more t later end) after a)

-- one more job was looked at
pub went_on : {H : Type 0} (done : JobAct → H → H) (phase : TallyValue → Found → Bool)
    (Is : TallyValue → Found → JobAct → Type 0) (jobs left more : List Found) (found : Found) (old now new : TallyValue)
    (before mid after : H) → left ≡ found ∷ more → MayWorkOne done phase Is found now new mid after
    → IsActing done phase Is jobs left old now before mid → IsActing done phase Is jobs more old new before after
went_on {H = H} done phase Is jobs left more found old now new before mid after is one h =
    by_test (phase now found) refl one
  where
    by_test : (t : Bool) → phase now found ≡ t
        → FactBy t (WorksOne done Is found now new mid after) ((new ≡ now) × (after ≡ mid))
        → IsActing done phase Is jobs more old new before after
    by_test true in_it w = record {
      acts = h.acts ++ w.0 ∷ [];
      told = w.3 ∙ ap (λ (x : H). done (w.0) x) h.told ∙ sym (worked_append done h.acts (w.0 ∷ []) before);
      rest = λ later end a.
          let here : AreActs phase Is left now (w.0 ∷ later) end =
          subst (λ (l : List Found). AreActs phase Is l now (w.0 ∷ later) end) (sym is)
          (acted_rest phase Is more found now new (w.0) later end in_it (w.1) (w.2) a) in
          let all : AreActs phase Is jobs old (h.acts ++ w.0 ∷ later) end = h.rest (w.0 ∷ later) end here in
          subst (λ (l : List JobAct). AreActs phase Is jobs old l end) (sym (append_assoc h.acts (w.0 ∷ []) later)) all;
    }
    by_test false out w = record {
      acts = h.acts;
      told = w.1 ∙ h.told;
      rest = λ later end a.
          let same : AreActs phase Is more now later end = subst (λ (t : TallyValue). AreActs phase Is more t later end)
          (w.0) a in
          h.rest later end (subst (λ (l : List Found). AreActs phase Is l now later end) (sym is)
          (passed_rest phase Is more found now later end false out refl same));
    }

-- no job is left
pub ended : {H : Type 0} (done : JobAct → H → H) (phase : TallyValue → Found → Bool)
    (Is : TallyValue → Found → JobAct → Type 0) (jobs left : List Found) (old now : TallyValue) (before after : H)
    → left ≡ [] → IsActing done phase Is jobs left old now before after
    → HasActed done phase Is jobs old now before after
ended done phase Is jobs left old now before after none h =
    let nothing : AreActs phase Is left now [] now =
    subst (λ (l : List Found). AreActs phase Is l now [] now) (sym none) (refl, refl) in
    let all : AreActs phase Is jobs old (h.acts ++ []) now = h.rest [] now nothing in
    (h.acts, subst (λ (l : List JobAct). AreActs phase Is jobs old l now) (append-nil h.acts) all, h.told)

-- the last of the first so many, and those before it
pub last_first : (jobs : List Found) (k : ℕ) (d : Found) → k < length jobs
    → reverse (take (k + 1) jobs) ≡ get_or jobs k d ∷ reverse (take k jobs)
last_first jobs k d within =
    ap reverse (take_more jobs k d within) ∙ reverse-append (take k jobs) (get_or jobs k d ∷ [])
