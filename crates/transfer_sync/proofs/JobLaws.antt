-- The jobs of a plan, as a loop collects them.
use Rattle.std.proofs.Common.{◌≡◌, ◌+◌, ◌<◌, ℕ, List, [], ◌∷◌, ◌++◌, ◌∙◌, length, take, get_or, refl, sym, ap}
use Rattle.std.proofs.lemmas.List.{append_assoc, append-nil, take_more}
use Rattle.transfer_plan.specs.declared.found.Found.{Found}
use Rattle.transfer_sync.specs.Jobs.{job_where, jobs_of}
use Rattle.transfer_sync.specs.declared.action.Action.{Action}
use Rattle.transfer_sync.specs.declared.entry.Entry.{Entry}
use Rattle.transfer_sync.specs.declared.jobs.Phase.{Phase}
use Rattle.transfer_sync.specs.declared.jobs.Roots.{Roots}

jobs_append : (roots : Roots) (source : List Entry) (phase : Phase) (xs ys : List Action)
    → jobs_of roots source phase (xs ++ ys) ≡ jobs_of roots source phase xs ++ jobs_of roots source phase ys
jobs_append roots source phase [] ys = refl
jobs_append roots source phase (x ∷ xs) ys =
    ap (λ l. job_where roots source phase x ++ l) (jobs_append roots source phase xs ys)
    ∙ sym (append_assoc (job_where roots source phase x) (jobs_of roots source phase xs)
    (jobs_of roots source phase ys))

-- Another action.
pub job_more : (roots : Roots) (source : List Entry) (phase : Phase) (actions : List Action) (i : ℕ) (a : Action)
    (first now next : List Found)
    → i < length actions → a ≡ get_or actions i a → next ≡ now ++ job_where roots source phase a
    → now ≡ first ++ jobs_of roots source phase (take i actions)
    → next ≡ first ++ jobs_of roots source phase (take (i + 1) actions)
job_more roots source phase actions i a first now next within is step before =
    let more : jobs_of roots source phase (take (i + 1) actions)
    ≡ jobs_of roots source phase (take i actions) ++ job_where roots source phase a =
    ap (jobs_of roots source phase) (take_more actions i a within)
    ∙ (ap (λ (x : Action). jobs_of roots source phase (take i actions ++ x ∷ [])) (sym is)
    ∙ (jobs_append roots source phase (take i actions) (a ∷ [])
    ∙ ap (λ l. jobs_of roots source phase (take i actions) ++ l) (append-nil (job_where roots source phase a)))) in
    step
    ∙ (ap (λ l. l ++ job_where roots source phase a) before
    ∙ (append_assoc first (jobs_of roots source phase (take i actions)) (job_where roots source phase a)
    ∙ ap (λ l. first ++ l) (sym more)))
