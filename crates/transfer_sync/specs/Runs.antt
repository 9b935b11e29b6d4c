-- believed, except DidPlan
-- The run of a plan.
use Rattle.std.specs.Prelude.{◌≡◌, ◌&&◌, ℕ, Bool, false, List}
use Rattle.transfer_plan.specs.Apart.{kept_apart}
use Rattle.transfer_plan.specs.Jobs.{AreAllDone, CarriesOut, FactBy, JobAct, TallyValue}
use Rattle.transfer_plan.specs.declared.found.Found.{Found}
use Rattle.transfer_sync.specs.Jobs.{main_jobs, touch_jobs}
use Rattle.transfer_sync.specs.declared.action.Action.{Action}
use Rattle.transfer_sync.specs.declared.entry.Entry.{Entry}
use Rattle.transfer_sync.specs.declared.jobs.Roots.{Roots}

-- The jobs of the main phase in a run, each file by a path of its own.
abbrev pub first_jobs : Roots → List Entry → List Action → List ℕ → List Found
first_jobs roots source actions run = kept_apart (main_jobs roots source actions) run

-- The jobs that set permissions and times in a run.
abbrev pub last_jobs : Roots → List Entry → List Action → List ℕ → List Found
last_jobs roots source actions run = kept_apart (touch_jobs roots source actions) run

-- The last jobs were carried out too; all was done if all was done in both phases.
pub record Touches {H : Type 0} (done : JobAct → H → H) (jobs : List Found) (made : TallyValue) (before after : H)
    (all : Bool) : Type 0 where
  pub tally : TallyValue
  pub carries : CarriesOut done false jobs before after tally
  pub result : all ≡ (made.all_done && tally.all_done)

-- The jobs of a plan were carried out, each once and in their order, and nothing else was done. If one stopped the run,
-- permissions and times were not set.
pub record RunsPlan {H : Type 0} (done : JobAct → H → H) (roots : Roots) (source : List Entry) (actions : List Action)
    (run : List ℕ) (before after : H) (all : Bool) : Type 0 where
  pub made : TallyValue
  pub between : H
  pub carries : CarriesOut done false (first_jobs roots source actions run) before between made
  pub touches : FactBy made.stopped ((after ≡ between) × (all ≡ false))
      (Touches done (last_jobs roots source actions run) made between after all)

-- All jobs of a plan were done.
pub record DidPlan {H : Type 0} (done : JobAct → H → H) (roots : Roots) (source : List Entry) (actions : List Action)
    (run : List ℕ) (before after : H) : Type 0 where
  pub between : H
  pub made : AreAllDone done (first_jobs roots source actions run) before between
  pub touched : AreAllDone done (last_jobs roots source actions run) between after
