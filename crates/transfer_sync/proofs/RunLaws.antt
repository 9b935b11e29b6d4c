-- A run in which everything was done.
use Rattle.std.proofs.Common.{◌≡◌, ◌&&◌, ℕ, Bool, true, false, List, ◌∙◌, sym, refl}
use Rattle.transfer_plan.proofs.DoneLaws.{all_were_done}
use Rattle.transfer_plan.specs.Jobs.{FactBy, JobAct}
use Rattle.transfer_sync.specs.Jobs.{main_jobs}
use Rattle.transfer_sync.specs.Runs.{DidPlan, RunsPlan, Touches, first_jobs, last_jobs}
use Rattle.transfer_sync.specs.declared.action.Action.{Action}
use Rattle.transfer_sync.specs.declared.entry.Entry.{Entry}
use Rattle.transfer_sync.specs.declared.jobs.Roots.{Roots}

and_left : (a b : Bool) → (a && b) ≡ true → a ≡ true
and_left true b e = refl
and_left false b e = absurd cc

and_right : (a b : Bool) → (a && b) ≡ true → b ≡ true
and_right true b e = e
and_right false b e = absurd cc

pub did_all : {H : Type 0} (done : JobAct → H → H) (roots : Roots) (source : List Entry) (actions : List Action)
    (run : List ℕ) (before after : H) (all : Bool) → RunsPlan done roots source actions run before after all → all ≡ true
    → DidPlan done roots source actions run before after
did_all done roots source actions run before after all runs is = by_stop runs.made.stopped runs.touches
  where
    by_stop : (stopped : Bool)
        → FactBy stopped ((after ≡ runs.between) × (all ≡ false))
        (Touches done (last_jobs roots source actions run) runs.made runs.between after all)
        → DidPlan done roots source actions run before after
    by_stop true h = absurd (let never : true ≡ false = sym is ∙ h.1 in cc)
    by_stop false t =
        let both : (runs.made.all_done && t.tally.all_done) ≡ true = sym t.result ∙ is in
        record {
          between = runs.between;
          made = all_were_done done false (first_jobs roots source actions run) before runs.between runs.made
              runs.carries (and_left runs.made.all_done t.tally.all_done both);
          touched = all_were_done done false (last_jobs roots source actions run) runs.between after t.tally t.carries
              (and_right runs.made.all_done t.tally.all_done both);
        }
