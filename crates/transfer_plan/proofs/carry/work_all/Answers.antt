use Rattle.std.proofs.Common.{rules, ◌≡◌, ◌+◌, ◌<◌, ◌≤◌, ◌∷◌, drop, length, sym, ap, ◌∙◌}
use Rattle.std.proofs.lemmas.List.{drop_all, drop_more}
use Rattle.transfer_plan.proofs.ActLaws.{ended, went_on}
use Rattle.transfer_plan.specs.Jobs.{IsJob, of_kind}
use Rattle.transfer_plan.specs.declared.found.Found.{Found}
use Rattle.transfer_plan.proofs.carry.work_all.Goals as goal

pub loop-job-preserved : goal.loop-job-preserved
loop-job-preserved g c =
    let within : c.loop-job.job < length c.args.jobs.now = search rules in
    let left : drop c.loop-job.job c.args.jobs.now
    ≡ c.index-jobs-job.result ∷ drop (c.loop-job.job + 1) c.args.jobs.now =
    drop_more c.args.jobs.now c.loop-job.job c.index-jobs-job.result within
    ∙ ap (λ (f : Found). f ∷ drop (c.loop-job.job + 1) c.args.jobs.now) (sym c.index-jobs-job.is) in
    record {
      may = c.work_step.ensures.may;
      acting =
          went_on g.H.Hand.done (of_kind c.args.kind) IsJob c.args.jobs.now _ _ c.index-jobs-job.result c.args.tally.now
          c.loop-job.tally c.work_step.new.tally _ _ _ left c.in_ok-work_step.ensures.works
          c.loop-job.invariant.acting;
    }

pub returns-clause-acts : goal.returns-clause-acts
returns-clause-acts g c =
    let past : length c.args.jobs.now ≤ c.loop-job.job = search rules in
    ended g.H.Hand.done (of_kind c.args.kind) IsJob c.args.jobs.now _ c.args.tally.now c.loop-job.tally _ _
    (drop_all c.loop-job.job c.args.jobs.now past) c.loop-job.invariant.acting
