use Rattle.transfer_plan.proofs.ApartLaws.{all_apart}
use Rattle.transfer_plan.proofs.apart.keep_apart.Goals as goal

pub returns-clause-apart : goal.returns-clause-apart
returns-clause-apart c =
    all_apart c.args.jobs.items c.args.run.now (λ v. v.items) c.refuse_others.result c.refuse_others.ensures
