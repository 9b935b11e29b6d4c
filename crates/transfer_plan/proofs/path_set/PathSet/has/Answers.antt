use Rattle.std.proofs.Common.{◌∙◌, ap}
use Rattle.transfer_plan.specs.Apart.{has_path}
use Rattle.transfer_plan.proofs.JobPathLaws.{has_key}
use Rattle.transfer_plan.proofs.path_set.PathSet.has.Goals as goal

pub returns : goal.returns
returns c = c.contains.ensures ∙ (has_key (λ k. k.items) c.args.path.now c.self.inside.paths.keys
    ∙ ap (λ l. has_path l c.args.path.now) c.self.view_is)
