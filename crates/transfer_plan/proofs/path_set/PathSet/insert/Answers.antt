use Rattle.std.proofs.Common.{◌∙◌, ap, not, map, ◌||◌}
use Rattle.std.specs.Str.{bytes_eq}
use Rattle.transfer_plan.specs.Apart.{has_path}
use Rattle.transfer_plan.proofs.JobPathLaws.{has_key, key_more}
use Rattle.transfer_plan.proofs.path_set.PathSet.insert.Goals as goal

pub returns-clause-new : goal.returns-clause-new
returns-clause-new c = c.in_ok-insert.ensures.added
    ∙ ap not (has_key (λ k. k.items) c.args.path.items c.self.inside.paths.keys
    ∙ ap (λ l. has_path l c.args.path.items) c.self.view_is)

pub returns-clause-has : goal.returns-clause-has
returns-clause-has c = λ other. ap (λ keys. has_path (map (λ k. k.items) keys) other) c.in_ok-insert.ensures.keys
    ∙ (key_more (λ k. k.items) other c.args.path c.self.inside.paths.keys
    ∙ ap (λ l. has_path l other || bytes_eq other c.args.path.items) c.self.view_is)
