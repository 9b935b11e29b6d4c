use Rattle.std.proofs.Common.{◌∙◌, ap}
use Rattle.transfer_sync.specs.PathMaps.{path_set}
use Rattle.transfer_sync.proofs.PathLaws.{has_key}
use Rattle.transfer_sync.proofs.paths.PathSet.has.Goals as goal

pub returns : goal.returns
returns c = c.contains.ensures ∙ (has_key (λ k. k.items) c.args.path.now c.self.inside.paths.keys
    ∙ ap (λ l. path_set l c.args.path.now) c.self.view_is)
