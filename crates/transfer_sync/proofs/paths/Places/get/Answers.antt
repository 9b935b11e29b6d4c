use Rattle.std.proofs.Common.{◌∙◌}
use Rattle.transfer_sync.proofs.PathLaws.{found_place}
use Rattle.transfer_sync.proofs.paths.Places.get.Goals as goal

pub returns : goal.returns
returns c = found_place (λ k. k.items) c.args.path.now c.self.inside.places.entries c.args.self.now c.copied.result
    (c.copied.ensures ∙ c.get.ensures.value) c.self.view_is
