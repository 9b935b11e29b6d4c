use Rattle.std.proofs.Common.{◌∙◌, ap, map, ◌||◌}
use Rattle.std.specs.Str.{bytes_eq}
use Rattle.transfer_sync.specs.PathMaps.{path_set}
use Rattle.transfer_sync.proofs.PathLaws.{key_more}
use Rattle.transfer_sync.proofs.paths.PathSet.insert.Goals as goal

pub returns : goal.returns
returns c = λ i. λ other. (ap (λ keys. path_set (map (λ k. k.items) keys) other) c.in_ok-insert.ensures.keys
    ∙ (key_more (λ k. k.items) other c.args.path c.self.inside.paths.keys
    ∙ ap (λ l. path_set l other || bytes_eq other c.args.path.items) c.self.view_is)) i
