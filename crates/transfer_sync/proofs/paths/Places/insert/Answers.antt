use Rattle.std.proofs.Common.{◌∙◌, ap, map, Some, if◌then◌else◌}
use Rattle.std.specs.Str.{bytes_eq}
use Rattle.transfer_sync.specs.PathMaps.{place_map}
use Rattle.transfer_sync.proofs.PathLaws.{place_more}
use Rattle.transfer_sync.proofs.paths.Places.insert.Goals as goal

pub returns : goal.returns
returns c = λ i. λ other. (ap (λ es. place_map (map (λ e. (e.0.items, e.1)) es) other) c.in_ok-insert.ensures.entries
    ∙ (place_more (λ k. k.items) other c.args.path c.args.place c.self.inside.places.entries
    ∙ ap (λ l. if bytes_eq other c.args.path.items then Some c.args.place else place_map l other) c.self.view_is)) i
