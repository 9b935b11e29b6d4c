use Rattle.std.proofs.Common.{◌≡◌, ◌++◌, length, take}
use Rattle.std.specs.Hash as fed
use Rattle.std.specs.List.{flat_map, fold}
use Rattle.view_model.proofs.key.BlockKeyHash.hash.Given as goal

abbrev pub invariant-loop-part : goal.invariant-loop-part
invariant-loop-part g l =
    l.state ≡ fold g.H.Hasher.write l.fn.state (fed.usize (length l.self.name)
    ++ flat_map (fed.slice fed.u8) (take l.part-index l.self.name))
