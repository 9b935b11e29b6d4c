use Rattle.std.proofs.Common.{◌≡◌, ◌++◌, take}
use Rattle.std.specs.Prelude.{map}
use Rattle.machine_model.specs.Components.{moved_name}
use Rattle.machine_tree.proofs.moves.add_moved.Given as goal

abbrev pub invariant-loop-pair : goal.invariant-loop-pair
invariant-loop-pair l = l.names ≡ l.fn.names ++ map (λ pair. (moved_name l.old l.to pair.0, pair.1))
    (take l.pair-index l.pairs)
