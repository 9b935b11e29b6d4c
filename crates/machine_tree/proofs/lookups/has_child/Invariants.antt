use Rattle.std.proofs.Common.{◌≡◌, length}
use Rattle.std.specs.List.{list_any}
use Rattle.machine_model.specs.Components.{is_child}
use Rattle.machine_tree.proofs.lookups.has_child.Given as goal

abbrev pub invariant-loop-rest : goal.invariant-loop-rest
invariant-loop-rest l = list_any (λ pair. is_child l.fn.directory pair.0) l.fn.pairs
    ≡ list_any (λ pair. is_child l.fn.directory pair.0) l.rest

abbrev pub decreases-loop-rest : goal.decreases-loop-rest
decreases-loop-rest l = length l.rest
