use Rattle.std.proofs.Common.{◌≡◌, length}
use Rattle.std.specs.List.{list_any}
use Rattle.machine_model.specs.FileTree.{names_file}
use Rattle.machine_tree.proofs.lookups.is_named.Given as goal

abbrev pub invariant-loop-rest : goal.invariant-loop-rest
invariant-loop-rest l = list_any (λ pair. names_file l.fn.file pair.1) l.fn.pairs
    ≡ list_any (λ pair. names_file l.fn.file pair.1) l.rest

abbrev pub decreases-loop-rest : goal.decreases-loop-rest
decreases-loop-rest l = length l.rest
