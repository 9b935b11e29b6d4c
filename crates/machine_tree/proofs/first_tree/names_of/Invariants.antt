use Rattle.std.proofs.Common.{◌≡◌, take}
use Rattle.std.specs.Prelude.{map}
use Rattle.machine_model.specs.Components.{components}
use Rattle.machine_tree.proofs.first_tree.names_of.Given as goal

-- as many names as paths were passed
abbrev pub invariant-loop-path : goal.invariant-loop-path
invariant-loop-path l = l.names.items ≡ map components (take l.path-index l.paths)
