use Rattle.std.proofs.Common.{◌≡◌, ◌++◌, take}
use Rattle.std.specs.Prelude.{map}
use Rattle.machine_model.specs.Components.{parent_of}
use Rattle.machine_model.specs.FirstTree.{name_of}
use Rattle.machine_tree.proofs.first_tree.add_parents.Given as goal

-- as many names as files were passed
abbrev pub invariant-loop-file : goal.invariant-loop-file
invariant-loop-file l = l.names.items ≡ l.fn.names.items ++ map (λ file. parent_of (name_of file))
    (take l.file-index l.files)
