use Rattle.std.proofs.Common.{◌≡◌, take}
use Rattle.std.specs.Prelude.{map}
use Rattle.machine_model.specs.FirstTree.{name_of}
use Rattle.machine_tree.proofs.conditions.file_names.Given as goal

-- as many names as files were passed
abbrev pub invariant-loop-file : goal.invariant-loop-file
invariant-loop-file l = l.names.items ≡ map name_of (take l.file-index l.files)
