use Rattle.std.proofs.Common.{◌≡◌, take}
use Rattle.std.specs.Prelude.{map}
use Rattle.machine_tree.proofs.first_tree.first_contents.Given as goal

-- as many copies as files were passed
abbrev pub invariant-loop-file : goal.invariant-loop-file
invariant-loop-file l = l.contents.items ≡ map (λ file. file.1) (take l.file-index l.files)
