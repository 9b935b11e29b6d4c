use Rattle.std.proofs.Common.{◌≡◌, take, length, ◌^◌, ◌-◌}
use Rattle.std.specs.Prelude.{min}
use Rattle.std.specs.List.{sum_by}
use Rattle.machine_tree.proofs.lookups.all_bytes.Given as goal

abbrev pub invariant-loop-file : goal.invariant-loop-file
invariant-loop-file l = l.sum ≡ min (sum_by length (take l.file-index l.files)) (2 ^ 64 - 1)
