use Rattle.std.proofs.Common.{◌≡◌, take}
use Rattle.std.specs.List.{flat_map}
use Rattle.machine_tree.specs.Names.{with_slash_before}
use Rattle.machine_tree.proofs.tree_name.written.Given as goal

abbrev pub invariant-loop-part : goal.invariant-loop-part
invariant-loop-part l = l.text.items ≡ flat_map with_slash_before (take l.part-index l.parts)
