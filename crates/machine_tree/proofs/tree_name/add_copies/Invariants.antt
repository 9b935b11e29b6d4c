use Rattle.std.proofs.Common.{◌≡◌, ◌++◌, take}
use Rattle.machine_tree.proofs.tree_name.add_copies.Given as goal

abbrev pub invariant-loop-part : goal.invariant-loop-part
invariant-loop-part l = l.parts.items ≡ l.fn.parts.items ++ take l.part-index l.more
