use Rattle.std.proofs.Common.{◌≡◌, drop}
use Rattle.machine_model.specs.Components.{components, walk_from, parts_of}
use Rattle.machine_tree.proofs.WalkLaws.{with_prefix}
use Rattle.machine_tree.proofs.tree_name.walk.Given as goal

-- where one stands, with the bytes of the part that was begun, and what is left lead to the name
abbrev pub invariant-loop-b : goal.invariant-loop-b
invariant-loop-b l = walk_from l.at.items (with_prefix l.part.items (parts_of (drop l.b-index l.path)))
    ≡ components l.path
