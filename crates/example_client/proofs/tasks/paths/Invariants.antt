use Rattle.std.proofs.Common.{◌≡◌}
use Rattle.std.specs.Prelude.{flat_map, take}
use Rattle.example_client.specs.Tasks.{path_line}
use Rattle.example_client.proofs.tasks.paths.Given as goal

abbrev pub invariant-loop-entry : goal.invariant-loop-entry
invariant-loop-entry l = l.text.items ≡ flat_map path_line (take l.entry-index l.found)
