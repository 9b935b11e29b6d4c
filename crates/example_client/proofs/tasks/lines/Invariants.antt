use Rattle.std.proofs.Common.{◌≡◌}
use Rattle.std.specs.Prelude.{flat_map, take}
use Rattle.example_client.specs.Tasks.{line_of}
use Rattle.example_client.proofs.tasks.lines.Given as goal

abbrev pub invariant-loop-entry : goal.invariant-loop-entry
invariant-loop-entry l = l.text.items ≡ flat_map line_of (take l.entry-index l.entries)
