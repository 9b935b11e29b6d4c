use Rattle.std.proofs.Common.{◌≡◌, ◌++◌}
use Rattle.std.specs.Prelude.{flat_map, take}
use Rattle.sftp_client.specs.Walks.{found_in}
use Rattle.sftp_client.proofs.walk_entries.append_entries.Given as goal

abbrev pub invariant-loop-entry : goal.invariant-loop-entry
invariant-loop-entry l = l.found.items
    ≡ l.initial.found.items ++ flat_map (found_in l.path) (take l.entry-index l.entries)
