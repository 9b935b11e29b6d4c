use Rattle.std.proofs.Common.{◌≡◌, take}
use Rattle.std.specs.Prelude.{map}
use Rattle.sftp_serve.specs.Details.{full_entry}
use Rattle.sftp_serve.proofs.details.full_entries.Given as goal

abbrev pub invariant-loop-entry : goal.invariant-loop-entry
invariant-loop-entry l = l.full.items ≡ map full_entry (take l.entry-index l.entries)
