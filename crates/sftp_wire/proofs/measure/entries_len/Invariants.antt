use Rattle.std.proofs.Common.{◌≡◌, length, take}
use Rattle.std.specs.List.{flat_map}
use Rattle.sftp_model.specs.Frames.{name_entry}
use Rattle.sftp_wire.specs.Body.{saturated_length}
use Rattle.sftp_wire.proofs.measure.entries_len.Given as goal

abbrev pub invariant-loop-entry : goal.invariant-loop-entry
invariant-loop-entry l = l.total ≡ saturated_length (length (flat_map name_entry (take l.entry-index l.entries)))
