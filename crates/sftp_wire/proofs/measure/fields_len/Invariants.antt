use Rattle.std.proofs.Common.{◌≡◌, length, take}
use Rattle.std.specs.List.{flat_map}
use Rattle.sftp_wire.specs.Body.{field_bytes, saturated_length}
use Rattle.sftp_wire.proofs.measure.fields_len.Given as goal

abbrev pub invariant-loop-field : goal.invariant-loop-field
invariant-loop-field l = l.total ≡ saturated_length (length (flat_map field_bytes (take l.field-index l.fields)))
