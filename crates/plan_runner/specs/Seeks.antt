-- A buffered file with another offset.
use Rattle.std.specs.Prelude.{ℕ, ◌-◌, List, [], drop, Option, nat_lt, if◌then◌else◌}
use Rattle.sftp_model.specs.declared.slot.FileAt.{FileAt}
use Rattle.sftp_model.specs.declared.slot.Site.{Site}
use Rattle.sftp_model.specs.declared.slot.Slot.{Slot}
use Rattle.sftp_model.specs.declared.slot.Slot.TheVariants.{Buffered}
use Rattle.sftp_model.specs.Slots.{with_slot}

-- The buffered bytes from a new offset on, if it lies ahead.
abbrev pub sought_bytes : ℕ → ℕ → List ℕ → List ℕ
sought_bytes from to bytes = if nat_lt from to then drop (to - from) bytes else []

-- If a slot holds a buffered file, it becomes this file, with these bytes and this read in flight.
abbrev pub with_buffer_at : ℕ → Site → Slot → FileAt → List ℕ → Option ℕ → Site
with_buffer_at slot site (Buffered old buffer) file bytes reading =
    with_slot site slot (Buffered file (record {
      len = buffer.len;
      bytes = bytes;
      deferred = buffer.deferred;
      reading =
          reading;
    }))
with_buffer_at slot site other file bytes reading = with_slot site slot other
