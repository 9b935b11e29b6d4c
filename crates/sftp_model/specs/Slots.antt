-- believed, except file_moved_by
-- The site of a lane between its calls: sixteen slots and a working directory.
use Rattle.std.specs.Prelude.{ℕ, ◌+◌, ◌==◌, Bool, false, [], Option, Some, None, replicate, slice_index_or, slice_set}
use Rattle.std.specs.List.{list_any}
pub use Rattle.sftp_model.specs.declared.slot.FileAt.{FileAt}
pub use Rattle.sftp_model.specs.declared.slot.Buffer.{Buffer}
pub use Rattle.sftp_model.specs.declared.slot.Slot.{Slot}
pub use Rattle.sftp_model.specs.declared.slot.Slot.TheVariants.{Empty, File, Buffered}
pub use Rattle.sftp_model.specs.declared.slot.Site.{Site}

-- The site of a lane that has made no call.
abbrev pub fresh_site : Site
fresh_site = record { slots = replicate 16 Empty; directory = [] }

-- The contents of a slot; empty if no slot has the number.
abbrev pub slot_at : Site → ℕ → Slot
slot_at site k = slice_index_or site.slots k Empty

-- The site with one slot changed.
abbrev pub with_slot : Site → ℕ → Slot → Site
with_slot site k slot = record { slots = slice_set site.slots k slot; directory = site.directory }

-- The place of the OPEN whose handle a slot holds.
abbrev pub grant_of : Slot → Option ℕ
grant_of Empty = None
grant_of (File file) = Some file.grant
grant_of (Buffered file buffer) = Some file.grant

abbrev pub slot_has : ℕ → Slot → Bool
slot_has grant Empty = false
slot_has grant (File file) = file.grant == grant
slot_has grant (Buffered file buffer) = file.grant == grant

-- True if some slot has the grant.
abbrev pub has_grant : Site → ℕ → Bool
has_grant site grant = list_any (slot_has grant) site.slots

-- A file whose offset is n bytes further.
abbrev pub file_moved_by : FileAt → ℕ → Slot
file_moved_by file n = File (record file { offset = file.offset + n })
