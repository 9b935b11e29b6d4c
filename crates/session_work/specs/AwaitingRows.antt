-- Worked rows of the replies that the file in a slot awaits.
use Rattle.std.specs.Prelude.{◌≡◌, ◌∷◌, [], Some, true, false, refl}
use Rattle.sftp_model.specs.declared.slot.FileAt.{FileAt}
use Rattle.sftp_model.specs.declared.slot.Slot.{Slot}
use Rattle.sftp_model.specs.declared.slot.Slot.TheVariants.{Buffered, File}
use Rattle.plan_runner.specs.Pending.{slots_times}
use Rattle.session_work.specs.Tokens.{slot_awaits}

abbrev pub file : FileAt
file = record { grant = 1; readable = true; writable = true; offset = 0 }

-- Two writes are deferred, and a READ is under way.
abbrev pub busy : Slot
busy = Buffered file (record { len = 4096; bytes = []; deferred = (3, 10) ∷ (5, 2) ∷ []; reading = Some 9 })

pub oldest_status : slot_awaits 3 busy ≡ true
oldest_status = refl

pub later_status : slot_awaits 5 busy ≡ true
later_status = refl

pub read_under_way : slot_awaits 9 busy ≡ true
read_under_way = refl

-- The grant and the length of a write are no places.
pub no_grant : slot_awaits 1 busy ≡ false
no_grant = refl

pub no_length : slot_awaits 10 busy ≡ false
no_length = refl

pub plain_file : slot_awaits 3 (File file) ≡ false
plain_file = refl

pub counted_once : slots_times 9 (File file ∷ busy ∷ []) ≡ 1
counted_once = refl
