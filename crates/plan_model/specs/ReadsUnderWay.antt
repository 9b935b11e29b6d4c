-- The READs that are in flight for buffered files: each begins at its file's offset, and the buffer is empty.
use Rattle.std.specs.Prelude.{ℕ, ◌≡◌, ◌<◌, ◌+◌, ◌^◌, List, [], ◌∷◌, Option, Some}
use Rattle.sftp_model.specs.declared.request.Request.{Request}
use Rattle.sftp_model.specs.declared.request.Request.TheVariants as request
use Rattle.sftp_model.specs.declared.slot.FileAt.{FileAt}
use Rattle.sftp_model.specs.declared.slot.Buffer.{Buffer}
use Rattle.sftp_model.specs.declared.slot.Site.{Site}
use Rattle.sftp_model.specs.declared.slot.Slot.TheVariants.{Buffered}
use Rattle.sftp_model.specs.Slots.{slot_at}
use Rattle.plan_model.specs.Moves.{Own}

-- The requests that were submitted, by their places.
abbrev pub Requests : Type 0
Requests = ℕ → Option Request

-- Each of a call's own requests is at its place.
abbrev pub AreAt : Requests → Own → Type 0
AreAt requests [] = Unit {0}
AreAt requests (asked ∷ later) = (requests asked.0 ≡ Some asked.1) × AreAt requests later

-- A READ from this offset on, within the range of offsets.
pub record IsReadAt (asked : Option Request) (offset : ℕ) : Type 0 where
  pub handle : List ℕ
  pub len : ℕ
  pub is : asked ≡ Some (request.Read handle offset len)
  pub below : offset + len < 2 ^ 64

-- If a READ is in flight for a buffered file of the site, the buffer has no bytes, and the request at the place is a
-- READ at the file's offset.
pub record ReadsStand (requests : Requests) (site : Site) : Type 0 where
  pub each : (k p : ℕ) (file : FileAt) (buffer : Buffer) → slot_at site k ≡ Buffered file buffer → buffer.reading
      ≡ Some p → (buffer.bytes ≡ []) × IsReadAt (requests p) file.offset
