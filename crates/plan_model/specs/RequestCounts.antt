-- believed: work
-- The most requests that a call makes.
use Rattle.std.specs.Prelude.{ℕ, suc, ◌≡◌, ◌<◌, ◌≤◌, ◌+◌, List, [], ◌∷◌, length}
use Rattle.sftp_model.specs.declared.slot.Facts.{Facts}
use Rattle.sftp_model.specs.declared.slot.Move.{Move}
use Rattle.sftp_model.specs.declared.slot.Move.TheVariants.{Ask}
use Rattle.sftp_model.specs.declared.slot.FileAt.{FileAt}
use Rattle.sftp_model.specs.declared.slot.Buffer.{Buffer}
use Rattle.sftp_model.specs.declared.slot.Site.{Site}
use Rattle.sftp_model.specs.declared.slot.Slot.TheVariants.{Buffered}
use Rattle.sftp_model.specs.Slots.{slot_at}
use Rattle.plan_model.specs.TransferPlans.{joined_parts}
use Rattle.plan_model.specs.BufferPlans.{pending_bytes}
use Rattle.plan_model.specs.declared.call.Call.TheVariants as call
use Rattle.plan_model.specs.declared.call.Call.{Call}
use Rattle.plan_model.specs.CallPlans.{next}
use Rattle.plan_model.specs.Ends.{EndsLeaving}

-- If the move asks, the first number is below the second.
abbrev pub AsksBelow : ℕ → ℕ → Move → Type 0
AsksBelow made most (Ask r) = made < most
AsksBelow made most other = Unit {0}

-- ---- The most requests of a call

abbrev pub work : Call → Facts → ℕ
work (call.ReadAll slot n) facts = n
work (call.WriteAll slot bytes) facts = length bytes
work (call.WriteParts slot parts) facts = length (joined_parts parts)
work (call.BufWriteAll slot bytes) facts = length bytes
work (call.FsRead path bound) facts = bound + facts.read_window
work (call.FsWrite path bytes) facts = suc (length bytes)
work (call.List path bound) facts = suc bound
work (call.Seek slot position) facts = 0
work (call.CloneFile from to) facts = 0
work (call.Buffer slot len) facts = 0
work (call.Unbuffer slot) facts = 0
work (call.BufFlush slot) facts = 0
work (call.BufSeek slot position) facts = 0
work (call.Cwd path) facts = 0
work other facts = 1

-- ---- Properties of a buffer between calls

-- Each deferred write has at least one byte.
abbrev pub EachHasByte : List (ℕ × ℕ) → Type 0
EachHasByte [] = Unit {0}
EachHasByte (write ∷ writes) = (1 ≤ write.1) × EachHasByte writes

-- The pending bytes are within the limit.
pub record IsWithinLimit (facts : Facts) (buffer : Buffer) : Type 0 where
  pub within : pending_bytes buffer.deferred ≤ facts.write_limit
  pub each : EachHasByte buffer.deferred

-- The same for each slot.
abbrev pub BuffersWithin : Facts → Site → Type 0
BuffersWithin facts site = (slot : ℕ) (file : FileAt) (buffer : Buffer) → slot_at site slot ≡ Buffered file buffer
    → IsWithinLimit facts buffer

-- A call that ends leaves its buffers within the limit.
abbrev pub LeavesWithin : Facts → Move → Type 0
LeavesWithin facts move = EndsLeaving (BuffersWithin facts) move
