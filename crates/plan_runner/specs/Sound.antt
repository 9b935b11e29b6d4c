-- believed, except KeepsSite, HasRoom, HasSlot, EndsWithin, AsksWithin, IsSound, KeepsRunningSound
-- The facts known about a started call, which it needs to continue.
use Rattle.std.specs.Prelude.{ℕ, ◌≡◌, ◌<◌, ◌≤◌, ◌+◌, ◌-◌, ◌^◌, true, List, [], drop, length, Option, Some, None}
use Rattle.sftp_model.specs.declared.reply.Reply.{Reply}
use Rattle.sftp_model.specs.declared.reply.Reply.TheVariants as reply
use Rattle.sftp_model.specs.declared.slot.Facts.{Facts}
use Rattle.sftp_model.specs.declared.slot.FileAt.{FileAt}
use Rattle.sftp_model.specs.declared.slot.Site.{Site}
use Rattle.sftp_model.specs.declared.slot.Slot.{Slot}
use Rattle.sftp_model.specs.declared.slot.Slot.TheVariants.{File, Buffered}
use Rattle.sftp_model.specs.Slots.{slot_at}
use Rattle.plan_model.specs.TransferPlans.{part_len}
use Rattle.plan_model.specs.BufferPlans.{is_full, pending_bytes}
use Rattle.plan_model.specs.GoodMoves.{ReadsWithin}
use Rattle.plan_model.specs.Moves.{Answers, Plan}
use Rattle.plan_window.specs.Windows.{FitsFirst, IsSound as IsSoundWindow}
use Rattle.plan_runner.specs.declared.next.Running.{Running}
use Rattle.plan_runner.specs.declared.next.Running.TheVariants as running
use Rattle.plan_runner.specs.declared.next.Next.{Next}
use Rattle.plan_runner.specs.declared.next.Next.TheVariants as step

-- ---- Facts about the site

-- The deferred writes of a buffered file are within the limit, and its bytes end at most at the greatest offset.
abbrev pub IsWithin : Facts → Slot → Type 0
IsWithin facts (Buffered file buffer) = (pending_bytes buffer.deferred ≤ facts.write_limit)
    × (length buffer.bytes ≤ (2 ^ 64 - 1) - file.offset)
IsWithin facts other = Unit {0}

abbrev pub AreWithin : Facts → Site → Type 0
AreWithin facts site = (k : ℕ) → IsWithin facts (slot_at site k)

-- The number of slots is unchanged, and each slot is within its bounds if all were.
pub record KeepsSite (facts : Facts) (old new : Site) : Type 0 where
  pub count : length new.slots ≡ length old.slots
  pub limit : AreWithin facts old → AreWithin facts new

-- ---- Facts about the call

-- The file can be moved this far.
abbrev pub CanMove : FileAt → ℕ → Type 0
CanMove file len = file.offset + len < 2 ^ 64

-- The file can be moved by the bytes of a DATA.
abbrev pub HasRoom : FileAt → Reply → Type 0
HasRoom file (reply.Content bytes) = CanMove file (length bytes)
HasRoom file other = Unit {0}

-- The slot exists, if one is named.
abbrev pub HasSlot : Option ℕ → Site → Type 0
HasSlot None site = Unit {0}
HasSlot (Some slot) site = slot < length site.slots

-- The file is in its slot, if it has one.
abbrev pub IsKept : Option ℕ → FileAt → Site → Type 0
IsKept None file site = Unit {0}
IsKept (Some slot) file site = (slot < length site.slots) × (slot_at site slot ≡ File file)

-- The window of a buffered file is full.
abbrev pub IsFullAt : Facts → Slot → Type 0
IsFullAt facts (Buffered file buffer) = is_full facts buffer ≡ true
IsFullAt facts other = Unit {0}

-- The offset of a buffered file is this one.
abbrev pub StandsAt : ℕ → Slot → Type 0
StandsAt offset (Buffered file buffer) = file.offset ≡ offset
StandsAt offset other = Unit {0}

-- The bytes of a DATA from this offset on end at most at the greatest offset.
abbrev pub EndsWithin : ℕ → Reply → Type 0
EndsWithin offset (reply.Content bytes) = length bytes ≤ (2 ^ 64 - 1) - offset
EndsWithin offset other = Unit {0}

-- This many of the bytes are done, if a call writes all of them.
abbrev pub HasDone : Option ℕ → List ℕ → Type 0
HasDone None bytes = Unit {0}
HasDone (Some done) bytes = done ≤ length bytes

-- The facts known about a started call.
abbrev pub IsRunningSound : Running → List ℕ → Site → Facts → Type 0
IsRunningSound (running.Ending place ends) bytes site facts = Unit {0}
IsRunningSound (running.Opening place slot flags) bytes site facts = slot < length site.slots
IsRunningSound (running.Reading place slot file len) bytes site facts = (slot < length site.slots) × CanMove file len
IsRunningSound (running.Gathering place slot file got left len) bytes site facts = IsKept (Some slot) file site
    × CanMove file len
IsRunningSound (running.Sending place slot file len) bytes site facts = (slot < length site.slots) × CanMove file len
IsRunningSound (running.Writing place slot file done) bytes site facts =
    IsKept slot file site × (done ≤ length bytes) × CanMove file (part_len facts (drop done bytes))
IsRunningSound (running.OpeningToWrite place) bytes site facts = Unit {0}
IsRunningSound (running.OpeningToRead place bound) bytes site facts = Unit {0}
IsRunningSound (running.ReadingWhole grant bound window) bytes site facts = IsSoundWindow window
IsRunningSound (running.OpeningDirectory place bound) bytes site facts = Unit {0}
IsRunningSound (running.Listing place grant got bound) bytes site facts = Unit {0}
IsRunningSound (running.Flushing slot) bytes site facts = slot < length site.slots
IsRunningSound (running.AwaitingRoom slot start) bytes site facts = (slot < length site.slots)
    × IsFullAt facts (slot_at site slot) × HasDone start bytes
IsRunningSound (running.Deferred slot count) bytes site facts = Unit {0}
IsRunningSound (running.DeferringRest slot done) bytes site facts = (slot < length site.slots) × (done ≤ length bytes)
IsRunningSound (running.FillingBuffer slot n offset own) bytes site facts = (slot < length site.slots)
    × StandsAt offset (slot_at site slot)
IsRunningSound (running.Copying place from to source target len) bytes site facts =
    (from < length site.slots) × (to < length site.slots) × CanMove source len × CanMove target len

-- The facts known about the reply that it awaits: a DATA has at most the bytes that were asked for, and the bytes that
-- fill a buffer were asked for at its file's offset.
abbrev pub IsFittingReply : Running → Option Reply → Type 0
IsFittingReply (running.Reading place slot file len) (Some (reply.Content bytes)) = length bytes ≤ len
IsFittingReply (running.Gathering place slot file got left len) (Some (reply.Content bytes)) = length bytes ≤ len
IsFittingReply (running.FillingBuffer slot n offset own) (Some (reply.Content bytes)) =
    length bytes ≤ (2 ^ 64 - 1) - offset
IsFittingReply (running.ReadingWhole grant bound window) (Some y) = FitsFirst window y
IsFittingReply other r = Unit {0}

-- A READ that the plan asks next, by some replies, is within the range of offsets and the session's read length.
pub record AsksWithin (facts : Facts) (plan : Plan) : Type 0 where
  pub answers : Answers
  pub within : ReadsWithin facts (plan [] answers)

abbrev pub IsSound : List ℕ → Site → Facts → Next → Type 0
IsSound bytes site facts (step.Ask a r) = IsRunningSound r bytes site facts
IsSound bytes site facts (step.Wait r) = IsRunningSound r bytes site facts
IsSound bytes site facts (step.Done o) = Unit {0}

-- The site is kept, and the call can continue from it.
abbrev pub KeepsRunningSound : List ℕ → Facts → Site → Site → Next → Type 0
KeepsRunningSound bytes facts old new n = KeepsSite facts old new × IsSound bytes new facts n
