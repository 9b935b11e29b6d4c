-- believed: tree_at, place_behind, OthersLeave, WritesAlone, ArePut
-- Buffered writes: WRITEs whose statuses are taken later.
use Rattle.std.specs.Prelude.{◌≡◌, ◌<◌, ℕ, ◌+◌, ◌⊎◌, true, false, List, [], ◌∷◌, ◌++◌, filter, length, Some, nat_lt}
use Rattle.sftp_model.specs.Numbers.{SSH_FX_OK}
use Rattle.sftp_model.specs.Slots.{slot_at}
use Rattle.sftp_model.specs.declared.config.ServerConfig.{ServerConfig}
use Rattle.sftp_model.specs.declared.outcome.Outcome.TheVariants as outcome
use Rattle.sftp_model.specs.declared.reply.Reply.TheVariants as reply
use Rattle.sftp_model.specs.declared.request.Request.{Request}
use Rattle.sftp_model.specs.declared.request.Request.TheVariants as request
use Rattle.sftp_model.specs.declared.slot.Buffer.{Buffer}
use Rattle.sftp_model.specs.declared.slot.Facts.{Facts}
use Rattle.sftp_model.specs.declared.slot.FileAt.{FileAt}
use Rattle.sftp_model.specs.declared.slot.Site.{Site}
use Rattle.sftp_model.specs.declared.slot.Slot.TheVariants.{Buffered}
use Rattle.machine_model.specs.Changes.{ClosesHandle}
use Rattle.machine_model.specs.FileTree.{FileTree, bytes_of, opened_at, written_at}
use Rattle.machine_model.specs.declared.opened.Held.{Held}
use Rattle.machine_model.specs.declared.opened.Opened.TheVariants as opened
use Rattle.plan_model.specs.declared.call.Call.TheVariants as call
use Rattle.plan_model.specs.Moves.{Answers, Own}
use Rattle.session_model.specs.declared.entry.Entry.{Entry}
use Rattle.session_model.specs.Readings.{AskedRequest, answer, asked_at, own}
use Rattle.run_laws.specs.CallsAmong.{HasEnded, ToWrite}
use Rattle.run_laws.specs.GrantUses.{WritesBy}
use Rattle.run_laws.specs.InJournals.{is_of_call}
use Rattle.run_laws.specs.Steps.{Step, after, answer_to}

-- The bytes that a WRITE carries.
abbrev pub content_in : Request → List ℕ
content_in (request.Write handle offset content) = content
content_in other = []

-- The bytes that these requests carry, joined.
abbrev pub carried_bytes : Own → List ℕ
carried_bytes [] = []
carried_bytes (asked ∷ later) = content_in asked.1 ++ carried_bytes later

-- The places of the requests.
abbrev pub places : Own → List ℕ
places [] = []
places (asked ∷ later) = asked.0 ∷ places later

-- Each is a WRITE by the handle, the first at the offset and each after the one before it.
abbrev pub AreWrites : List ℕ → ℕ → Own → Type 0
AreWrites handle offset [] = Unit {0}
AreWrites handle offset (asked ∷ later) = (asked.1 ≡ request.Write handle offset (content_in asked.1))
    × AreWrites handle (offset + length (content_in asked.1)) later

-- The requests at these places were each answered by a STATUS 0.
abbrev pub AreWritten : Answers → List ℕ → Type 0
AreWritten answers [] = Unit {0}
AreWritten answers (place ∷ later) = ((message : List ℕ) × ((language : List ℕ)
    × (answers place ≡ Some (reply.Status SSH_FX_OK message language)))) × AreWritten answers later

-- These requests are among the steps in their order, the last of them being the last step. Each writes by the handle.
-- No other step changes the file or closes the handle.
abbrev pub StandAlone : ServerConfig → ℕ → List ℕ → Own → FileTree → List Step → Type 0
StandAlone config file handle [] tree [] = Unit {0}
StandAlone config file handle [] tree (s ∷ steps) = ⊥
StandAlone config file handle (asked ∷ later) tree [] = ⊥
StandAlone config file handle (asked ∷ later) tree (s ∷ steps) =
    ((s.place ≡ asked.0) × (s.request ≡ asked.1) × WritesBy asked.1 handle
    × StandAlone config file handle later (answer_to config tree s).1 steps)
    ⊎ ((bytes_of (answer_to config tree s).1 file ≡ bytes_of tree file) × (ClosesHandle s.request handle → ⊥)
    × StandAlone config file handle (asked ∷ later) (answer_to config tree s).1 steps)

-- ---- In journals

-- A call with these requests wrote the bytes to a buffered file at the offset, and a flush of what it left ended well.
pub record IsFlushedWrite (past : List Entry) (own : Own) (offset : ℕ) (bytes : List ℕ) : Type 0 where
  pub slot : ℕ
  pub file : FileAt
  pub buffer : Buffer
  pub site : Site
  pub facts : Facts
  pub stood : slot_at site slot ≡ Buffered file buffer
  pub at : file.offset ≡ offset
  pub wrote : HasEnded (call.BufWriteAll slot bytes) site facts own (answer past) outcome.Done
  pub flush_site : Site
  pub flush_facts : Facts
  pub flush_own : Own
  pub same : slot_at flush_site slot ≡ slot_at wrote.left slot
  pub flushed : HasEnded (call.BufFlush slot) flush_site flush_facts flush_own (answer past) outcome.Done

-- The tree when the request at a place came, in a run of the machine: the result of the steps before it.
abbrev pub tree_at : ServerConfig → FileTree → List Step → ℕ → FileTree
tree_at config first steps place = after config first (filter (λ s. nat_lt s.place place) steps)

-- The place after these requests.
abbrev pub place_behind : ℕ × Request → Own → ℕ
place_behind r [] = r.0 + 1
place_behind r (a ∷ later) = place_behind a later

-- Each request of the call writes by the handle.
abbrev pub AllWriteBy : List Entry → ℕ → ℕ → List ℕ → Type 0
AllWriteBy past lane k handle = (place : ℕ) (a : AskedRequest) → is_of_call past (lane, k) place ≡ true
    → asked_at past place
    ≡ Some a → WritesBy a.request handle

-- From the first of these requests of a call up to the last of them, each request of others leaves the bytes of the
-- file unchanged.
abbrev pub OthersLeave : ServerConfig → FileTree → List Entry → List Step → ℕ × ℕ → ℕ × Request → Own → ℕ → Type 0
OthersLeave config first past steps c w written file =
    (place : ℕ) → w.0 < place → place < place_behind w written → is_of_call past c place ≡ false
    → bytes_of (tree_at config first steps (place + 1)) file ≡ bytes_of (tree_at config first steps place) file

-- A handle had a file open to write, and not to append, when the first of a call's requests came. Up to the last of
-- them each request of others leaves the bytes of the file unchanged.
pub record WritesAlone (config : ServerConfig) (first : FileTree) (past : List Entry) (steps : List Step) (lane k : ℕ)
    (handle : List ℕ) : Type 0 where
  pub w : ℕ × Request
  pub written : Own
  pub asks : own past lane k ≡ w ∷ written
  pub held : Held
  pub is_open : opened_at (tree_at config first steps w.0) handle ≡ Some (opened.File held)
  pub way : ToWrite held
  pub others : OthersLeave config first past steps (lane, k) w written held.file

-- The bytes were put into that file at an offset. After the last of the call's requests it has the bytes that it had
-- when the first one came, with these bytes at the offset; zeros fill a gap.
abbrev pub ArePut : (config : ServerConfig) (first : FileTree) (past : List Entry) (steps : List Step) (lane k : ℕ)
    (handle : List ℕ) → WritesAlone config first past steps lane k handle → ℕ → List ℕ → Type 0
ArePut config first past steps lane k handle t offset bytes =
    bytes_of (tree_at config first steps (place_behind t.w t.written)) t.held.file
    ≡ written_at (bytes_of (tree_at config first steps t.w.0) t.held.file) offset bytes
