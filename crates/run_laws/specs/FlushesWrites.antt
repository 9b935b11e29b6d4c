-- believed
-- Writes to buffered files that are flushed later, by the lanes that were passed in and the reported outcomes of their
-- calls.
use Rattle.std.specs.Prelude.{◌≡◌, ◌<◌, ℕ, suc, true, false, List, ◌∷◌, Some, drop, length, take}
use Rattle.std.specs.List.{list_all}
use Rattle.sftp_model.specs.Slots.{slot_at}
use Rattle.sftp_model.specs.declared.config.Choice.{Choice}
use Rattle.sftp_model.specs.declared.config.ServerConfig.{ServerConfig}
use Rattle.sftp_model.specs.declared.open_options.OpenOptions.{OpenOptions}
use Rattle.sftp_model.specs.declared.outcome.Outcome.{Outcome}
use Rattle.sftp_model.specs.declared.outcome.Outcome.TheVariants as outcome
use Rattle.sftp_model.specs.declared.reply.Reply.TheVariants as reply
use Rattle.sftp_model.specs.declared.request.Request.{Request}
use Rattle.sftp_model.specs.declared.slot.Buffer.{Buffer}
use Rattle.sftp_model.specs.declared.slot.FileAt.{FileAt}
use Rattle.sftp_model.specs.declared.slot.Slot.TheVariants.{Buffered}
use Rattle.machine_model.specs.FileTree.{FileTree, opened_at}
use Rattle.machine_model.specs.declared.opened.Held.{Held}
use Rattle.machine_model.specs.declared.opened.Opened.TheVariants as opened
use Rattle.plan_model.specs.declared.call.Call.TheVariants as call
use Rattle.plan_model.specs.declared.call.Lane.{Lane}
use Rattle.plan_model.specs.Moves.{Own}
use Rattle.session_model.specs.declared.entry.Entry.{Entry}
use Rattle.session_model.specs.Calls.{Setting}
use Rattle.session_model.specs.Readings.{answer, own}
use Rattle.run_laws.specs.CallsAmong.{ToWrite}
use Rattle.run_laws.specs.DeferredWrites.{ArePut, OthersLeave, tree_at}
use Rattle.run_laws.specs.InJournals.{is_of_call}
use Rattle.run_laws.specs.Listings.{site_at}
use Rattle.run_laws.specs.ReadsBack.{call_in, calls_in, outcome_in}
use Rattle.run_laws.specs.SlotCalls.{leaves_slot}
use Rattle.run_laws.specs.Steps.{RunOf, Step}

-- A call of a lane writes at least one byte to a slot that holds a buffered file when the call starts. This handle was
-- granted for the file. A later call of the lane flushes the slot, which the calls between the two leave unchanged.
-- Both ended well. An `open` of the lane asked for the file's grant, not to append.
pub record WritesAndFlushes (lanes : List Lane) (s : Setting) (past : List Entry) (outcomes : List (List Outcome))
    (lane k : ℕ) (bytes : List ℕ) : Type 0 where
  pub slot : ℕ
  pub some : 0 < length bytes
  pub writes : call_in lanes lane k ≡ Some (call.BufWriteAll slot bytes)
  pub flusher : ℕ
  pub later : k < flusher
  pub flushes : call_in lanes lane flusher ≡ Some (call.BufFlush slot)
  pub between : list_all (leaves_slot slot) (drop (suc k) (take flusher (calls_in lanes lane))) ≡ true
  pub written : outcome_in outcomes lane k ≡ Some outcome.Done
  pub flushed : outcome_in outcomes lane flusher ≡ Some outcome.Done
  pub file : FileAt
  pub buffer : Buffer
  pub there : slot_at (site_at s past lane k) slot ≡ Buffered file buffer
  pub handle : List ℕ
  pub came : answer past file.grant ≡ Some (reply.Handle handle)
  pub opener : ℕ
  pub into : ℕ
  pub options : OpenOptions
  pub path : List ℕ
  pub opens : call_in lanes lane opener ≡ Some (call.OpenFile into options path)
  pub asked_by : is_of_call past (lane, opener) file.grant ≡ true
  pub plain : options.append ≡ false

-- The effect of the requests of such a call, of which there is at least one. When the first of them came, the handle
-- had a file open to write, and not to append. If no other request changes this file up to the last of them, the bytes
-- were put into it at an offset.
pub record PutsInto (config : ServerConfig) (first : FileTree) (past : List Entry) (steps : List Step) (lane k : ℕ)
    (handle : List ℕ) (offset : ℕ) (bytes : List ℕ) : Type 0 where
  pub w : ℕ × Request
  pub written : Own
  pub asks : own past lane k ≡ w ∷ written
  pub held : Held
  pub is_open : opened_at (tree_at config first steps w.0) handle ≡ Some (opened.File held)
  pub way : ToWrite held
  pub puts : (others : OthersLeave config first past steps (lane, k) w written held.file)
      → ArePut config first past steps lane k handle
      (record { w = w; written = written; asks = asks; held = held; is_open = is_open; way = way; others = others })
      offset bytes

-- The effect of such writes in a whole run. If no other request changes the file from the first of the call's WRITEs to
-- the last, the bytes were put into it at the file's offset.
abbrev pub FlushesWrites : List Lane → ServerConfig → List Choice → FileTree → Setting → List Entry → FileTree
    → List (List Outcome) → Type 0
FlushesWrites lanes config choices tree s past left outcomes =
    (lane k : ℕ) (bytes : List ℕ) (f : WritesAndFlushes lanes s past outcomes lane k bytes)
    (run : RunOf config choices tree past left)
    → PutsInto config tree past run.steps lane k f.handle f.file.offset bytes
