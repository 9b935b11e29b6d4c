-- A file as its user sees it, and as the one slot of a lane.
use Rattle.std.specs.Prelude.{◌≡◌, ℕ, Bool, [], ◌∷◌, max, min, Option, Some, None, Result, IfOk}
use Rattle.sftp_model.specs.declared.error.Error.{Error}
use Rattle.sftp_model.specs.declared.outcome.Outcome.TheVariants as outcome
use Rattle.sftp_model.specs.declared.options.SftpOptions.{SftpOptions}
use Rattle.sftp_model.specs.declared.slot.Facts.{Facts}
use Rattle.sftp_model.specs.declared.slot.FileAt.{FileAt}
use Rattle.sftp_model.specs.declared.slot.Move.TheVariants.{Done}
use Rattle.sftp_model.specs.declared.slot.Site.{Site}
use Rattle.sftp_model.specs.declared.slot.Slot.TheVariants as slots
use Rattle.sftp_model.specs.Slots.{slot_at}
use Rattle.plan_model.specs.Moves.{Answers, Plan, handle_of}
use Rattle.sftp_core.specs.Core.{Core}
use Rattle.sftp_core.specs.Grant.{GrantValue}
use Rattle.sftp_core.specs.Info.{info_of}
use Rattle.sftp_core.specs.declared.info.Info.{Info}
use Rattle.plan_state.specs.Calls.{CallValue, IsUnderWay, StartsByPlan}
use Rattle.plan_state.specs.Keeping.{KeepsHeld}
use Rattle.plan_state.specs.Runners.{Meaning}

-- A file: its grant, its rights, and its offset in bytes.
pub record FileValue : Type 0 where
  pub grant : GrantValue
  pub readable : Bool
  pub writable : Bool
  pub offset : ℕ

-- ---- Files in plans

-- The file in a plan, if the OPEN at this place brought its handle.
abbrev pub file_in : ℕ → FileValue → FileAt
file_in place f = record { grant = place; readable = f.readable; writable = f.writable; offset = f.offset }

-- The lane's slot holds the file, and the HANDLE taken at this place is the file's.
pub record IsInSlot (f : FileValue) (slot place : ℕ) (site : Site) (answers : Answers) : Type 0 where
  pub held : slot_at site slot ≡ slots.File (file_in place f)
  pub handle : handle_of (answers place) ≡ f.grant.handle

-- ---- Alone in a lane, if the OPEN at place 0 brought its handle

abbrev pub file_at : FileValue → FileAt
file_at f = file_in 0 f

-- A lane whose one slot holds this file.
abbrev pub one_slot : FileAt → Site
one_slot file = record { slots = slots.File file ∷ []; directory = [] }

abbrev pub alone : FileValue → Site
alone f = one_slot (file_at f)

-- True if the HANDLE taken at place 0 is the file's.
abbrev pub IsHandleOfFile : FileValue → Answers → Type 0
IsHandleOfFile f answers = handle_of (answers 0) ≡ f.grant.handle

-- The facts that plans use, from what the server reported.
abbrev pub facts_in : SftpOptions → Option Info → Facts
facts_in options None =
    record {
      extensions = record { 0 = 0 };
      read_len = 0;
      write_len = 0;
      write_limit = max 1 options.tokio_compat_file_write_limit;
      read_window = min 64 (max 1 options.read_window);
    }
facts_in options (Some info) =
    record {
      extensions = info.extensions;
      read_len = info.read_len;
      write_len = info.write_len;
      write_limit = max 1 options.tokio_compat_file_write_limit;
      read_window = min 64 (max 1 options.read_window);
    }

abbrev pub facts_of : Core → Facts
facts_of core = facts_in core.options (info_of core.phase)

-- ---- Starts on a file

-- The plan of a file's call, alone in a lane.
abbrev pub FilePlan : Type 0
FilePlan = Site → Facts → Plan

-- A start made the first move of its call's plan on the file, for any replies to come. The call that it returned may be
-- polled or given up, and the core holds what it held.
pub record StartsOnFile {W M V : Type 0} (s : Meaning W M V) (w : W) (plan : FilePlan) (f : FileValue) (old new : Core)
    (result : Result (CallValue M) Error) : Type 0 where
  pub starts : (answers : Answers) → IsHandleOfFile f answers
      → StartsByPlan s w (λ e. Done (outcome.Refused e) (alone f)) (plan (alone f) (facts_of old)) answers old new
      result
  pub under_way : IfOk result (IsUnderWay s new)
  pub keeps : KeepsHeld old new

-- ---- Polls on a file

-- The file is at the offset that the call has reached; nothing else of it changed.
pub record IsMoved (old new : FileValue) (file : FileAt) : Type 0 where
  pub stands : file ≡ file_at new
  pub rest : new ≡ record old { offset = new.offset }
