-- believed: kept_in, refused_past, IsLeft
-- The journal of a session in every phase, also after it has failed.
use Rattle.std.specs.Prelude.{
  ◌≡◌,
  ◌<◌,
  ◌≤◌,
  ◌+◌,
  ℕ,
  List,
  [],
  ◌∷◌,
  Option,
  Some,
  None,
  Result,
  length,
  vec_len,
  vec_capacity,
}
use Rattle.sftp_model.specs.declared.error.Fault.{Fault}
use Rattle.sftp_model.specs.declared.frame_error.FrameError.{FrameError}
use Rattle.sftp_model.specs.declared.reply.Reply.{Reply}
use Rattle.sftp_core.specs.declared.errors.TakeError.{TakeError}
use Rattle.sftp_core.specs.declared.tokens.Taken.{Taken}
use Rattle.sftp_core.specs.Take.{IsFirst, IsTakeError, TakenFrom, fault_of, take_refusal}
use Rattle.session_model.specs.declared.entry.Entry.{Entry}
use Rattle.session_model.specs.declared.entry.Entry.TheVariants as entry
use Rattle.session_model.specs.Calls.{Setting}
use Rattle.session_model.specs.Journals.{IsJournal, IsNext}
use Rattle.session_driver.specs.Refusals.{refuses}
use Rattle.session_work.specs.declared.lanes.Lanes.{Lanes}
use Rattle.session_work.specs.Reports.{AreReports, reports_of}
use Rattle.session_work.specs.Working.{past_of}

-- The fault that a journal records.
abbrev pub kept_in : List Entry → Option Fault
kept_in [] = None
kept_in (entry.Kept fault ∷ past) = Some fault
kept_in (_ ∷ past) = kept_in past

-- The journal after a fault came: it has another entry if none was recorded.
abbrev pub kept_past : Option Fault → Fault → List Entry → List Entry
kept_past None fault past = entry.Kept fault ∷ past
kept_past (Some first) fault past = past

-- The journal after a frame was refused: it has the fault that the refusal leaves, if it leaves one.
abbrev pub refused_past : Option Fault → List Entry → List Entry
refused_past None past = past
refused_past (Some fault) past = entry.Kept fault ∷ past

-- The journal is a run so far. It has the recorded fault, and if none is recorded a fault may come next.
pub record IsSoFar (s : Setting) (fault : Option Fault) (past : List Entry) : Type 0 where
  pub run : IsJournal s past
  pub kept : fault ≡ kept_in past
  pub next : fault ≡ None → (first : Fault) → IsNext s past (entry.Kept first)

-- There is room for the entry of a fault, if none is recorded.
abbrev pub HasRoom : Lanes → Type 0
HasRoom w = w.core.fault ≡ None → vec_len w.journal < vec_capacity w.journal

-- The journal is one entry longer, and has the room that it had.
pub record HasOneMore (old new : Lanes) : Type 0 where
  pub len : vec_len new.journal ≡ vec_len old.journal + 1
  pub capacity : vec_capacity old.journal ≤ vec_capacity new.journal

-- This many lanes are intact: there is room for the entry of a fault, and the record of each lane for its report agrees
-- with the journal.
pub record IsIntact (n : ℕ) (w : Lanes) : Type 0 where
  pub room : HasRoom w
  pub lists : length w.outcomes ≡ n
  pub marks : length w.gone ≡ n
  pub reports : AreReports (reports_of w) (past_of w)

-- Under any setting under which the journal was a run so far, it is one now.
abbrev pub StaysSoFar : Lanes → Lanes → Type 0
StaysSoFar old new = (s : Setting) → IsSoFar s old.core.fault (past_of old) → IsSoFar s new.core.fault (past_of new)

-- The effect of a call if an allocation failed: the calls, the journal, the recorded fault and the records for the
-- report are as before.
pub record IsLeft (old new : Lanes) : Type 0 where
  pub past : past_of new ≡ past_of old
  pub fault : new.core.fault ≡ old.core.fault
  pub reports : reports_of new ≡ reports_of old
  pub calls : new.calls ≡ old.calls

-- A frame was taken into the core, and nothing was recorded: there is room for two entries and that of a fault.
pub record TakesFrame (body_reads : Result (Option ℕ × Reply) FrameError) (told : Taken) (old new : Lanes) : Type 0
  where
    pub taken : TakenFrom body_reads told old.core new.core
    pub only : take_refusal old.core body_reads ≡ None
    pub journal : new.journal.items ≡ old.journal.items
    pub entries : vec_len new.journal + 3 ≤ vec_capacity new.journal

-- A frame was refused by the first thing that is wrong with it, whose fault is kept and recorded in the journal, or
-- because an allocation failed.
pub record RefusesFrame (body_reads : Result (Option ℕ × Reply) FrameError) (e : TakeError) (old new : Lanes) : Type 0
  where
    pub error : IsTakeError e (take_refusal old.core body_reads) old.core new.core
    pub noted : past_of new ≡ refused_past (fault_of e) (past_of old)

-- The effect of a refused frame on the lanes of an open session. The refusal is the first thing that is wrong with the
-- frame by the journal, or an allocation failed. The fault that it leaves is the newest entry, and the calls are as
-- before.
pub record RefusesWhileOpen (body_reads : Result (Option ℕ × Reply) FrameError) (e : TakeError) (old new : Lanes) : Type
    0 where
  pub first : IsFirst e (refuses (past_of old) body_reads)
  pub stays : StaysSoFar old new
  pub noted : past_of new ≡ refused_past (fault_of e) (past_of old)
  pub calls : new.calls ≡ old.calls
