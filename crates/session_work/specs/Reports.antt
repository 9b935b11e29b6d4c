-- believed: LaneReports, reports_of
-- Records that a session keeps of each lane for its report.
use Rattle.std.specs.Prelude.{◌≡◌, ℕ, Bool, false, List, [], ◌∷◌, ◌++◌, slice_index_or, slice_set}
use Rattle.sftp_model.specs.declared.outcome.Outcome.{Outcome}
use Rattle.session_model.specs.declared.event.Event.TheVariants.{End}
use Rattle.session_model.specs.declared.entry.Entry.{Entry}
use Rattle.session_model.specs.declared.entry.Entry.TheVariants as entry
use Rattle.session_model.specs.Readings.{outcomes_of, was_let_go}
use Rattle.session_work.specs.declared.lane.Moved.{Moved}
use Rattle.session_work.specs.declared.lane.Moved.TheVariants as moved
use Rattle.session_work.specs.declared.lanes.Lanes.{Lanes}
use Rattle.session_work.specs.Working.{past_of}

-- The report of a lane: the outcomes of its ended calls, in their order, and whether it was released.
pub record LaneReport : Type 0 where
  pub outcomes : List Outcome
  pub let_go : Bool

-- The report of a lane according to the journal.
abbrev pub lane_report : List Entry → ℕ → LaneReport
lane_report past lane = record { outcomes = outcomes_of past lane; let_go = was_let_go past lane }

-- The records for the reports of all lanes: of each its outcomes, and whether it was released.
pub record LaneReports : Type 0 where
  pub outcomes : List (List Outcome)
  pub let_go : List Bool

-- The report of a lane according to these records; one that doesn't exist has no outcome, and was not released.
abbrev pub report_in : LaneReports → ℕ → LaneReport
report_in kept lane = record {
  outcomes = slice_index_or kept.outcomes lane [];
  let_go =
      slice_index_or kept.let_go lane false;
}

-- The records of the lanes of a session.
abbrev pub reports_of : Lanes → LaneReports
reports_of w = record { outcomes = w.outcomes; let_go = w.gone }

-- The record of each lane agrees with the journal.
abbrev pub AreReports : LaneReports → List Entry → Type 0
AreReports kept past = (lane : ℕ) → report_in kept lane ≡ lane_report past lane

-- ---- Changes by a turn

-- These lists, with the outcome as the last one in the list of its lane, if that lane has one.
abbrev pub with_outcome : List (List Outcome) → ℕ → Outcome → List (List Outcome)
with_outcome lists lane o = slice_set lists lane (slice_index_or lists lane [] ++ o ∷ [])

-- These lists after a lane had this turn: with the outcome of its call, if it has ended.
abbrev pub with_moved : List (List Outcome) → ℕ → Moved → List (List Outcome)
with_moved lists lane (moved.Ended o) = with_outcome lists lane o
with_moved lists lane other = lists

-- The journal after a lane had this turn: with the end of its call, if it has ended.
abbrev pub ended_past : ℕ → ℕ → Moved → List Entry → List Entry
ended_past lane call (moved.Ended o) past = entry.Event (End lane call o) ∷ past
ended_past lane call other past = past

-- ---- Changes by a call

-- The records are as before, and the journal gives the same reports as this one did.
pub record HasReports (told : List Entry) (old new : Lanes) : Type 0 where
  pub kept : reports_of new ≡ reports_of old
  pub past : (lane : ℕ) → lane_report (past_of new) lane ≡ lane_report told lane

-- No call has ended, and no lane was released.
abbrev pub LeavesReports : Lanes → Lanes → Type 0
LeavesReports old new = HasReports (past_of old) old new
