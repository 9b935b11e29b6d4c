-- believed: passes_length
-- Lanes that write and read files as a whole, by their calls and the outcomes of these.
use Rattle.std.specs.Prelude.{◌≡◌, ◌≢◌, ◌<◌, ℕ, Bool, true, false, List, Option, Some, slice_get}
use Rattle.std.specs.List.{list_all}
use Rattle.sftp_model.specs.declared.outcome.Outcome.{Outcome}
use Rattle.sftp_model.specs.declared.outcome.Outcome.TheVariants as outcome
use Rattle.machine_model.specs.Components.{Name, components}
use Rattle.plan_model.specs.FilePlans.{open_request}
use Rattle.sftp_model.specs.Frames.{is_too_long}
use Rattle.plan_model.specs.WindowPlans.{to_read}
use Rattle.plan_model.specs.declared.call.Call.{Call}
use Rattle.plan_model.specs.declared.call.Call.TheVariants as call
use Rattle.session_model.specs.declared.entry.Entry.{Entry}
use Rattle.session_model.specs.Calls.{Setting, call_at, lane_calls}
use Rattle.session_model.specs.Readings.{outcomes_of}
use Rattle.run_laws.specs.InJournals.{KeepsOff}
use Rattle.run_laws.specs.NameCalls.{may_own}

-- ---- Calls

-- The call writes the name's file as a whole.
abbrev pub WritesWhole : Name → Call → Type 0
WritesWhole name (call.FsWrite path bytes) = components path ≡ name
WritesWhole name other = ⊥

-- True if the OPEN of a whole read of this path is too long for a frame.
abbrev pub passes_length : List ℕ → Bool
passes_length path = is_too_long (open_request to_read path)

-- ---- Outcomes

-- The reported outcome of a call, by its lane and number.
abbrev pub outcome_at : List Entry → ℕ → ℕ → Option Outcome
outcome_at past lane k = slice_get (outcomes_of past lane) k

-- ---- Lanes

-- A name that belongs to one lane: its calls write and read files as a whole, or keep off the name on paths, and all
-- other lanes keep off the name.
pub record IsOneLanes (s : Setting) (past : List Entry) (name : Name) (lane : ℕ) : Type 0 where
  pub own : list_all (may_own name) (lane_calls s past lane) ≡ true
  pub others : (other : ℕ) → other ≢ lane → KeepsOff past name other

-- A call of a lane read the name's file as a whole, by a path that fits a frame, and ended with this outcome without
-- being cancelled.
pub record HasRead (s : Setting) (past : List Entry) (name : Name) (lane reader : ℕ) (ended : Outcome) : Type 0 where
  pub path : List ℕ
  pub bound : ℕ
  pub is : call_at s past lane reader ≡ Some (call.FsRead path bound)
  pub denotes : components path ≡ name
  pub short : passes_length path ≡ false
  pub ends : outcome_at past lane reader ≡ Some ended
  pub uncancelled : ended ≢ outcome.Cancelled

-- A call of a lane read the name's file as a whole, and returned these bytes.
pub record HasGot (s : Setting) (past : List Entry) (name : Name) (lane reader : ℕ) (got : List ℕ) : Type 0 where
  pub path : List ℕ
  pub bound : ℕ
  pub is : call_at s past lane reader ≡ Some (call.FsRead path bound)
  pub denotes : components path ≡ name
  pub ends : outcome_at past lane reader ≡ Some (outcome.Bytes got)

-- A call of a lane wrote the name's file as a whole and ended well, and it is the lane's last that wrote it before a
-- later call.
pub record HasWritten (s : Setting) (past : List Entry) (name : Name) (lane writer reader : ℕ) (bytes : List ℕ) : Type 0
  where
    pub path : List ℕ
    pub is : call_at s past lane writer ≡ Some (call.FsWrite path bytes)
    pub denotes : components path ≡ name
    pub ends : outcome_at past lane writer ≡ Some outcome.Done
    pub earlier : writer < reader
    pub last : (k : ℕ) (c : Call) → writer < k → k < reader → call_at s past lane k ≡ Some c → WritesWhole name c → ⊥

-- No call of a lane before this one writes the name's file as a whole.
abbrev pub NoneWrites : Setting → List Entry → Name → ℕ → ℕ → Type 0
NoneWrites s past name lane reader = (k : ℕ) (c : Call) → k < reader → call_at s past lane k ≡ Some c
    → WritesWhole name c → ⊥
