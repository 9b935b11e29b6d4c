-- Calls that create a directory or read or write a file as a whole, and runs of only such calls.
use Rattle.std.specs.Prelude.{◌≡◌, ℕ, Bool, true, false, List}
use Rattle.std.specs.List.{list_all}
use Rattle.sftp_model.specs.declared.config.Choice.{Choice}
use Rattle.sftp_model.specs.declared.config.ServerConfig.{ServerConfig}
use Rattle.sftp_model.specs.declared.outcome.Outcome.{Outcome}
use Rattle.sftp_model.specs.declared.outcome.Outcome.TheVariants as outcome
use Rattle.machine_model.specs.Changes.{IsWellFormed}
use Rattle.machine_model.specs.FileTree.{FileTree}
use Rattle.plan_model.specs.declared.call.Call.{Call}
use Rattle.plan_model.specs.declared.call.Call.TheVariants as call
use Rattle.session_model.specs.declared.entry.Entry.{Entry}
use Rattle.session_model.specs.declared.turn.Turn.{Turn}
use Rattle.session_model.specs.declared.turn.Turn.TheVariants as turn
use Rattle.session_model.specs.Calls.{Setting}
use Rattle.session_model.specs.Runs.{IsRun}
use Rattle.session_model.specs.Served.{ServesJournal}
use Rattle.run_laws.specs.ReadsBack.{calls_in}

-- True if the turn cancels no call.
abbrev pub is_calm : Turn → Bool
is_calm (turn.Cancel lane) = false
is_calm other = true

-- True for a call that creates a directory or writes or reads a file as a whole.
abbrev pub is_plain_call : Call → Bool
is_plain_call (call.Mkdir path) = true
is_plain_call (call.FsWrite path bytes) = true
is_plain_call (call.FsRead path bound) = true
is_plain_call other = false

-- True if such a call may have the outcome.
abbrev pub may_end : Call → Outcome → Bool
may_end (call.FsRead path bound) (outcome.Bytes bytes) = true
may_end (call.FsRead path bound) outcome.GivenUp = true
may_end (call.FsRead path bound) (outcome.Refused why) = true
may_end (call.FsRead path bound) other = false
may_end c outcome.Done = true
may_end c (outcome.Refused why) = true
may_end c other = false

-- A whole run of plain calls, under turns that cancel none.
pub record IsPlainRun (s : Setting) (turns : List Turn) (past : List Entry) : Type 0 where
  pub run : IsRun s turns past
  pub calm : list_all is_calm turns ≡ true
  pub plain : (lane : ℕ) → list_all is_plain_call (calls_in s.lanes lane) ≡ true

-- The run is served by a file machine, from a tree to a tree.
pub record IsServedPlainly (s : Setting) (turns : List Turn) (past : List Entry) (config : ServerConfig)
    (choices : List Choice) (tree left : FileTree) : Type 0 where
  pub plain : IsPlainRun s turns past
  pub serves : ServesJournal config choices tree past left
  pub well : IsWellFormed tree
