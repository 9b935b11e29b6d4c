-- Calls that wrote or read a file as a whole, in journals that a file machine serves whose choices refuse nothing.
use Rattle.std.specs.Prelude.{◌≡◌, ◌≤◌, ℕ, List}
use Rattle.sftp_model.specs.declared.config.Choice.{Choice}
use Rattle.sftp_model.specs.declared.config.ServerConfig.{ServerConfig}
use Rattle.sftp_model.specs.declared.outcome.Outcome.{Outcome}
use Rattle.sftp_model.specs.declared.outcome.Outcome.TheVariants as outcome
use Rattle.sftp_model.specs.declared.slot.Facts.{Facts}
use Rattle.sftp_model.specs.declared.slot.Site.{Site}
use Rattle.machine_model.specs.Changes.{IsWellFormed}
use Rattle.machine_model.specs.Components.{Name, components}
use Rattle.machine_model.specs.FileTree.{FileTree}
use Rattle.plan_model.specs.declared.call.Call.TheVariants as call
use Rattle.plan_model.specs.Moves.{Own}
use Rattle.plan_model.specs.PathPlans.{from_directory}
use Rattle.session_model.specs.declared.entry.Entry.{Entry}
use Rattle.session_model.specs.Readings.{answer}
use Rattle.session_model.specs.Served.{ServesJournal}
use Rattle.run_laws.specs.CallsAmong.{HasEnded}
use Rattle.run_laws.specs.Steps.{RefuseNone}

-- A file machine whose choices refuse nothing serves the journal, from a well-formed tree to a tree.
pub record ServesUnrefused (config : ServerConfig) (choices : List Choice) (first : FileTree) (past : List Entry)
    (now : FileTree) : Type 0 where
  pub served : ServesJournal config choices first past now
  pub unrefused : RefuseNone choices
  pub well_formed : IsWellFormed first

-- A call with these requests wrote the name's file as a whole, with these bytes, and ended well.
pub record IsWholeWrite (past : List Entry) (name : Name) (own : Own) (bytes : List ℕ) : Type 0 where
  pub path : List ℕ
  pub site : Site
  pub facts : Facts
  pub denotes : components (from_directory site path) ≡ name
  pub ended_well : HasEnded (call.FsWrite path bytes) site facts own (answer past) outcome.Done

-- A call with these requests read the name's file as a whole, by READs of at least one byte, and ended with this
-- outcome.
pub record IsWholeRead (past : List Entry) (name : Name) (own : Own) (ended : Outcome) : Type 0 where
  pub path : List ℕ
  pub bound : ℕ
  pub site : Site
  pub facts : Facts
  pub denotes : components (from_directory site path) ≡ name
  pub some : 1 ≤ facts.read_len
  pub ended_so : HasEnded (call.FsRead path bound) site facts own (answer past) ended
