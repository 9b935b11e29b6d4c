-- Lanes that have done nothing.
use Rattle.std.specs.Prelude.{◌≡◌, ℕ, List, [], length, Some, slice_get}
use Rattle.sftp_core.specs.Core.{fresh}
use Rattle.sftp_model.specs.declared.options.SftpOptions.{SftpOptions}
use Rattle.plan_model.specs.declared.call.Lane.{Lane}
use Rattle.session_model.specs.Readings.{count_submitted}
use Rattle.session_laws.specs.Changes.{fresh_lane}
use Rattle.session_laws.specs.Lanes.{LaneValue}
use Rattle.session_work.specs.declared.lanes.Lanes.{Lanes}
use Rattle.session_work.specs.SoFar.{IsIntact}
use Rattle.session_work.specs.Working.{past_of}

abbrev pub AreFresh : List LaneValue → Type 0
AreFresh states = (lane : ℕ) (v : LaneValue) → slice_get states lane ≡ Some v → v ≡ fresh_lane

-- No lane has done anything.
pub record IsUntouched (lanes : List Lane) (w : Lanes) : Type 0 where
  pub asked : w.asked ≡ count_submitted (past_of w)
  pub count : length w.states.items ≡ length lanes
  pub each : AreFresh w.states.items

-- Lanes that have done nothing, with a core whose queue has the hello.
pub record IsMade (lanes : List Lane) (options : SftpOptions) (w : Lanes) : Type 0 where
  pub calls : w.calls ≡ lanes
  pub core : w.core ≡ fresh options
  pub past : past_of w ≡ []
  pub untouched : IsUntouched lanes w
  pub intact : IsIntact (length lanes) w
