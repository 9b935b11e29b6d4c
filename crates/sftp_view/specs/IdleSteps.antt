-- A step of an idle lane, which does nothing, and the facts about the lanes that it shows.
use Rattle.std.specs.Prelude.{◌≡◌, ◌++◌, ℕ, None, length, slice_get}
use Rattle.session_model.specs.Calls.{calls_added_to, calls_of}
use Rattle.session_model.specs.Grants.{next_due}
use Rattle.session_driver.specs.Session.{StaysInPhase}
use Rattle.session_work.specs.Working.{past_of}
use Rattle.sftp_lanes.specs.Seen.{SessionValue, seen_of, setting_at}

-- Nothing has happened. The calls of each lane are those that were handed in, followed by those that were added. No
-- grant is to be closed.
pub record StepsIdly (old new : SessionValue) : Type 0 where
  pub stays : StaysInPhase (seen_of old) (seen_of new)
  pub same : (seen_of new).progress ≡ (seen_of old).progress
  pub count : length new.work.calls ≡ length new.lanes
  pub each : (lane : ℕ) → calls_of (slice_get new.work.calls lane)
      ≡ calls_of (slice_get new.lanes lane) ++ calls_added_to (past_of new.work) lane
  pub settled : next_due (setting_at old) (past_of new.work) ≡ None
