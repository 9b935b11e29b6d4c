-- The end of a session of one lane.
use Rattle.std.specs.Prelude.{◌≡◌, Result, OnOk}
use Rattle.sftp_model.specs.declared.error.Error.{Error}
use Rattle.session_model.specs.Calls.{calls_added_to}
use Rattle.session_model.specs.Journals.{IsJournal, IsOver}
use Rattle.session_model.specs.Readings.{outcomes_of}
use Rattle.session_driver.specs.Ongoing.{RunState, RunsPart}
use Rattle.view_model.specs.Uncancelled.{IsUncancelled}
use Rattle.sftp_view.specs.Doings.{going_on}

-- The session is over. No call was added, has ended or was cancelled since.
pub record IsClosed {Service : Type 0} (before now : RunState Service) : Type 0 where
  pub run : IsJournal now.seen.setting now.seen.progress.past
  pub over : IsOver now.seen.setting now.seen.progress.past
  pub adds : calls_added_to now.seen.progress.past 0 ≡ calls_added_to before.seen.progress.past 0
  pub ends : outcomes_of now.seen.progress.past 0 ≡ outcomes_of before.seen.progress.past 0
  pub uncancelled : IsUncancelled before.seen.progress.past → IsUncancelled now.seen.progress.past

-- A session was ended, or it stopped.
pub record ClosesOrStops {Service : Type 0} (before now : RunState Service) (result : Result (Unit {0}) Error) : Type 0
  where
    pub ongoing : RunsPart going_on before now result
    pub closed : OnOk result (IsClosed before now)
