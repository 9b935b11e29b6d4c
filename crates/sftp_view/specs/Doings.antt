-- believed: one_lane
-- The effect of a session of one lane through calls that are added to it one at a time.
use Rattle.std.specs.Prelude.{◌≡◌, ℕ, false, List, [], ◌∷◌, ◌++◌, None, Result, Ok, Err, IfOk, OnOk}
use Rattle.sftp_model.specs.declared.error.Error.{Error}
use Rattle.sftp_model.specs.declared.outcome.Outcome.{Outcome}
use Rattle.plan_model.specs.declared.call.Call.{Call}
use Rattle.plan_model.specs.declared.call.Lane.{Lane}
use Rattle.session_model.specs.declared.entry.Entry.{Entry}
use Rattle.session_model.specs.Calls.{calls_added_to, current}
use Rattle.session_model.specs.Journals.{IsJournal}
use Rattle.session_model.specs.Readings.{outcomes_of, was_let_go}
use Rattle.session_driver.specs.Ongoing.{RunState, IsReady, RunsPart, Part}
use Rattle.view_model.specs.Calls.{AreFew, call_limit}
use Rattle.view_model.specs.Uncancelled.{IsUncancelled}
use Rattle.view_model.specs.Viewed.{ComesTo, Doing}

-- The lane, which has only the calls that are added.
abbrev pub one_lane : List Lane
one_lane = record { calls = [] } ∷ []

-- An open session of this lane, which has no call left and was not released.
pub record IsIdle {Service : Type 0} (x : RunState Service) : Type 0 where
  pub ready : IsReady x
  pub lanes : x.seen.setting.lanes ≡ one_lane
  pub run : IsJournal x.seen.setting x.seen.progress.past
  pub done : current x.seen.setting x.seen.progress.past 0 ≡ None
  pub held : (lane : ℕ) → was_let_go x.seen.progress.past lane ≡ false

-- For all outcomes of the calls that this makes, these calls and those made before are few.
pub record MayDo {T : Type 0} (whole : Doing T) (past : List Entry) : Type 0 where
  pub few : (outcomes : List Outcome) → AreFew call_limit (calls_added_to past 0 ++ (whole outcomes).calls)

-- Calls of this were made since, none was cancelled, and the rest remains to be done.
pub record DoesCalls {T : Type 0} (whole rest : Doing T) (before now : List Entry) : Type 0 where
  pub made : List Call
  pub came : List Outcome
  pub comes : ComesTo whole rest made came
  pub calls : calls_added_to now 0 ≡ calls_added_to before 0 ++ made
  pub outcomes : outcomes_of now 0 ≡ outcomes_of before 0 ++ came
  pub uncancelled : IsUncancelled before → IsUncancelled now

-- Any part of a run.
abbrev pub going_on : Part
going_on = record { whole = λ s before now. Unit {0}; so_far = λ s before past. Unit {0} }

-- The end of a result, without its value.
abbrev pub end_of : {T : Type 0} → Result T Error → Result (Unit {0}) Error
end_of (Ok x) = Ok tt
end_of (Err e) = Err e

-- An idle session did this up to the rest that remains, and is idle again; or it stopped.
pub record DoesBySession {Service T U : Type 0} (whole : Doing T) (rest : U → Doing T) (before now : RunState Service)
    (result : Result U Error) : Type 0 where
  pub ongoing : RunsPart going_on before now (end_of result)
  pub idle : OnOk result (IsIdle now)
  pub does : IfOk result (λ u. DoesCalls whole (rest u) before.seen.progress.past now.seen.progress.past)
