-- Calls that are added to a lane of an open session, and run to their end.
use Rattle.std.specs.Prelude.{◌≡◌, ◌⊎◌, ◌<◌, ℕ, true, false, List, [], ◌∷◌, ◌++◌, length, slice_get, slice_set}
use Rattle.plan_model.specs.declared.call.Call.{Call}
use Rattle.plan_model.specs.declared.call.Lane.{Lane}
use Rattle.session_model.specs.declared.entry.Entry.TheVariants as entry
use Rattle.plan_model.specs.Lanes.{are_ok}
use Rattle.session_model.specs.Calls.{calls_of}
use Rattle.session_model.specs.Readings.{was_let_go}
use Rattle.session_model.specs.Turns.{RunProgress}
use Rattle.session_driver.specs.declared.session.Phase.TheVariants.{Open}
use Rattle.session_driver.specs.Ongoing.{EndsLane, Part}
use Rattle.session_driver.specs.RunsSoFar.{RoundsSoFar}
use Rattle.session_driver.specs.Session.{ContinuesJournal, SessionView}

-- The lanes after the call was added as the last of its lane.
abbrev pub with_call : List Lane → ℕ → Call → List Lane
with_call lanes lane call = slice_set lanes lane (record { calls = calls_of (slice_get lanes lane) ++ call ∷ [] })

-- A call may be added: the session is open, the lane exists and was not released, and the lanes are valid with the
-- call.
pub record MayAdd (lane : ℕ) (call : Call) (seen : SessionView) (calls : List Lane) : Type 0 where
  pub opened : seen.phase ≡ Open
  pub there : lane < length calls
  pub held : was_let_go seen.progress.past lane ≡ false
  pub ok : are_ok (with_call calls lane call) ≡ true

-- The call's entry is the newest of the journal.
abbrev pub added_to : RunProgress → ℕ → Call → RunProgress
added_to before lane call = record { past = entry.Added lane call ∷ before.past; begun = before.begun }

-- The call was added, and nothing else has changed.
pub record AddsTo (lane : ℕ) (call : Call) (before now : SessionView) : Type 0 where
  pub goes : ContinuesJournal before now
  pub is : now.progress ≡ added_to before.progress lane call

-- A call is added to a lane, followed by rounds of the lane until it has no call left.
abbrev pub call_of : ℕ → Call → Part
call_of lane call =
    record {
      whole = λ s before now. EndsLane s lane (added_to before lane call) now;
      so_far = λ s before past. (past ≡ before.past) ⊎ RoundsSoFar s lane (added_to before lane call) past;
    }
