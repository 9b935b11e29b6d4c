-- One call of a lane that was added and has ended.
use Rattle.std.specs.Prelude.{◌≡◌, ℕ, List, [], ◌∷◌, ◌++◌}
use Rattle.sftp_model.specs.declared.outcome.Outcome.{Outcome}
use Rattle.plan_model.specs.declared.call.Call.{Call}
use Rattle.session_model.specs.declared.entry.Entry.{Entry}
use Rattle.session_model.specs.Calls.{calls_added_to}
use Rattle.session_model.specs.Readings.{outcomes_of, was_let_go}
use Rattle.view_model.specs.Uncancelled.{IsUncancelled}

-- The lane has this call and its outcome in addition. No lane was released, and no call was cancelled.
pub record HasEndedOnce (lane : ℕ) (c : Call) (before now : List Entry) : Type 0 where
  pub outcome : Outcome
  pub outcomes : outcomes_of now lane ≡ outcomes_of before lane ++ outcome ∷ []
  pub calls : calls_added_to now lane ≡ calls_added_to before lane ++ c ∷ []
  pub held : (lane : ℕ) → was_let_go now lane ≡ was_let_go before lane
  pub uncancelled : IsUncancelled before → IsUncancelled now
