-- Calls that are added to a lane.
use Rattle.std.specs.Prelude.{◌≡◌, ℕ, ◌∷◌}
use Rattle.plan_model.specs.declared.call.Call.{Call}
use Rattle.session_model.specs.declared.entry.Entry.TheVariants as entry
use Rattle.session_model.specs.Calls.{Setting}
use Rattle.session_model.specs.Journals.{IsNext}
use Rattle.session_driver.specs.Adding.{with_call}
use Rattle.session_driver.specs.Session.{IsLater}
use Rattle.session_work.specs.Working.{LanesValue, IsAtRestOpen}

-- The call is the last of its lane, and its entry the newest.
abbrev pub added_in : LanesValue → ℕ → Call → LanesValue
added_in c lane call = record c { calls = with_call c.calls lane call; past = entry.Added lane call ∷ c.past }

-- The call was added to the lanes of an open session, and nothing else has changed.
pub record AddsIn (s : Setting) (lane : ℕ) (call : Call) (old new : LanesValue) : Type 0 where
  pub is : new ≡ added_in old lane call
  pub next : IsNext s old.past (entry.Added lane call)
  pub later : IsLater s old.past new.past
  pub working : IsAtRestOpen s new
