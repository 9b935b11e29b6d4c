-- believed: is_handed_in, IsEnded
-- The end of a run: all that was passed in was done, and nothing more.
use Rattle.std.specs.Prelude.{◌≡◌, ◌<◌, ℕ, Bool, true, false, List}
use Rattle.std.specs.List.{list_all}
use Rattle.session_model.specs.declared.entry.Entry.{Entry}
use Rattle.session_model.specs.declared.entry.Entry.TheVariants as entry
use Rattle.session_model.specs.declared.event.Event.TheVariants.{Submit, Take, Cancel}
use Rattle.session_model.specs.Closes.{AreClosed}
use Rattle.session_model.specs.Readings.{count_unanswered, was_let_go}

-- True if the entry adds no call and cancels none.
abbrev pub is_handed_in : Entry → Bool
is_handed_in (entry.Added lane call) = false
is_handed_in (entry.Event (Cancel lane)) = false
is_handed_in other = true

-- Tests for an entry in which a request is submitted, its reply is taken, or a lane is released.
abbrev pub is_submit : Entry → Bool
is_submit (entry.Event (Submit by id r)) = true
is_submit other = false

abbrev pub is_take : Entry → Bool
is_take (entry.Event (Take id r)) = true
is_take other = false

abbrev pub is_let_go : Entry → Bool
is_let_go (entry.LetGo lane) = true
is_let_go other = false

-- Each of this many lanes was released, each request has its reply, each handle was closed as often as it was granted,
-- and no call was added or cancelled.
pub record IsEnded (lanes : ℕ) (past : List Entry) : Type 0 where
  pub let_go : (lane : ℕ) → lane < lanes → was_let_go past lane ≡ true
  pub answered : count_unanswered past ≡ 0
  pub closed : AreClosed past
  pub handed_in : list_all is_handed_in past ≡ true
