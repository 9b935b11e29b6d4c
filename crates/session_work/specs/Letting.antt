-- The release of a lane, slot by slot.
use Rattle.std.specs.Prelude.{◌≡◌, ◌<◌, ℕ, false, List, ◌∷◌, length, None}
use Rattle.sftp_model.specs.declared.slot.Slot.{Slot}
use Rattle.session_model.specs.declared.entry.Entry.{Entry}
use Rattle.session_model.specs.declared.entry.Entry.TheVariants as entry
use Rattle.session_model.specs.Calls.{Setting, current}
use Rattle.session_model.specs.Readings.{was_let_go}
use Rattle.session_model.specs.Turns.{ClosesTo}
use Rattle.session_driver.specs.Session.{IsLater}
use Rattle.session_laws.specs.Ends.{LettingGo}
use Rattle.session_work.specs.declared.lanes.Lanes.{Lanes}
use Rattle.session_work.specs.Working.{
  LanesValue,
  IsWorking,
  HasGivenLanes,
  IsAtRestOpen,
  contents_of,
  lane_in,
  past_of,
}

-- A lane is being released, and of the slots that it had these are left. The journal continued from `before` by CLOSEs
-- of grants that were to be closed.
pub record LettingLane (s : Setting) (before : List Entry) (lane : ℕ) (c : LanesValue) (rest : List Slot) : Type 0 where
  pub stands : HasGivenLanes s c
  pub there : lane < length s.lanes
  pub idle : (lane_in c.states lane).running ≡ None
  pub going : LettingGo s c.past c.core (lane_in c.states) c.begun lane rest
  pub closes : ClosesTo s before c.past
  pub later : IsLater s before c.past

abbrev pub IsLetting : ℕ → Lanes → List Slot → Type 0
IsLetting lane w rest = (s : Setting) × ((before : List Entry) × LettingLane s before lane (contents_of w) rest)

-- A lane is recorded as released, and nothing else has changed.
abbrev pub gone_in : LanesValue → ℕ → LanesValue
gone_in c lane = record c { past = entry.LetGo lane ∷ c.past }

-- The lane has no call left, and was not released.
abbrev pub IsDone : ℕ → Lanes → Type 0
IsDone lane w = (s : Setting) × (IsWorking s w × ((current s (past_of w) lane ≡ None)
    × (was_let_go (past_of w) lane ≡ false)))

-- Its slots were processed: the session is at rest.
pub record IsLetGo (s : Setting) (before : List Entry) (old new : LanesValue) : Type 0 where
  pub works : IsAtRestOpen s new
  pub closes : ClosesTo s before new.past
  pub later : IsLater s before new.past
  pub begun : new.begun ≡ old.begun

abbrev pub LetGo : Setting → List Entry → ℕ → LanesValue → LanesValue → List Slot → Type 0
LetGo s before lane old new rest = LettingLane s before lane old rest → IsLetGo s before old new
