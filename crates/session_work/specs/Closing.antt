-- Grants that are due are closed, one after another.
use Rattle.std.specs.Prelude.{◌≡◌, ◌<◌, ◌≤◌, ◌+◌, ◌^◌, ℕ, List, ◌∷◌, length, None, slice_set, vec_len, vec_capacity}
use Rattle.session_model.specs.declared.entry.Entry.{Entry}
use Rattle.session_model.specs.Calls.{Setting}
use Rattle.session_model.specs.Grants.{letting_go}
use Rattle.session_model.specs.Turns.{ClosesTo}
use Rattle.session_driver.specs.Session.{IsLater}
use Rattle.session_laws.specs.Changes.{closed_lane}
use Rattle.session_laws.specs.Dues.{unheld_of}
use Rattle.session_laws.specs.Lanes.{Held, grant_places}
use Rattle.session_laws.specs.Ends.{close_entry, let_go}
use Rattle.session_laws.specs.Rest.{IsBetweenSteps, weigh}
use Rattle.session_work.specs.Tokens.{AreGrants}
use Rattle.session_work.specs.declared.lanes.Lanes.{Lanes}
use Rattle.session_work.specs.Working.{LanesValue, HasGivenLanes, IsAtRestOpen, contents_of, lane_in, lanes_left}

-- The lanes after the grant at an index of one lane was closed.
abbrev pub closed_in : LanesValue → ℕ → ℕ → Held → LanesValue
closed_in c lane k g =
    record {
      calls = c.calls;
      core = let_go c.core g.grant;
      facts = c.facts;
      past = close_entry g.grant ∷ c.past;
      asked = c.asked + 1;
      states = slice_set c.states lane (closed_lane (lane_in c.states lane) k);
      begun = c.begun;
    }

-- The grant at an index of a lane may be closed: both exist, and there is room for its entry.
pub record CanClose (lane k : ℕ) (w : Lanes) : Type 0 where
  pub there : lane < length w.states.items
  pub held : AreGrants w.core (lane_in w.states.items lane).grants
  pub within : k < length (lane_in w.states.items lane).grants
  pub counted : w.asked ≤ vec_len w.journal
  pub room : vec_len w.journal < vec_capacity w.journal

pub record HasClosed (old new : LanesValue) (lane k : ℕ) (g : Held) : Type 0 where
  pub is : new ≡ closed_in old lane k g
  pub small : g.grant.id < 2 ^ 32

-- A lane runs no call, and those of its grants are due that no slot has. The journal continued from `before` by CLOSEs
-- of grants that were due.
pub record IsClosingLane (s : Setting) (before : List Entry) (lane : ℕ) (c : LanesValue) : Type 0 where
  pub stands : HasGivenLanes s c
  pub there : lane < length s.lanes
  pub plain : letting_go s c.past ≡ None
  pub idle : (lane_in c.states lane).running ≡ None
  pub between : IsBetweenSteps s c.past c.core (lane_in c.states) c.begun
      (unheld_of (lane_in c.states lane).site (grant_places (lane_in c.states lane).grants))
  pub closes : ClosesTo s before c.past
  pub later : IsLater s before c.past

abbrev pub IsClosing : ℕ → Lanes → Type 0
IsClosing lane w = (s : Setting) × ((before : List Entry) × IsClosingLane s before lane (contents_of w))

-- They are closed: the session is at rest, and no more work is left than before.
pub record IsClosed (s : Setting) (before : List Entry) (old new : LanesValue) : Type 0 where
  pub works : IsAtRestOpen s new
  pub closes : ClosesTo s before new.past
  pub later : IsLater s before new.past
  pub begun : new.begun ≡ old.begun
  pub left : lanes_left new.facts new.past new.calls 0 ≡ lanes_left old.facts old.past old.calls 0
  pub work : weigh new.core ≤ weigh old.core

abbrev pub ClosesDueGrants : Setting → List Entry → ℕ → LanesValue → LanesValue → Type 0
ClosesDueGrants s before lane old new = IsClosingLane s before lane old → IsClosed s before old new
