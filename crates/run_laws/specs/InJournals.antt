-- believed: is_of_call
-- A name, and the relation of the requests of a journal to it.
use Rattle.std.specs.Prelude.{◌≡◌, ◌≢◌, ◌<◌, ◌≤◌, ℕ, Bool, true, false, not, List, [], ◌∷◌, Option, Some, None}
use Rattle.sftp_model.specs.declared.request.Request.{Request}
use Rattle.sftp_model.specs.declared.request.Request.TheVariants as request
use Rattle.machine_model.specs.Components.{Name, components, same_name}
use Rattle.plan_model.specs.Moves.{Own}
use Rattle.session_model.specs.declared.entry.Entry.{Entry}
use Rattle.session_model.specs.Calls.{Setting}
use Rattle.session_model.specs.Grants.{is_asked_by}
use Rattle.session_model.specs.Readings.{AskedRequest, asked_at, own, count_sent}
use Rattle.run_laws.specs.Bearing.{grant_used_at}
use Rattle.run_laws.specs.GrantUses.{WritesBy}
use Rattle.run_laws.specs.Sparing.{AvoidsName}

-- ---- One request

-- True if the request is an OPEN of the name.
abbrev pub is_open_of : Name → Request → Bool
is_open_of name (request.OpenFile path flags attrs) = same_name (components path) name
is_open_of name other = false

abbrev pub opens_at : Name → Option AskedRequest → Bool
opens_at name None = false
opens_at name (Some a) = is_open_of name a.request

-- The request at a place passes the name by: it avoids the name, and does not write by the handle that an OPEN of the
-- name was granted.
pub record PassesAt (s : Setting) (past : List Entry) (name : Name) (place : ℕ) : Type 0 where
  pub avoids : (a : AskedRequest) → asked_at past place ≡ Some a → AvoidsName name a.request
  pub writes : (a : AskedRequest) (h : List ℕ) (grant : ℕ) → asked_at past place ≡ Some a → WritesBy a.request h
      → grant_used_at s past place h ≡ Some grant → opens_at name (asked_at past grant) ≡ false

-- ---- Requests

-- The requests below a place reach the name only by OPENs of it: each other one avoids it.
abbrev pub ComeByOpens : List Entry → Name → ℕ → Type 0
ComeByOpens past name n = (place : ℕ) (a : AskedRequest) → place < n → asked_at past place ≡ Some a
    → is_open_of name a.request
    ≡ false → AvoidsName name a.request

-- Each of these requests is below a place.
abbrev pub AreBelow : ℕ → Own → Type 0
AreBelow n [] = Unit {0}
AreBelow n (r ∷ requests) = (r.0 < n) × AreBelow n requests

-- True if the request at a place is one of this call, named by its lane and its number.
abbrev pub is_of_call : List Entry → ℕ × ℕ → ℕ → Bool
is_of_call past c place = is_asked_by (asked_at past place) c.0 c.1

-- True if the grant at a place is not that of an OPEN of the name.
abbrev pub is_elsewhere : List Entry → Name → ℕ → Bool
is_elsewhere past name grant = not (opens_at name (asked_at past grant))

-- ---- Two calls

-- Two calls, each named by its lane and its number, with their requests. The first has ended before the second starts.
-- The requests of the second are below the place `n` and were sent. Up to there requests reach the name by OPENs of it.
-- From the first call's first request on, each request of neither call passes the name by.
pub record InTurn (s : Setting) (past : List Entry) (name : Name) (n : ℕ) (one : ℕ × ℕ) (w : ℕ × Request)
    (written : Own) (other : ℕ × ℕ) (r : ℕ × Request) (read : Own) : Type 0 where
  pub asks : own past one.0 one.1 ≡ w ∷ written
  pub asks_then : own past other.0 other.1 ≡ r ∷ read
  pub before : AreBelow r.0 (w ∷ written)
  pub until : AreBelow n (r ∷ read)
  pub were_sent : n ≤ count_sent past
  pub by_opens : ComeByOpens past name n
  pub others_pass : (place : ℕ) → w.0 < place → place < n → is_of_call past one place ≡ false
      → is_of_call past other place ≡ false → PassesAt s past name place

-- One call with its requests, which were sent and are below `n`. Up to there requests reach the name by OPENs of it,
-- and each that is not the call's passes the name by.
pub record AloneOn (s : Setting) (past : List Entry) (name : Name) (n : ℕ) (one : ℕ × ℕ) (r : ℕ × Request) (read : Own)
    : Type 0 where
  pub asks : own past one.0 one.1 ≡ r ∷ read
  pub until : AreBelow n (r ∷ read)
  pub were_sent : n ≤ count_sent past
  pub by_opens : ComeByOpens past name n
  pub others_pass : (place : ℕ) → place < n → is_of_call past one place ≡ false → PassesAt s past name place

-- ---- Lanes

-- The lane keeps off the name: each request of its calls avoids it and is no OPEN of it.
abbrev pub KeepsOff : List Entry → Name → ℕ → Type 0
KeepsOff past name lane =
    (place call : ℕ) (a : AskedRequest) → asked_at past place ≡ Some a → is_of_call past (lane, call) place ≡ true
    → AvoidsName name a.request × (is_open_of name a.request ≡ false)

-- A name that belongs to one lane: all other lanes keep off it, and the lane's own requests reach it by OPENs of it.
pub record IsOfLane (past : List Entry) (name : Name) (lane : ℕ) : Type 0 where
  pub others : (other : ℕ) → other ≢ lane → KeepsOff past name other
  pub by_opens : (place call : ℕ) (a : AskedRequest) → asked_at past place ≡ Some a → is_of_call past (lane, call) place
      ≡ true
      → is_open_of name a.request ≡ false → AvoidsName name a.request

-- Two calls of the lane that owns the name, by their numbers, with their requests. The requests of calls between the
-- two pass it by.
pub record LaneInTurn (s : Setting) (past : List Entry) (name : Name) (lane one : ℕ) (w : ℕ × Request) (written : Own)
    (later : ℕ) (r : ℕ × Request) (read : Own) : Type 0 where
  pub lanes : IsOfLane past name lane
  pub asks : own past lane one ≡ w ∷ written
  pub asks_then : own past lane later ≡ r ∷ read
  pub in_turn : one < later
  pub between : (place call : ℕ) → one < call → call < later → is_of_call past (lane, call) place ≡ true
      → PassesAt s past name place

-- A call of the lane that owns the name, by its number, with its requests. The requests of earlier calls pass the name
-- by.
pub record LaneFirst (s : Setting) (past : List Entry) (name : Name) (lane call : ℕ) (r : ℕ × Request) (read : Own) :
    Type 0 where
  pub lanes : IsOfLane past name lane
  pub asks : own past lane call ≡ r ∷ read
  pub earlier : (place before : ℕ) → before < call → is_of_call past (lane, before) place ≡ true
      → PassesAt s past name place
