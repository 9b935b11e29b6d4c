-- believed
-- The numbers of ids that the calls of a session may keep at one time, by their plans.
use Rattle.std.specs.Prelude.{
  ◌≡◌,
  ◌<◌,
  ◌≤◌,
  ◌+◌,
  ◌⊎◌,
  ◌==◌,
  ℕ,
  zero,
  suc,
  Bool,
  true,
  false,
  List,
  [],
  ◌∷◌,
  ◌++◌,
  length,
  max,
  min,
  Option,
  Some,
  None,
  is_some,
}
use Rattle.std.specs.FinMap as fin
use Rattle.std.specs.List.{list_any}
use Rattle.sftp_model.specs.declared.request.Request.{Request}
use Rattle.sftp_model.specs.declared.slot.Facts.{Facts}
use Rattle.sftp_core.specs.Core.{Core}
use Rattle.plan_model.specs.declared.call.Call.TheVariants as call
use Rattle.plan_model.specs.Moves.{Own}
use Rattle.plan_model.specs.RequestCounts.{work}
use Rattle.plan_runner.specs.declared.next.Running.{Running}
use Rattle.plan_runner.specs.declared.next.Running.TheVariants as running
use Rattle.plan_runner.specs.Asking.{IsAmong, is_window}
use Rattle.plan_runner.specs.Pending.{own_place, reads_under}
use Rattle.plan_window.specs.declared.window.ReadAt.{ReadAt}
use Rattle.plan_model.specs.declared.call.Call.{Call}
use Rattle.session_model.specs.declared.entry.Entry.{Entry}
use Rattle.session_model.specs.Calls.{Setting, current, lane_calls}
use Rattle.session_model.specs.Readings.{count_ended, own}
use Rattle.session_laws.specs.Lanes.{LaneValue}

-- ---- Calls

-- The calls that may make more requests than may be under way at one time: all except a whole read make one after the
-- other.
abbrev pub makes_many : Call → Bool
makes_many (call.ReadAll slot n) = true
makes_many (call.WriteAll slot bytes) = true
makes_many (call.WriteParts slot parts) = true
makes_many (call.FsRead path bound) = true
makes_many (call.FsWrite path bytes) = true
makes_many (call.List path bound) = true
makes_many other = false

-- The most ids that a call may keep at one time: one for the handle that it opens, and one for its last request, for
-- each READ of its window, or for each byte that it leaves to a buffered file.
abbrev pub budget : Call → Facts → ℕ
budget (call.FsRead path bound) facts = 1 + max 1 facts.read_window
budget (call.BufWrite slot bytes) facts = 2 + length bytes
budget (call.BufWriteAll slot bytes) facts = 2 + length bytes
budget other facts = 2

-- The budgets of the first n of these calls.
abbrev pub budgets : Facts → List Call → ℕ → ℕ
budgets facts calls zero = 0
budgets facts [] (suc n) = 0
budgets facts (c ∷ calls) (suc n) = budget c facts + budgets facts calls n

-- ---- Lanes

-- The data on which a lane's ids depend: the ids that its ended calls may keep, the call that runs or is next, with its
-- own requests, and the state of its runner.
pub record IdSpending : Type 0 where
  pub earlier : ℕ
  pub call : Option Call
  pub own : Own
  pub running : Option Running

abbrev pub spending_of : Setting → List Entry → ℕ → Option Running → IdSpending
spending_of s past lane running =
    record {
      earlier = budgets s.facts (lane_calls s past lane) (count_ended past lane);
      call = current s past lane;
      own = own past lane (count_ended past lane);
      running = running;
    }

abbrev pub budget_of : Facts → Option Call → ℕ
budget_of facts None = 0
budget_of facts (Some c) = budget c facts

-- The ids that the running call may keep now, if it made this many requests: a whole read keeps its handle and the
-- READs under way.
abbrev pub in_hand : ℕ → Option Running → ℕ → ℕ
in_hand most None made = 0
in_hand most (Some (running.ReadingWhole grant bound window)) made = 1 + length window.waiting
in_hand most (Some other) made = min made most

-- The ids that the lane may keep.
abbrev pub used_in : Facts → IdSpending → ℕ
used_in facts x = x.earlier + in_hand (budget_of facts x.call) x.running (length x.own)

-- True if one of these requests has the place.
abbrev pub stands_in : Own → ℕ → Bool
stands_in own place = list_any (λ (a : ℕ × Request). a.0 == place) own

-- The request at a place is the last of these.
pub record IsLast (own : Own) (p : ℕ) : Type 0 where
  pub prefix : Own
  pub request : Request
  pub is : own ≡ prefix ++ (p, request) ∷ []
  pub below : (q : ℕ) → stands_in prefix q ≡ true → q < p

-- The READs that a whole read has under way are requests of its own, after its OPEN, and no more than it may keep.
pub record ReadsFit (facts : Facts) (c : Call) (own : Own) (reads : List ReadAt) : Type 0 where
  pub mine : (x : ReadAt) → IsAmong x reads → stands_in own x.place ≡ true
  pub less : 1 + length reads ≤ length own
  pub fits : 1 + length reads ≤ budget c facts

-- A call continues by requests of its own, one after another, or by a window.
abbrev pub IsOwnOrWindow : Running → Type 0
IsOwnOrWindow r = (is_some (own_place (Some r)) ≡ true) ⊎ (is_window r ≡ true)

-- The invariant of a lane that runs a call.
pub record CallSpends (facts : Facts) (c : Call) (own : Own) (r : Running) : Type 0 where
  pub last : (p : ℕ) → own_place (Some r) ≡ Some p → IsLast own p
  pub kind : makes_many c ≡ true → IsOwnOrWindow r
  pub made : length own ≤ work c facts
  pub reads : is_window r ≡ true → ReadsFit facts c own (reads_under (Some r))

abbrev pub LaneSpends : Facts → IdSpending → Type 0
LaneSpends facts x = (c : Call) (r : Running) → x.call ≡ Some c → x.running ≡ Some r → CallSpends facts c x.own r

-- ---- Session

-- The number of ids that a core keeps.
abbrev pub kept_ids : Core → ℕ
kept_ids core = fin.len core.table

-- The number of ids that the first n lanes may keep.
abbrev pub total : Setting → List Entry → (ℕ → LaneValue) → ℕ → ℕ
total s past lanes zero = 0
total s past lanes (suc n) = total s past lanes n + used_in s.facts (spending_of s past n (lanes n).running)

-- The core keeps no more ids than its lanes may.
pub record KeepsIdBudget (s : Setting) (past : List Entry) (core : Core) (lanes : ℕ → LaneValue) : Type 0 where
  pub each : (lane : ℕ) → lane < length s.lanes → LaneSpends s.facts (spending_of s past lane (lanes lane).running)
  pub few : kept_ids core ≤ total s past lanes (length s.lanes)
