-- believed, except GoesByPlan
-- Calls of a session's lanes: the next move of each and what it leaves, according to the session's journal.
use Rattle.std.specs.Prelude.{
  ◌≡◌,
  ℕ,
  ◌==◌,
  Bool,
  true,
  false,
  ◌||◌,
  List,
  [],
  ◌∷◌,
  ◌++◌,
  Option,
  Some,
  None,
  if◌then◌else◌,
  slice_get,
}
use Rattle.sftp_model.specs.declared.slot.Site.{Site}
use Rattle.sftp_model.specs.declared.slot.Slot.TheVariants.{Empty}
use Rattle.sftp_model.specs.Slots.{fresh_site, with_slot}
use Rattle.sftp_model.specs.declared.slot.Facts.{Facts}
use Rattle.sftp_model.specs.declared.slot.Move.{Move}
use Rattle.sftp_model.specs.declared.slot.Move.TheVariants.{Ask, Wait, Done}
use Rattle.plan_model.specs.Moves.{Answers, Own, Plan}
use Rattle.plan_model.specs.OwnRequests.{oldest_first, IsCallSoFar}
use Rattle.sftp_model.specs.OpenOptions.{flags_of}
use Rattle.plan_model.specs.declared.call.Call.{Call}
use Rattle.plan_model.specs.declared.call.Call.TheVariants as call
use Rattle.plan_model.specs.declared.call.Lane.{Lane}
use Rattle.session_model.specs.declared.event.Event.TheVariants.{End}
use Rattle.session_model.specs.declared.entry.Entry.{Entry}
use Rattle.session_model.specs.declared.entry.Entry.TheVariants as entry
use Rattle.session_model.specs.Readings.{answer, own, count_ended, last_cancel}
use Rattle.plan_model.specs.CallPlans.{site_after_cancel, next}

-- The values with which a session is opened and those that VERSION and the limits fix: the lanes passed in, the facts
-- that plans use, whether the server offers to report its limits, and the most requests that may stay unsent.
pub record Setting : Type 0 where
  pub lanes : List Lane
  pub facts : Facts
  pub limits : Bool
  pub max_pending : ℕ

-- The site within a `close` that has asked: its slot is given up.
abbrev pub given_up : Call → Own → Site → Site
given_up (call.Close slot) (asked ∷ later) site = with_slot site slot Empty
given_up other own site = site

-- ---- Calls of a lane

-- The calls that were added to a lane, the first one first.
abbrev pub calls_added_to : List Entry → ℕ → List Call
calls_added_to [] lane = []
calls_added_to (entry.Added l c ∷ past) lane = if l == lane then calls_added_to past lane ++ c ∷ [] else
    calls_added_to past lane
calls_added_to (_ ∷ past) lane = calls_added_to past lane

-- The calls of a lane that may be missing.
abbrev pub calls_of : Option Lane → List Call
calls_of None = []
calls_of (Some lane) = lane.calls

-- The calls of a lane: those passed in come before those that were added.
abbrev pub lane_calls : Setting → List Entry → ℕ → List Call
lane_calls s past lane = calls_of (slice_get s.lanes lane) ++ calls_added_to past lane

-- A call by its number.
abbrev pub call_at : Setting → List Entry → ℕ → ℕ → Option Call
call_at s past lane call = slice_get (lane_calls s past lane) call

-- The call of a lane that is the next to move; None if the lane has no call left.
abbrev pub current : Setting → List Entry → ℕ → Option Call
current s past lane = call_at s past lane (count_ended past lane)

-- ---- What a lane holds

-- The site that a move leaves.
abbrev pub left_by : Move → Site → Site
left_by (Done ended after) site = after
left_by other site = site

-- The site that the end of a call leaves: after its Cancel the one that the cancelled call leaves, otherwise the one
-- that its plan leaves.
abbrev pub site_left : Option Call → Option ℕ → Site → Facts → Own → Answers → Site
site_left None cancel site facts own answers = site
site_left (Some c) None site facts own answers = left_by (next c site facts own answers) site
site_left (Some c) (Some lane) site facts own answers = site_after_cancel c site facts own answers

-- The site of a lane between its calls: the one that its last call left, with nothing in its slots after the lane was
-- released.
abbrev pub site_of : Setting → List Entry → ℕ → Site
site_of s [] lane = fresh_site
site_of s (entry.Event (End l c o) ∷ past) lane =
    if l == lane then site_left (call_at s past lane c) (last_cancel past) (site_of s past lane) s.facts
    (own past lane c) (answer past) else site_of s past lane
site_of s (entry.LetGo l ∷ past) lane = if l == lane then record
    { slots = fresh_site.slots; directory = (site_of s past lane).directory } else site_of s past lane
site_of s (_ ∷ past) lane = site_of s past lane

-- The site of a lane within a call that may be missing.
abbrev pub held_by : Option Call → Own → Site → Site
held_by None own site = site
held_by (Some c) own site = given_up c own site

-- The site of a lane now, also within a call.
abbrev pub held_site : Setting → List Entry → ℕ → Site
held_site s past lane = held_by (current s past lane) (own past lane (count_ended past lane)) (site_of s past lane)

-- ---- Moves

-- The next move of a call that may be missing.
abbrev pub move_at : Option Call → Site → Facts → Own → Answers → Option Move
move_at None site facts own answers = None
move_at (Some c) site facts own answers = Some (next c site facts own answers)

-- The next move of a lane; None if it has no call left.
abbrev pub move_of : Setting → List Entry → ℕ → Option Move
move_of s past lane = move_at (current s past lane) (site_of s past lane) s.facts
    (own past lane (count_ended past lane))
    (answer past)

-- True if the move waits for a reply.
abbrev pub is_wait : Option Move → Bool
is_wait (Some (Wait place)) = true
is_wait (Some (Ask r)) = false
is_wait (Some (Done o site)) = false
is_wait None = false

-- A lane's call follows its plan: each of its requests is the one that the plan asked by the replies that had come by
-- then, and each reply to one may answer it.
pub record GoesByPlan (s : Setting) (past : List Entry) (lane : ℕ) (c : Call) : Type 0 where
  pub requests : Own
  pub are : oldest_first requests ≡ own past lane (count_ended past lane)
  pub so_far : IsCallSoFar c (site_of s past lane) s.facts requests (answer past)

-- True if the lane's call waits for a reply here, or did so at an earlier point since it became the lane's call.
abbrev pub has_waited : Setting → List Entry → ℕ → Bool
has_waited s [] lane = is_wait (move_of s [] lane)
has_waited s (entry.Event (End l c o) ∷ past) lane =
    is_wait (move_of s (entry.Event (End l c o) ∷ past) lane) || (if l == lane then false else has_waited s past lane)
has_waited s (e ∷ past) lane = is_wait (move_of s (e ∷ past) lane) || has_waited s past lane
