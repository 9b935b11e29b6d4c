-- believed, except empty_window, asked_more, IsAbsorbed, window_move, move_by, AsksInRange, IsMoveInRange
-- The READs of a whole read, as its window has them: those that were answered before any that was not, and the others.
use Rattle.std.specs.Prelude.{
  ℕ,
  ◌≡◌,
  ◌<◌,
  ◌≤◌,
  ◌+◌,
  ◌^◌,
  ◌||◌,
  true,
  List,
  [],
  ◌∷◌,
  ◌++◌,
  length,
  map,
  Option,
  Some,
  None,
}
use Rattle.sftp_model.specs.declared.request.Request.TheVariants as request
use Rattle.sftp_model.specs.declared.request.Request.{Request}
use Rattle.sftp_model.specs.declared.reply.Reply.{Reply}
use Rattle.sftp_model.specs.declared.reply.Reply.TheVariants as reply
use Rattle.sftp_model.specs.declared.outcome.Outcome.TheVariants as outcome
use Rattle.sftp_model.specs.declared.slot.Facts.{Facts}
use Rattle.sftp_model.specs.declared.slot.Site.{Site}
use Rattle.sftp_model.specs.declared.slot.Move.{Move}
use Rattle.sftp_model.specs.declared.slot.Move.TheVariants.{Ask, Wait, Done}
use Rattle.sftp_model.specs.Answers.{is_end_of_file}
use Rattle.plan_model.specs.Moves.{Own, Plan}
use Rattle.plan_model.specs.GoodMoves.{ReadsWithin}
use Rattle.plan_model.specs.WindowPlans.{answered_prefix, brings_content, first_refusal, outside, window_next}
use Rattle.plan_window.specs.declared.window.ReadAt.{ReadAt}
use Rattle.plan_window.specs.declared.window.Answered.{Answered}
use Rattle.plan_window.specs.declared.next_move.WindowMove.{WindowMove}
use Rattle.plan_window.specs.declared.next_move.WindowMove.TheVariants as step

-- The contents of a window: the READs that were answered before any that was not, and those in flight.
pub record Window : Type 0 where
  pub answered : List Answered
  pub waiting : List ReadAt

-- ---- Its READs

-- A READ as a request with this handle, at its place.
abbrev pub as_request : List ℕ → ReadAt → ℕ × Request
as_request handle r = (r.place, request.Read handle r.offset r.len)

abbrev pub under_way : List ℕ → Window → Own
under_way handle w = map (as_request handle) w.waiting

-- All of them, in the order in which they were asked.
abbrev pub reads_of : List ℕ → Window → Own
reads_of handle w = map (λ a. as_request handle a.read) w.answered ++ under_way handle w

-- The offset of each READ that was answered, and its reply.
abbrev pub replies_of : Window → List (ℕ × Reply)
replies_of w = map (λ a. (a.read.offset, a.reply)) w.answered

abbrev pub first_of : List ReadAt → Option ReadAt
first_of [] = None
first_of (r ∷ rest) = Some r

-- ---- Changes

abbrev pub empty_window : Window
empty_window = record { answered = []; waiting = [] }

abbrev pub asked_more : Window → ReadAt → Window
asked_more w r = record { answered = w.answered; waiting = w.waiting ++ r ∷ [] }

-- The reply is that of the first READ in flight.
abbrev pub answered_more : Window → Reply → Window
answered_more w y = by_waiting w.waiting
  where
    by_waiting : List ReadAt → Window
    by_waiting [] = w
    by_waiting (r ∷ rest) = record { answered = w.answered ++ record { read = r; reply = y } ∷ []; waiting = rest }

-- ---- Properties of a window

-- A READ ends within the range of offsets.
abbrev pub IsInRange : ReadAt → Type 0
IsInRange r = r.offset + r.len < 2 ^ 64

-- A DATA has at most the bytes that were asked for.
abbrev pub FitsRead : ReadAt → Reply → Type 0
FitsRead r (reply.Content bytes) = length bytes ≤ r.len
FitsRead r other = Unit {0}

abbrev pub FitsFirst : Window → Reply → Type 0
FitsFirst w y = (r : ReadAt) → first_of w.waiting ≡ Some r → FitsRead r y

-- A DATA or the end of the file.
abbrev pub IsAbsorbed : Reply → Type 0
IsAbsorbed y = (brings_content y || is_end_of_file y) ≡ true

abbrev pub AreInRange : List ReadAt → Type 0
AreInRange [] = Unit {0}
AreInRange (r ∷ rest) = IsInRange r × AreInRange rest

abbrev pub AreAnswered : List Answered → Type 0
AreAnswered [] = Unit {0}
AreAnswered (a ∷ rest) = IsInRange a.read × FitsRead a.read a.reply × AreAnswered rest

-- READs within the range of offsets, none of which was refused.
pub record IsSound (w : Window) : Type 0 where
  pub waiting : AreInRange w.waiting
  pub answered : AreAnswered w.answered
  pub unrefused : first_refusal (replies_of w) ≡ None

-- ---- The next move

-- The plan of a whole read, after these further requests and replies.
abbrev pub window_plan : List ℕ → Option ℕ → Window → Site → Facts → Plan
window_plan handle bound w site facts later answers =
    window_next handle bound (reads_of handle w ++ later) (replies_of w
    ++ answered_prefix (under_way handle w ++ later) answers) (outside (under_way handle w ++ later) answers) site
    facts

-- The same if no further reply came.
abbrev pub window_move : List ℕ → Option ℕ → Window → Site → Facts → Move
window_move handle bound w site facts = window_next handle bound (reads_of handle w) (replies_of w) (under_way handle w)
    site facts

-- The move of the window as a move of the call.
abbrev pub move_by : List ℕ → Site → WindowMove → Move
move_by handle site (step.Ask offset len) = Ask (request.Read handle offset len)
move_by handle site (step.Wait place) = Wait place
move_by handle site (step.Whole bytes) = Done (outcome.Bytes bytes) site
move_by handle site step.GivenUp = Done outcome.GivenUp site

-- The request that the plan asks here is within the range of offsets and the session's read length, for some handle and
-- site.
pub record AsksInRange (bound : ℕ) (w : Window) (facts : Facts) : Type 0 where
  pub handle : List ℕ
  pub site : Site
  pub within : ReadsWithin facts (window_move handle (Some bound) w site facts)

abbrev pub IsMoveInRange : WindowMove → Type 0
IsMoveInRange (step.Ask offset len) = offset + len < 2 ^ 64
IsMoveInRange other = Unit {0}
