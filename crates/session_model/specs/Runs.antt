-- believed
-- A whole run of a session: the query for limits, the turns of its schedule, rounds until each lane has no call left,
-- the release of the lanes, and the last replies.
use Rattle.std.specs.Prelude.{◌≡◌, ◌≢◌, ◌<◌, ℕ, zero, suc, Bool, true, false, List, [], ◌∷◌, length, None}
use Rattle.sftp_model.specs.declared.request.Request.TheVariants as request
use Rattle.sftp_model.specs.declared.reply.Reply.{Reply}
use Rattle.session_model.specs.declared.turn.Turn.{Turn}
use Rattle.session_model.specs.declared.turn.Turn.TheVariants as turn
use Rattle.session_model.specs.declared.event.Owner.TheVariants as owner
use Rattle.session_model.specs.declared.event.Event.TheVariants.{Submit, Send, Take}
use Rattle.session_model.specs.declared.entry.Entry.{Entry}
use Rattle.session_model.specs.declared.entry.Entry.TheVariants as entry
use Rattle.session_model.specs.Readings.{count_unanswered}
use Rattle.session_model.specs.Calls.{Setting, current}
use Rattle.session_model.specs.Journals.{MayTake, IsFree}
use Rattle.session_model.specs.Turns.{RunProgress, TurnTo, RulesTo, none_begun}

-- The journal after these turns, the first of them first.
abbrev pub TurnsTo : Setting → List Turn → RunProgress → RunProgress → Type 0
TurnsTo s [] before now = now ≡ before
TurnsTo s (t ∷ turns) before now = (mid : RunProgress) × (TurnTo s t before mid × TurnsTo s turns mid now)

-- The query for limits, sent.
abbrev pub limits_query_sent : ℕ → List Entry
limits_query_sent id = entry.Event Send ∷ entry.Event (Submit owner.Setup id request.LimitsQuery) ∷ []

-- If the server offers to report its limits, they are asked for, and the reply is taken.
abbrev pub OpensSession : Bool → List Entry → Type 0
OpensSession false past = past ≡ []
OpensSession true past = (id : ℕ) × ((r : Reply) × (IsFree [] id × MayTake (limits_query_sent id) id r
    × (past ≡ entry.Event (Take id r) ∷ limits_query_sent id)))

-- A step of a lane, a flush and a take.
abbrev pub round_of : ℕ → List Turn
round_of lane = turn.Step lane ∷ turn.Flush ∷ turn.Take ∷ []

-- n whole rounds, each started while the lane has a call left.
abbrev pub RoundsTo : Setting → ℕ → ℕ → RunProgress → RunProgress → Type 0
RoundsTo s lane zero before now = now ≡ before
RoundsTo s lane (suc n) before now =
    (current s before.past lane ≢ None) × ((mid : RunProgress) × (TurnsTo s (round_of lane) before mid
    × RoundsTo s lane n mid now))

-- Rounds for each of the first n lanes in order, until it has no call left.
abbrev pub EndsTo : Setting → ℕ → RunProgress → RunProgress → Type 0
EndsTo s zero before now = now ≡ before
EndsTo s (suc lane) before now =
    (mid : RunProgress) × (EndsTo s lane before mid × ((n : ℕ) × RoundsTo s lane n mid now)
    × (current s now.past lane ≡ None))

-- A lane is released: the CLOSEs by the order of its slots, and then, once, a Send if too much is unsent.
abbrev pub LetGoTo : Setting → ℕ → RunProgress → RunProgress → Type 0
LetGoTo s lane before now =
    (now.begun ≡ before.begun)
    × RulesTo s (entry.LetGo lane ∷ before.past) now.past

-- The first n lanes are released in order.
abbrev pub LetsGoTo : Setting → ℕ → RunProgress → RunProgress → Type 0
LetsGoTo s zero before now = now ≡ before
LetsGoTo s (suc lane) before now = (mid : RunProgress) × (LetsGoTo s lane before mid × LetGoTo s lane mid now)

-- n rounds of a flush and a take, each started while something is unanswered.
abbrev pub DrainsTo : Setting → ℕ → RunProgress → RunProgress → Type 0
DrainsTo s zero before now = now ≡ before
DrainsTo s (suc n) before now =
    (0 < count_unanswered before.past) × ((mid : RunProgress) × (TurnsTo s (turn.Flush ∷ turn.Take ∷ []) before mid
    × DrainsTo s n mid now))

-- The state of a run after each of its parts.
pub record Stages : Type 0 where
  pub opened : List Entry
  pub turned : RunProgress
  pub ended : RunProgress
  pub let_go : RunProgress
  pub drained : RunProgress

-- A journal whose lanes were not started.
abbrev pub at_first : List Entry → RunProgress
at_first past = record { past = past; begun = none_begun }

-- The parts of a run, each from the end of the one before it.
pub record GoesBy (s : Setting) (schedule : List Turn) (at : Stages) : Type 0 where
  pub opens : OpensSession s.limits at.opened
  pub turns : TurnsTo s schedule (at_first at.opened) at.turned
  pub ends : EndsTo s (length s.lanes) at.turned at.ended
  pub lets_go : LetsGoTo s (length s.lanes) at.ended at.let_go
  pub drains : (n : ℕ) × DrainsTo s n at.let_go at.drained
  pub answered : count_unanswered at.drained.past ≡ 0

-- The journal of a whole run of the lanes under these turns.
abbrev pub IsRun : Setting → List Turn → List Entry → Type 0
IsRun s turns past = (at : Stages) × (GoesBy s turns at × (at.drained.past ≡ past))
