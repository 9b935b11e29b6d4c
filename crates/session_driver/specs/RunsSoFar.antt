-- believed
-- Runs so far: the parts that are whole, and a part of the next one.
use Rattle.std.specs.Prelude.{◌≡◌, ◌≢◌, ◌⊎◌, ◌<◌, ℕ, Bool, true, false, List, [], ◌∷◌, length, None}
use Rattle.sftp_model.specs.declared.request.Request.TheVariants as request
use Rattle.session_model.specs.declared.turn.Turn.{Turn}
use Rattle.session_model.specs.declared.turn.Turn.TheVariants as turn
use Rattle.session_model.specs.declared.event.Owner.TheVariants as owner
use Rattle.session_model.specs.declared.event.Event.TheVariants.{Submit}
use Rattle.session_model.specs.declared.entry.Entry.{Entry}
use Rattle.session_model.specs.declared.entry.Entry.TheVariants as entry
use Rattle.session_model.specs.Readings.{count_unanswered}
use Rattle.session_model.specs.Calls.{Setting, current, move_of}
use Rattle.session_model.specs.Journals.{IsFree}
use Rattle.session_model.specs.Turns.{RunProgress, TurnTo, MovesBy, FlushesBy, TakesBy, CancelsBy, SettlesTo}
use Rattle.session_model.specs.Runs.{
  TurnsTo,
  RoundsTo,
  EndsTo,
  LetsGoTo,
  DrainsTo,
  OpensSession,
  IsRun,
  at_first,
  limits_query_sent,
  round_of,
}

-- One turn; `Follows` is the relation of what follows its event.
abbrev pub TurnBy : (List Entry → List Entry → Type 0) → Setting → Turn → RunProgress → RunProgress → Type 0
TurnBy Follows s (turn.Step lane) before now = MovesBy Follows lane before now (move_of s before.past lane)
TurnBy Follows s turn.Flush before now = FlushesBy Follows before now
TurnBy Follows s turn.Take before now = TakesBy Follows before now
TurnBy Follows s (turn.Cancel lane) before now = CancelsBy Follows s lane before now

-- The event of a turn and the CLOSEs that are due then, without the Send that may follow.
pub record HalfTurn (s : Setting) (t : Turn) (before : RunProgress) (past : List Entry) : Type 0 where
  pub now : RunProgress
  pub event : TurnBy (SettlesTo s) s t before now
  pub is : now.past ≡ past

-- Nothing of a turn was done, or all of it except the Send that may follow its event.
abbrev pub TurnSoFar : Setting → Turn → RunProgress → List Entry → Type 0
TurnSoFar s t before past = (past ≡ before.past) ⊎ HalfTurn s t before past

-- Some of the turns are whole, and of the next there is a part.
abbrev pub TurnsSoFar : Setting → List Turn → RunProgress → List Entry → Type 0
TurnsSoFar s [] before past = past ≡ before.past
TurnsSoFar s (t ∷ turns) before past = TurnSoFar s t before past
    ⊎ ((mid : RunProgress) × (TurnTo s t before mid × TurnsSoFar s turns mid past))

-- Some rounds of a lane are whole, it has a call left, and of the next round there is a part.
pub record RoundsSoFar (s : Setting) (lane : ℕ) (before : RunProgress) (past : List Entry) : Type 0 where
  pub rounds : ℕ
  pub mid : RunProgress
  pub whole : RoundsTo s lane rounds before mid
  pub left : current s mid.past lane ≢ None
  pub part : TurnsSoFar s (round_of lane) mid past

-- Some of the first lanes have no call left, and of the next one's rounds there is a part.
pub record EndsSoFar (s : Setting) (lanes : ℕ) (before : RunProgress) (past : List Entry) : Type 0 where
  pub lane : ℕ
  pub mid : RunProgress
  pub there : lane < lanes
  pub whole : EndsTo s lane before mid
  pub part : RoundsSoFar s lane mid past

-- A lane isn't released, or it is and the CLOSEs that are due then have come.
abbrev pub LetGoSoFar : Setting → ℕ → RunProgress → List Entry → Type 0
LetGoSoFar s lane before past = (past ≡ before.past) ⊎ SettlesTo s (entry.LetGo lane ∷ before.past) past

-- Some of the first lanes were released, and of the next one's release there is a part.
pub record LetsGoSoFar (s : Setting) (lanes : ℕ) (before : RunProgress) (past : List Entry) : Type 0 where
  pub lane : ℕ
  pub mid : RunProgress
  pub there : lane < lanes
  pub whole : LetsGoTo s lane before mid
  pub part : LetGoSoFar s lane mid past

-- A flush and a take.
abbrev pub drain_of : List Turn
drain_of = turn.Flush ∷ turn.Take ∷ []

-- Some drains are whole, something is unanswered, and of the next drain there is a part.
pub record DrainsSoFar (s : Setting) (before : RunProgress) (past : List Entry) : Type 0 where
  pub drains : ℕ
  pub mid : RunProgress
  pub whole : DrainsTo s drains before mid
  pub left : 0 < count_unanswered mid.past
  pub part : TurnsSoFar s drain_of mid past

-- Nothing has happened, or the query for limits was submitted, or it was sent.
abbrev pub OpensSoFar : Bool → List Entry → Type 0
OpensSoFar false past = past ≡ []
OpensSoFar true past =
    (past ≡ []) ⊎ ((id : ℕ) × (IsFree [] id × ((past ≡ entry.Event (Submit owner.Setup id request.LimitsQuery) ∷ [])
    ⊎ (past ≡ limits_query_sent id))))

-- The journal of a run of the lanes under these turns, as far as it has come.
pub data RunSoFar (s : Setting) (schedule : List Turn) (past : List Entry) : Type 0 where
  in_opening : OpensSoFar s.limits past → RunSoFar s schedule past
  in_turns : (opened : List Entry) → OpensSession s.limits opened → TurnsSoFar s schedule (at_first opened) past
      → RunSoFar s schedule past
  in_rounds : (opened : List Entry) (turned : RunProgress) → OpensSession s.limits opened
      → TurnsTo s schedule (at_first opened) turned
      → EndsSoFar s (length s.lanes) turned past → RunSoFar s schedule past
  in_letting_go : (opened : List Entry) (turned ended : RunProgress) → OpensSession s.limits opened
      → TurnsTo s schedule (at_first opened) turned
      → EndsTo s (length s.lanes) turned ended → LetsGoSoFar s (length s.lanes) ended past → RunSoFar s schedule past
  in_drains : (opened : List Entry) (turned ended let_go : RunProgress) → OpensSession s.limits opened
      → TurnsTo s schedule (at_first opened) turned
      → EndsTo s (length s.lanes) turned ended → LetsGoTo s (length s.lanes) ended let_go → DrainsSoFar s let_go past
      → RunSoFar s schedule past
  whole : IsRun s schedule past → RunSoFar s schedule past
