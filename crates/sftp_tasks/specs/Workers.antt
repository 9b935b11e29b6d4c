-- believed, except SeesAnswered
-- Workers: their rounds, between which they check whether they may end.
use Rattle.std.specs.Prelude.{◌≡◌, ◌⊎◌, ℕ, Bool, true, false, Result, Ok, Err, nat_le}
use Rattle.session_driver.specs.declared.session.Phase.TheVariants.{Open}
use Rattle.session_model.specs.Readings.{count_unanswered}
use Rattle.session_seats.specs.declared.view.Sight.{Sight}
use Rattle.session_seats.specs.Repeats.{StepsUntil}
use Rattle.session_seats.specs.Sights.{entries}
use Rattle.sftp_link.specs.Views.{LinkView}
use Rattle.sftp_model.specs.declared.error.Error.{Error}
use Rattle.sftp_tasks.specs.declared.workers.Shift.{Shift}
use Rattle.sftp_tasks.specs.declared.workers.Shift.TheVariants.{Worked, Idle, Over}
use Rattle.sftp_tasks.specs.Calls.{InOneHold}
use Rattle.sftp_tasks.specs.LockedEvents.{SettlesEnd, TellsStage}
use Rattle.sftp_tasks.specs.Rounds.{FlushStops, FlushesRound, ReadStops, ReadsRound, Token}
use Rattle.sftp_tasks.specs.Phases.{phase_number}

abbrev pub is_over : Shift → Bool
is_over Worked = false
is_over Idle = false
is_over Over = true

-- The state of a worker: what its seat knows, and its half of the link.
abbrev pub WorkerState : Type 0 → Type 0
WorkerState Service = Token × LinkView Service

abbrev pub over_if : Bool → Shift
over_if true = Over
over_if false = Idle

-- A worker ends after its last shift.
abbrev pub shift_for : Result (Unit {0}) Error → Result Shift Error
shift_for (Ok u) = Ok Over
shift_for (Err e) = Err e

-- The seat has seen that the end is settled: the stage is 2, each request has its reply, and the session is open.
abbrev pub SeesAnswered : Sight → Type 0
SeesAnswered s = (s.counts.stage ≡ 2) × (count_unanswered (entries s.log) ≡ 0) × (s.counts.phase ≡ phase_number Open)

module _ {Service : Type 0} where
  -- ---- The worker that sends

  -- Nothing was unsent, and then the stage of the end was looked at.
  pub record SentNone (r : Result ℕ Error) (a b : WorkerState Service) : Type 0 where
    pub mid : Token
    pub none : FlushesRound false a.0 mid a.1 b.1
    pub looks : InOneHold TellsStage r mid b.0

  -- A round that sent; or one that did not, and the worker has nothing to do, or ends if the stage is 2.
  abbrev pub FlushShift : Result Shift Error → WorkerState Service → WorkerState Service → Type 0
  FlushShift (Ok shift) a b =
      ((shift ≡ Worked) × FlushesRound true a.0 b.0 a.1 b.1)
      ⊎ ((stage : ℕ) × ((shift ≡ over_if (nat_le 2 stage)) × SentNone (Ok stage) a b))
  FlushShift (Err e) a b = FlushStops e a.0 b.0 a.1 b.1 ⊎ SentNone (Err e) a b

  -- The rounds of the worker that sends.
  abbrev pub FlushWorks : Result (Unit {0}) Error → WorkerState Service → WorkerState Service → Type 0
  FlushWorks r a b = StepsUntil is_over FlushShift (shift_for r) a b

  -- ---- The worker that reads

  -- No reply is awaited, and then the end was settled, if it has started and all is answered.
  pub record ReadNone (r : Result Bool Error) (a b : WorkerState Service) : Type 0 where
    pub mid : Token
    pub none : ReadsRound false a.0 mid a.1 b.1
    pub looks : InOneHold SettlesEnd r mid b.0

  -- A round that took a frame; or one that did not, and the worker has nothing to do, or ends if all is answered.
  abbrev pub ReadShift : Result Shift Error → WorkerState Service → WorkerState Service → Type 0
  ReadShift (Ok shift) a b =
      ((shift ≡ Worked) × ReadsRound true a.0 b.0 a.1 b.1)
      ⊎ ((all : Bool) × ((shift ≡ over_if all) × ReadNone (Ok all) a b))
  ReadShift (Err e) a b = ReadStops e a.0 b.0 a.1 b.1 ⊎ ReadNone (Err e) a b

  -- The rounds of the worker that reads.
  abbrev pub ReadWorks : Result (Unit {0}) Error → WorkerState Service → WorkerState Service → Type 0
  ReadWorks r a b = StepsUntil is_over ReadShift (shift_for r) a b
