-- believed: IsOf
-- A whole run of lanes in threads.
use Rattle.std.specs.Prelude.{◌≡◌, ◌<◌, Bool, true, false, List, [], ◌∷◌, Result, Ok, Err}
use Rattle.atomic_table.specs.Seated.{TableId}
use Rattle.plan_model.specs.declared.call.Lane.{Lane}
use Rattle.session_model.specs.declared.entry.Entry.{Entry}
use Rattle.session_model.specs.declared.entry.Entry.TheVariants as entry
use Rattle.session_model.specs.declared.event.Event.TheVariants.{Send, Take}
use Rattle.session_seats.specs.declared.rule.Held.{Ghosts}
use Rattle.session_seats.specs.declared.seat.Seat.{Seat}
use Rattle.session_seats.specs.Closes.{claim_by}
use Rattle.session_seats.specs.Holds.{AllFrom, AddsEntries, claim_of}
use Rattle.session_seats.specs.declared.view.Sight.{Sight}
use Rattle.session_seats.specs.Sights.{StaysThere, own}
use Rattle.sftp_model.specs.declared.reply.Reply.{Reply}
use Rattle.sftp_model.specs.declared.error.Error.{Error}
use Rattle.sftp_model.specs.declared.options.SftpOptions.{SftpOptions}
use Rattle.sftp_tasks.specs.declared.locked.Locked.{Locked}
use Rattle.sftp_tasks.specs.Rounds.{Token}
use Rattle.sftp_tasks.specs.Sent.{SeesVersion}
use Rattle.sftp_tasks.specs.Workers.{WorkerState}

-- The entries that are no Send, no Take, and neither.
abbrev pub sends_none : Entry → Bool
sends_none (entry.Event Send) = false
sends_none other = true

abbrev pub takes_none : Entry → Bool
takes_none (entry.Event (Take id r)) = false
takes_none other = true

abbrev pub moves_none : Entry → Bool
moves_none (entry.Event Send) = false
moves_none (entry.Event (Take id r)) = false
moves_none other = true

abbrev pub adds_nothing : Entry → Bool
adds_nothing e = false

-- The work of a worker until it ended. After an error its seat also gave the session up, and added nothing.
abbrev pub WorkedUntilEnd : {Service : Type 0} → (Result (Unit {0}) Error → WorkerState Service → WorkerState Service
    → Type 0)
    → Result (Unit {0}) Error → WorkerState Service → WorkerState Service → Type 0
WorkedUntilEnd Works (Ok u) a b = Works (Ok u) a b
WorkedUntilEnd Works (Err e) a b = (last : Token) × Works (Err e) a (last, b.1)
    × AddsEntries adds_nothing (claim_of last) (claim_of b.0)

-- Two sights have the same lanes and options.
abbrev pub SameMade : Sight → Sight → Type 0
SameMade old new = (new.lanes ≡ old.lanes) × (new.options ≡ old.options)

module _ {G : Ghosts Locked} where
  -- A seat of the table that has a share.
  pub record IsReady (z : TableId) (s : Seat Locked G) : Type 0 where
    pub own : s.inner.table_id ≡ z
    pub share : 0 < (claim_of s.inner.me).share

  abbrev pub AllReady : TableId → List (Seat Locked G) → Type 0
  AllReady z [] = Unit {0}
  AllReady z (s ∷ ss) = IsReady z s × AllReady z ss

  -- The seat belongs to the table, continued, added only such entries, and gave no other.
  pub record HasRun (test : Entry → Bool) (z : TableId) (old new : Seat Locked G) : Type 0 where
    pub own : new.inner.table_id ≡ z
    pub grew : AddsEntries test (claim_by old) (claim_by new)
    pub lane : new.lane ≡ old.lane

  -- The seat gave the session up, and added nothing, if this is an error. Otherwise it is unchanged.
  abbrev pub StopsAfter : Result (Unit {0}) Error → TableId → Seat Locked G → Seat Locked G → Type 0
  StopsAfter (Ok u) z old new = new ≡ old
  StopsAfter (Err e) z old new = HasRun moves_none z old new × AddsEntries adds_nothing (claim_by old) (claim_by new)

  -- The home seat is ready as before, and added nothing, whichever seats it gave.
  pub record HasGiven (z : TableId) (old new : Seat Locked G) : Type 0 where
    pub ready : IsReady z new
    pub made : SameMade (claim_by old).sight (claim_by new).sight
    pub version : StaysThere (claim_by old).sight.version (claim_by new).sight.version
    pub added : own (claim_by new).number (claim_by new).sight.log ≡ own (claim_by old).number (claim_by old).sight.log
    pub lane : new.lane ≡ old.lane

  abbrev pub AllRan : (Entry → Bool) → TableId → List (Seat Locked G) → List (Seat Locked G) → Type 0
  AllRan test z [] [] = Unit {0}
  AllRan test z (s ∷ ss) (t ∷ ts) = HasRun test z s t × AllRan test z ss ts
  AllRan test z ss ts = ⊥

-- A seat made nothing yet; each of them.
module _ {G : Ghosts Locked} where
  abbrev pub MadeNothing : Seat Locked G → Type 0
  MadeNothing s = own (claim_by s).number (claim_by s).sight.log ≡ []

  abbrev pub AllMadeNothing : List (Seat Locked G) → Type 0
  AllMadeNothing [] = Unit {0}
  AllMadeNothing (s ∷ ss) = MadeNothing s × AllMadeNothing ss

  -- A seat made no Send and no Take.
  abbrev pub MovedNothing : Seat Locked G → Type 0
  MovedNothing s = AllFrom 0 moves_none (own (claim_by s).number (claim_by s).sight.log)

  -- A worker's seat that has seen VERSION, and made nothing yet.
  pub record IsWorker (hello : Reply) (z : TableId) (s : Seat Locked G) : Type 0 where
    pub own : s.inner.table_id ≡ z
    pub sees : SeesVersion hello (claim_by s).sight
    pub new : MadeNothing s

-- These lanes and options were seen.
abbrev pub IsOf : List Lane → SftpOptions → Sight → Type 0
IsOf lanes options s = (s.lanes ≡ lanes) × (s.options ≡ options)
