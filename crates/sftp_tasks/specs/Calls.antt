-- believed: InOneHold
-- Results of the calls of the shared session, with the receipts that the call's seat has then.
use Rattle.std.specs.Prelude.{
  ◌≡◌,
  ◌⊎◌,
  ℕ,
  ◌+◌,
  Bool,
  true,
  false,
  List,
  ◌∷◌,
  ◌++◌,
  length,
  Option,
  Some,
  None,
  Result,
  Ok,
  Err,
}
use Rattle.plan_model.specs.declared.call.Call.{Call}
use Rattle.session_model.specs.declared.entry.Entry.TheVariants as entry
use Rattle.session_seats.specs.declared.view.Receipt.{Receipt}
use Rattle.session_seats.specs.declared.view.Sight.{Sight}
use Rattle.session_seats.specs.Holds.{claim_of}
use Rattle.session_seats.specs.Repeats.{StepsUntil}
use Rattle.session_seats.specs.Sights.{entries, made_on, receipt}
use Rattle.session_seats.specs.Users.{Leaves}
use Rattle.sftp_model.specs.declared.error.Error.{Error}
use Rattle.sftp_model.specs.declared.error.Error.TheVariants as error
use Rattle.sftp_tasks.specs.declared.locked.Locked.{Locked}
use Rattle.sftp_tasks.specs.declared.polls.Polled.{Polled}
use Rattle.sftp_tasks.specs.declared.polls.Polled.TheVariants as polled
use Rattle.sftp_tasks.specs.LockedEvents.{OfLane, PollsLane, ReleasesLane}
use Rattle.sftp_tasks.specs.Rounds.{HoldsOnce, Token}
use Rattle.sftp_tasks.specs.SessionEvents.{AllEnded, MayTakeCalls}
use Rattle.sftp_tasks.specs.Shows.{shown_of}

-- The answer of an event if each receipt could be kept, and out of memory otherwise.
abbrev pub with_receipt : {A X Y : Type 0} → Result A Error → Result X Y → Result A Error
with_receipt (Err e) copied = Err e
with_receipt (Ok a) (Ok x) = Ok a
with_receipt (Ok a) (Err y) = Err error.OutOfMemory

-- One hold, in which this was done. With Ok no fault was recorded, and the seat has a receipt of each entry that was
-- added. An Err comes from the event itself, or because a receipt is missing.
abbrev pub AnswersSeat : {A : Type 0} → (Locked → Locked → Result A Error → Type 0) → List Receipt → List Receipt
    → Result A Error → Token → Token → Type 0
AnswersSeat Does old new (Ok a) m n =
    HoldsOnce
    (λ y z more. Does y z (Ok a) × (new ≡ old ++ made_on (length (shown_of y).past) more) × MayTakeCalls y.session) m n
AnswersSeat {A} Does old new (Err e) m n =
    HoldsOnce (λ y z more. Does y z (Err e) ⊎ ((e ≡ error.OutOfMemory) × ((a : A) × Does y z (Ok a)))) m n

-- The same of a hold whose receipts are not reported.
abbrev pub InOneHold : {A : Type 0} → (Locked → Locked → Result A Error → Type 0) → Result A Error → Token → Token
    → Type 0
InOneHold Does (Ok a) m n = HoldsOnce (λ y z more. Does y z (Ok a) × MayTakeCalls y.session) m n
InOneHold {A} Does (Err e) m n =
    HoldsOnce (λ y z more. Does y z (Err e) ⊎ ((e ≡ error.OutOfMemory) × ((a : A) × Does y z (Ok a)))) m n

-- The first new receipt is that of the call.
abbrev pub BeginsWith : ℕ → Call → List Receipt → List Receipt → Type 0
BeginsWith lane call old new =
    (place : ℕ) × ((rest : List Receipt) × (new ≡ old ++ receipt place (entry.Added lane call) ∷ rest))

-- ---- A seat that leaves the users

-- The lane that the seat names was released in one hold, and a user left in another.
pub record ReleasesSeatOfLane (lane : Option ℕ) (old new : List Receipt) (m n : Token) : Type 0 where
  pub mid : Token
  pub lets : AnswersSeat (ReleasesLane lane) old new (Ok true) m mid
  pub last : Bool
  pub leaves : Leaves shown_of last mid n

-- True if the seat left; otherwise it has the share that it had.
abbrev pub ReleasesSeat : Option ℕ → List Receipt → List Receipt → Result Bool Error → Token → Token → Type 0
ReleasesSeat lane old new (Ok true) m n = ReleasesSeatOfLane lane old new m n
    × ((claim_of n).share + 1 ≡ (claim_of m).share)
ReleasesSeat lane old new (Ok false) m n =
    AnswersSeat (ReleasesLane lane) old new (Ok false) m n × ((claim_of n).share ≡ (claim_of m).share)
ReleasesSeat lane old new (Err e) m n =
    AnswersSeat (ReleasesLane lane) old new (Err e) m n × ((claim_of n).share ≡ (claim_of m).share)

-- ---- A lane that is polled until its calls have ended

-- The effect of a poll for a seat, also for one that names no lane.
abbrev pub PollsSeat : Option ℕ → Locked → Locked → Result Polled Error → Type 0
PollsSeat lane y z r = (z ≡ record y { session = z.session }) × OfLane PollsLane (polled.Ended 0) lane y z r

abbrev pub is_ended : Polled → Bool
is_ended (polled.Ended calls) = true
is_ended polled.Moved = false
is_ended polled.Waits = false

abbrev pub calls_in : Polled → ℕ
calls_in (polled.Ended calls) = calls
calls_in other = 0

abbrev pub polled_as : Result ℕ Error → Result Polled Error
polled_as (Ok calls) = Ok (polled.Ended calls)
polled_as (Err e) = Err e

-- Holds in each of which the lane is polled, until one finds that all of its calls have ended, or is refused.
abbrev pub PollsUntil : Option ℕ → Result ℕ Error → Token → Token → Type 0
PollsUntil lane r m n = StepsUntil is_ended (InOneHold (PollsSeat lane)) (polled_as r) m n

-- The seat has seen that all calls of its lane have ended, and their number.
abbrev pub SeesEnded : Option ℕ → ℕ → Sight → Type 0
SeesEnded None calls s = calls ≡ 0
SeesEnded (Some lane) calls s = AllEnded s.lanes (entries s.log) lane calls
