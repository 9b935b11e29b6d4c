-- The facts about the log that the loops of a server keep.
use Rattle.std.specs.Prelude.{
  ◌≡◌,
  ◌⊎◌,
  ◌<◌,
  ◌≤◌,
  ℕ,
  ◌+◌,
  Bool,
  true,
  false,
  List,
  [],
  ◌∷◌,
  ◌++◌,
  length,
  None,
  is_some,
  Result,
  Ok,
  Err,
  IfOk,
  OnOk,
}
use Rattle.sftp_link.specs.declared.piece.Piece.{Piece}
use Rattle.sftp_link.specs.declared.piece.Piece.TheVariants.{Got}
use Rattle.sftp_link.specs.Told.{IfLogged}
use Rattle.sftp_link.specs.Views.{LinkView}
use Rattle.sftp_wire.specs.FrameReader.{Received, fault_of, missing_bytes, need_of, nothing}
use Rattle.sftp_serve.specs.declared.stop.Stop.{Stop}
use Rattle.sftp_serve.specs.declared.stop.Stop.TheVariants as stop
use Rattle.sftp_serve.specs.Logs.{InOrder, IsPrefix, MAX_FRAMES, got_bytes, sent_bytes}
use Rattle.sftp_serve.specs.Stream.{BreaksStream, IsBroken, IsUnfinished, IsAnswered, ServedState}

-- `count` frames are answered and leave this state, a part of the next one came, and everything was in order.
pub record AnsweredSoFar (first : ServedState) (count : ℕ) (left : ServedState) (part : List ℕ) (log : List Piece) :
    Type 0 where
  pub served : IsAnswered first (got_bytes log) count (sent_bytes log) left part
  pub order : InOrder first log

-- A link failed: the bytes that were sent are a prefix of the answers, and no frame came whole except the answered
-- ones.
pub record IsCutOff (first : ServedState) (log : List Piece) : Type 0 where
  pub order : InOrder first log
  pub count : ℕ
  pub more : List ℕ
  pub left : ServedState
  pub rest : List ℕ
  pub served : IsAnswered first (got_bytes log) count (sent_bytes log ++ more) left rest
  pub part : IsUnfinished rest

-- The facts about the log, by the reason why no further frame is served.
abbrev pub StopsServing : ServedState → ℕ → ServedState → Bool → Stop → List Piece → Type 0
StopsServing first count left ended stop.Ended log = (ended ≡ true) × AnsweredSoFar first count left [] log
StopsServing first count left ended stop.Broken log = (rest : List ℕ) × AnsweredSoFar first count left rest log
    × BreaksStream left ended rest
StopsServing first count left ended stop.Faulted log = (ended ≡ false) × IsCutOff first log
StopsServing first count left ended stop.OutOfMemory log = InOrder first log × IsPrefix first log

-- The number of faults of the link, and its flag of the end.
abbrev pub StopCause : {T Service : Type 0} → LinkView Service → LinkView Service → Result T Stop → Type 0
StopCause old new (Ok x) = new.faults ≡ old.faults
StopCause old new (Err stop.Faulted) = old.faults < new.faults
StopCause old new (Err stop.Ended) = (new.faults ≡ old.faults) × (new.ended ≡ true)
StopCause old new (Err other) = new.faults ≡ old.faults

-- ---- Some bytes of a frame

-- A reader that has a part of a frame, or a whole one.
pub record IsUnrefused (r : Received) : Type 0 where
  pub unrefused : r.refused ≡ None
  pub good : fault_of r.bytes ≡ None

-- The buffer is for bytes of the frame alone.
pub record HasRoom (r : Received) (room : List ℕ) : Type 0 where
  pub good : IsUnrefused r
  pub some : 0 < length room
  pub fits : length room ≤ need_of r

-- The reader has more bytes, or the end was met.
abbrev pub HasMore : Received → Received → Bool → Bool → Type 0
HasMore old new ended true = IsUnrefused new × (length old.bytes < length new.bytes)
HasMore old new ended false = (new ≡ old) × (ended ≡ true)

-- One piece came.
abbrev pub TakesSome : Received → Received → Bool → Result Bool Stop → List Piece → List Piece → Type 0
TakesSome old new ended (Ok true) before now = (bytes : List ℕ) × (now ≡ Got bytes ∷ before)
    × (new.bytes ≡ old.bytes ++ bytes)
TakesSome old new ended (Ok false) before now = now ≡ Got [] ∷ before
TakesSome old new ended (Err stop.Ended) before now = ⊥
TakesSome old new ended (Err stop.Broken) before now = (bytes : List ℕ) × (now ≡ Got bytes ∷ before)
    × (is_some (fault_of (old.bytes ++ bytes)) ≡ true)
TakesSome old new ended (Err stop.Faulted) before now = (now ≡ before) × (ended ≡ false)
TakesSome old new ended (Err stop.OutOfMemory) before now = (now ≡ before)
    ⊎ ((bytes : List ℕ) × (now ≡ Got bytes ∷ before))

-- Some bytes were taken.
pub record TookSome {Service : Type 0} (old new : Received) (before now : LinkView Service) (result : Result Bool Stop)
    : Type 0 where
  pub grows : IfOk result (λ more. HasMore old new now.ended more)
  pub log : IfLogged (TakesSome old new now.ended result) before.log now.log
  pub cause : StopCause before now result

-- ---- One frame

-- A whole frame.
pub record IsFrame (r : Received) : Type 0 where
  pub good : IsUnrefused r
  pub whole : missing_bytes r.bytes ≡ 0

-- For each log before it: a frame came after it that isn't answered yet.
abbrev pub TakesFrame : List ℕ → Bool → Result (Unit {0}) Stop → List Piece → List Piece → Type 0
TakesFrame bytes ended (Ok x) before now = (first : ServedState) (count : ℕ) (left : ServedState)
    → AnsweredSoFar first count left [] before → AnsweredSoFar first count left bytes now
TakesFrame bytes ended (Err e) before now = (first : ServedState) (count : ℕ) (left : ServedState)
    → AnsweredSoFar first count left [] before → StopsServing first count left ended e now

-- A frame was taken.
pub record TookFrame {Service : Type 0} (reader : Received) (before now : LinkView Service)
    (result : Result (Unit {0}) Stop) : Type 0 where
  pub whole : OnOk result (IsFrame reader)
  pub log : IfLogged (TakesFrame reader.bytes now.ended result) before.log now.log
  pub cause : StopCause before now result

-- For each log before it: another frame is answered.
abbrev pub ServesOne : ServedState → ServedState → Bool → Result (Unit {0}) Stop → List Piece → List Piece → Type 0
ServesOne old new ended (Ok x) before now = (first : ServedState) (count : ℕ) → AnsweredSoFar first count old [] before
    → AnsweredSoFar first (count + 1) new [] now
ServesOne old new ended (Err e) before now = (first : ServedState) (count : ℕ) → AnsweredSoFar first count old [] before
    → StopsServing first count old ended e now

-- A frame was answered, and the reader is ready for another.
pub record ServedOne {Service : Type 0} (old new : ServedState) (reader : Received) (before now : LinkView Service)
    (result : Result (Unit {0}) Stop) : Type 0 where
  pub fresh : OnOk result (reader ≡ nothing)
  pub log : IfLogged (ServesOne old new now.ended result) before.log now.log
  pub cause : StopCause before now result

-- ---- All frames

-- The facts about the log when no further frame is served, by the status.
pub record ShowsStop (first : ServedState) (status : ℕ) (ended : Bool) (log : List Piece) : Type 0 where
  pub order : InOrder first log
  pub prefix : IsPrefix first log
  pub whole : status ≡ 0 → (ended ≡ true) × ((count : ℕ) × (count < MAX_FRAMES)
      × ((left : ServedState) × IsAnswered first (got_bytes log) count (sent_bytes log) left []))
  pub broken : status ≡ 1 → IsBroken first ended (got_bytes log) (sent_bytes log)
  pub cut : status ≡ 3 → (ended ≡ false) × IsCutOff first log
  pub full : status ≡ 7 → (left : ServedState) × IsAnswered first (got_bytes log) MAX_FRAMES (sent_bytes log) left []

-- The same for a log that was empty at first.
abbrev pub HaltsAll : ServedState → ℕ → Bool → List Piece → List Piece → Type 0
HaltsAll first status ended before now = before ≡ [] → ShowsStop first status ended now
