-- believed: IfLogged, LogsNothing, WroteBytes, SentAll, SentLess, WentLess, ReadUpTo, GotAll
-- The bytes that an object of the environment reports, if it reports any.
use Rattle.std.specs.Prelude.{
  ◌≡◌,
  ℕ,
  zero,
  suc,
  Bool,
  true,
  false,
  List,
  [],
  ◌∷◌,
  ◌++◌,
  take,
  length,
  ◌<◌,
  ◌≤◌,
  Vec,
  ◌==◌,
  Option,
  Some,
  None,
  Result,
  Ok,
  Err,
  if◌then◌else◌,
}
use Rattle.std.specs.declared.alloc.Global.{Global}
use Rattle.sftp_link.specs.declared.piece.Piece.{Piece}
use Rattle.sftp_link.specs.declared.piece.Piece.TheVariants.{Sent, Got}
use Rattle.sftp_link.specs.declared.device_error.DeviceError.{DeviceError}
use Rattle.sftp_link.specs.Log.{SentOn, GotOn}

-- The reports before and after a call are in this relation. An object that reports once continues to report.
abbrev pub IfLogged : {A : Type 0} → (A → A → Type 0) → Option A → Option A → Type 0
IfLogged R None now = Unit {0}
IfLogged R (Some before) None = ⊥
IfLogged R (Some before) (Some now) = R before now

abbrev pub LogsNothing : {A : Type 0} → A → A → Type 0
LogsNothing before now = now ≡ before

-- `n` bytes came into the start of the room, none only if none was left.
abbrev pub CameIntoRoom : List ℕ → ℕ → List ℕ → List ℕ → Type 0
CameIntoRoom room n before now = (before ≡ take n room ++ now) × (n ≡ 0 → before ≡ [])

-- The bytes left after a read: its bytes came, or it failed and none did.
abbrev pub TellsRead : Option (List ℕ) → Option (List ℕ) → List ℕ → Result ℕ DeviceError → Type 0
TellsRead before now room (Ok n) = IfLogged (CameIntoRoom room n) before now
TellsRead before now room (Err e) = IfLogged LogsNothing before now

-- These bytes were written.
abbrev pub WroteBytes : List ℕ → List ℕ → List ℕ → Type 0
WroteBytes bytes before now = now ≡ before ++ bytes

-- The bytes written after a write: the first n bytes in addition, or it failed and none of them.
abbrev pub TellsWrite : Option (List ℕ) → Option (List ℕ) → List ℕ → Result ℕ DeviceError → Type 0
TellsWrite before now bytes (Ok n) = IfLogged (WroteBytes (take n bytes)) before now
TellsWrite before now bytes (Err e) = IfLogged LogsNothing before now

-- A log has another piece.
abbrev pub OneMore : {A : Type 0} → (List ℕ → A) → List ℕ → List A → List A → Type 0
OneMore kind bytes before now = now ≡ kind bytes ∷ before

-- The log after a send: the first n bytes were sent, or it failed and none were.
abbrev pub TellsSend : Option (List Piece) → Option (List Piece) → List ℕ → Result ℕ DeviceError → Type 0
TellsSend before now bytes (Ok n) = IfLogged (OneMore Sent (take n bytes)) before now
TellsSend before now bytes (Err e) = IfLogged LogsNothing before now

-- The log after a recv: n bytes were received, which are at the start of the room, or it failed and none were.
abbrev pub LogsReceive : Option (List Piece) → Option (List Piece) → List ℕ → Result ℕ DeviceError → Type 0
LogsReceive before now room (Ok n) = IfLogged (OneMore Got (take n room)) before now
LogsReceive before now room (Err e) = IfLogged LogsNothing before now

-- The flag of the end after a recv: it is set exactly if the recv returned that no bytes came.
abbrev pub IsEnd : Bool → Result ℕ DeviceError → Type 0
IsEnd ended (Ok zero) = ended ≡ true
IsEnd ended (Ok (suc n)) = ended ≡ false
IsEnd ended (Err e) = ended ≡ false

-- The pieces since then were sent, and join to these bytes.
abbrev pub SentAll : List ℕ → List Piece → List Piece → Type 0
SentAll bytes before now = SentOn before now bytes

-- The pieces since then were sent, and join to a prefix of the bytes.
abbrev pub SentFront : List ℕ → List Piece → List Piece → Type 0
SentFront bytes before now = (prefix : List ℕ) × (rest : List ℕ) × (bytes ≡ prefix ++ rest) × SentOn before now prefix

-- The pieces since then were sent, and join to a prefix of the bytes that is not the whole.
abbrev pub SentLess : List ℕ → List Piece → List Piece → Type 0
SentLess bytes before now =
    (prefix : List ℕ) × (rest : List ℕ) × (bytes ≡ prefix ++ rest) × (0 < length rest) × SentOn before now prefix

-- The log after all of a piece was to be sent: all was, or the link failed with bytes unsent.
abbrev pub SendsAll : {T : Type 0} → List ℕ → Option (List Piece) → Option (List Piece) → Result T DeviceError → Type 0
SendsAll bytes before now (Ok x) = IfLogged (SentAll bytes) before now
SendsAll bytes before now (Err e) = IfLogged (SentLess bytes) before now

-- A prefix of the bytes was written that is not the whole.
abbrev pub WentLess : List ℕ → List ℕ → List ℕ → Type 0
WentLess bytes before now =
    (prefix : List ℕ) × (rest : List ℕ) × (bytes ≡ prefix ++ rest) × (0 < length rest) × (now ≡ before ++ prefix)

-- The bytes written after all of a piece was to be written: all of it, or the sink failed with bytes unwritten.
abbrev pub WritesAll : {T : Type 0} → List ℕ → Option (List ℕ) → Option (List ℕ) → Result T DeviceError → Type 0
WritesAll bytes before now (Ok x) = IfLogged (WroteBytes bytes) before now
WritesAll bytes before now (Err e) = IfLogged (WentLess bytes) before now

-- All bytes that were left, up to the limit, and never more.
abbrev pub ReadUpTo : ℕ → List ℕ → List ℕ → List ℕ → Type 0
ReadUpTo limit bytes before now = (before ≡ bytes ++ now) × (length bytes < limit → now ≡ []) × (length bytes ≤ limit)

-- At most `limit` bytes are gone.
abbrev pub ReadSome : ℕ → List ℕ → List ℕ → Type 0
ReadSome limit before now = (gone : List ℕ) × (before ≡ gone ++ now) × (length gone ≤ limit)

-- The bytes left after reading up to a limit: the bytes came, or it failed and some are gone.
abbrev pub GivesUpTo : ℕ → Option (List ℕ) → Option (List ℕ) → Result (Vec ℕ Global) DeviceError → Type 0
GivesUpTo limit before now (Ok v) = IfLogged (ReadUpTo limit v.items) before now
GivesUpTo limit before now (Err e) = IfLogged (ReadSome limit) before now

-- The pieces since then were received, and join to these bytes.
abbrev pub GotAll : List ℕ → List Piece → List Piece → Type 0
GotAll bytes before now = GotOn before now bytes

-- The pieces since then were received, and join to a prefix of the bytes that is not the whole.
abbrev pub GotLess : List ℕ → List Piece → List Piece → Type 0
GotLess bytes before now =
    (prefix : List ℕ) × (rest : List ℕ) × (bytes ≡ prefix ++ rest) × (0 < length rest) × GotOn before now prefix

-- The log after a room was to be filled: all its bytes were received, or fewer, which are at its start.
abbrev pub FillsRoom : List ℕ → Option (List Piece) → Option (List Piece) → Result Bool DeviceError → Type 0
FillsRoom room before now (Ok true) = IfLogged (GotAll room) before now
FillsRoom room before now (Ok false) = IfLogged (GotLess room) before now
FillsRoom room before now (Err e) = IfLogged (GotLess room) before now

-- The flag of the end after that. If the room was not filled, it says why. A room of no bytes leaves it unchanged.
abbrev pub FillsEnd : List ℕ → Bool → Bool → Result Bool DeviceError → Type 0
FillsEnd room before now (Ok true) = now ≡ (if length room == 0 then before else false)
FillsEnd room before now (Ok false) = now ≡ true
FillsEnd room before now (Err e) = now ≡ false

-- The flag of the end after a piece was to be sent whole: cleared. A piece of no bytes leaves it unchanged.
abbrev pub SendsEnd : List ℕ → Bool → Bool → Type 0
SendsEnd bytes before now = now ≡ (if length bytes == 0 then before else false)
