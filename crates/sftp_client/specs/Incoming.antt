-- believed: Coming, nothing_came, bytes_of, KeepsOfFrame
-- Bytes of one frame, as they come.
use Rattle.std.specs.Prelude.{
  ◌≡◌,
  ◌⊎◌,
  ◌≤◌,
  ◌<◌,
  ◌+◌,
  ℕ,
  Bool,
  true,
  false,
  List,
  [],
  ◌++◌,
  length,
  Result,
  Ok,
  Err,
  OnOk,
  IfErr,
}
use Rattle.sftp_model.specs.declared.error.Error.{Error}
use Rattle.sftp_model.specs.declared.error.Error.TheVariants as error
use Rattle.sftp_model.specs.Numbers.{MAX_BODY_LEN}
use Rattle.sftp_link.specs.Told.{IfLogged, GotAll}
use Rattle.sftp_link.specs.Views.{LinkView}
use Rattle.sftp_wire.specs.FrameReader.{Received, missing_bytes, need_of}
use Rattle.link_frames.specs.Causes.{IsCausedByLink}
use Rattle.link_frames.specs.Reading.{IsBadLength, IsFramePart, IsFramePrefix, IsOfOneFrame, IsPartway}

-- The parts of a frame that came whole, which are its length and then its body, and the bytes that came of the next
-- part.
pub record Coming : Type 0 where
  pub whole : List ℕ
  pub part : List ℕ

abbrev pub nothing_came : Coming
nothing_came = record { whole = []; part = [] }

-- All the bytes that came.
abbrev pub bytes_of : Coming → List ℕ
bytes_of c = c.whole ++ c.part

-- A room for a part of this many bytes, of which some came, or no room yet.
pub record IsRoomFor (need : ℕ) (room : List ℕ) (filled : ℕ) : Type 0 where
  pub within : filled ≤ length room
  pub fits : (room ≡ []) ⊎ (length room ≡ need)

-- The room is for the next part of the frame that the reader has.
pub record IsComing (reader : Received) (room : List ℕ) (filled : ℕ) : Type 0 where
  pub partway : IsPartway reader
  pub next : IsRoomFor (need_of reader) room filled

-- A frame from its first byte to its last, and no byte past it.
abbrev pub IsFrame : List ℕ → Type 0
IsFrame bytes = (missing_bytes bytes ≡ 0) × IsFramePrefix bytes

-- The relation between a truth value and a frame: true if all of the frame came.
abbrev pub TellsWhole : Bool → Coming → Type 0
TellsWhole true c = IsFrame c.whole × (c.part ≡ [])
TellsWhole false c = (0 < missing_bytes c.whole) × (length c.whole < 4 + MAX_BODY_LEN)

-- The errors with which no more of a part came.
abbrev pub IsUnfilled : Error → Type 0
IsUnfilled error.OutOfMemory = Unit {0}
IsUnfilled error.LinkFault = Unit {0}
IsUnfilled error.LinkEnded = Unit {0}
IsUnfilled other = ⊥

-- Bytes of a part of this length came, after those that had come: all of it, or fewer and an error.
pub record FillsPart {Service T : Type 0} (need : ℕ) (old new : List ℕ) (before now : LinkView Service)
    (result : Result T Error) : Type 0 where
  pub got : List ℕ
  pub come : new ≡ old ++ got
  pub full : OnOk result (length new ≡ need)
  pub short : IfErr result (λ e. IsUnfilled e × (length new < need))
  pub log : IfLogged (GotAll got) before.log now.log
  pub caused : IsCausedByLink before now result

-- The bytes of a frame that are kept, by the error for which no more of them came: after a wrong length none.
abbrev pub KeepsOfFrame : Error → List ℕ → Coming → Type 0
KeepsOfFrame error.OutOfMemory bytes new = (bytes_of new ≡ bytes) × IsOfOneFrame bytes
KeepsOfFrame error.LinkFault bytes new = (bytes_of new ≡ bytes) × IsFramePart bytes
KeepsOfFrame error.LinkEnded bytes new = (bytes_of new ≡ bytes) × IsFramePart bytes
KeepsOfFrame (error.FormatError kind) bytes new = (new ≡ nothing_came) × IsBadLength kind bytes
KeepsOfFrame other bytes new = ⊥

-- The bytes of a frame after more came, if all that was asked for came and if not.
abbrev pub FrameSoFar : {T : Type 0} → (List ℕ → Type 0) → List ℕ → Coming → Result T Error → Type 0
FrameSoFar Whole bytes new (Ok x) = Whole bytes × (new ≡ record { whole = bytes; part = [] })
FrameSoFar Whole bytes new (Err e) = KeepsOfFrame e bytes new

-- Bytes came that continue those of the frame, as far as `Whole` says.
pub record PullsTo {Service T : Type 0} (Whole : List ℕ → Type 0) (old new : Coming) (before now : LinkView Service)
    (result : Result T Error) : Type 0 where
  pub got : List ℕ
  pub log : IfLogged (GotAll got) before.log now.log
  pub comes : FrameSoFar Whole (bytes_of old ++ got) new result
  pub caused : IsCausedByLink before now result

-- Bytes came up to the end of the frame.
abbrev pub ReadsFrame : {Service T : Type 0} → Coming → Coming → LinkView Service → LinkView Service → Result T Error
    → Type 0
ReadsFrame old new before now result = PullsTo IsFrame old new before now result

-- Bytes came up to the end of the frame's next part.
abbrev pub PullsPart : {Service T : Type 0} → Coming → Coming → LinkView Service → LinkView Service → Result T Error
    → Type 0
PullsPart old new before now result = PullsTo (λ bytes. length old.whole < length bytes) old new before now result
