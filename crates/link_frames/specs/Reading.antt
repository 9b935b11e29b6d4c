-- believed, except IsPartway, IsUnfilled, FilledOrNot, BeginsFrame, RefusesLength
-- The bytes of a frame that come over the calls of a link.
use Rattle.std.specs.Prelude.{◌≡◌, ◌⊎◌, ◌<◌, ◌≤◌, ◌+◌, ℕ, List, length, take, Option, None, Some, Result, Ok, Err}
use Rattle.sftp_model.specs.declared.error.Error.{Error}
use Rattle.sftp_model.specs.declared.error.Error.TheVariants as error
use Rattle.sftp_model.specs.declared.frame_error.FormatKind.{FormatKind}
use Rattle.sftp_link.specs.declared.piece.Piece.{Piece}
use Rattle.sftp_link.specs.Log.{GotOn}
use Rattle.sftp_link.specs.Told.{IfLogged, GotAll, GotLess}
use Rattle.sftp_wire.specs.FrameReader.{Received, need_of, fault_of, missing_bytes, told_len}

-- The first bytes of a frame, or all of them, and no byte past it. Once its length has come, it is one that a frame may
-- have.
pub record IsFramePrefix (bytes : List ℕ) : Type 0 where
  pub unfaulted : fault_of bytes ≡ None
  pub within : 4 ≤ length bytes → length bytes ≤ 4 + told_len bytes

-- A reader that has a prefix of a frame and refused none.
pub record IsPartway (r : Received) : Type 0 where
  pub unrefused : r.refused ≡ None
  pub prefix : IsFramePrefix r.bytes

-- The first bytes of a frame, or the four bytes of a length, which may be a wrong one.
abbrev pub IsOfOneFrame : List ℕ → Type 0
IsOfOneFrame bytes = IsFramePrefix bytes ⊎ (length bytes ≡ 4)

-- The first bytes of a frame, and not all of them.
pub record IsFramePart (bytes : List ℕ) : Type 0 where
  pub unfaulted : fault_of bytes ≡ None
  pub short : 0 < missing_bytes bytes

-- A length that no frame may have, and no byte past it.
pub record IsBadLength (kind : FormatKind) (bytes : List ℕ) : Type 0 where
  pub four : length bytes ≡ 4
  pub bad : fault_of bytes ≡ Some kind

-- The bytes that came of a frame if no more of it could be taken, by the error.
abbrev pub TellsWhy : Error → List ℕ → Type 0
TellsWhy error.OutOfMemory bytes = IsOfOneFrame bytes
TellsWhy error.LinkFault bytes = IsFramePart bytes
TellsWhy error.LinkEnded bytes = IsFramePart bytes
TellsWhy other bytes = (kind : FormatKind) × ((other ≡ error.FormatError kind) × IsBadLength kind bytes)

-- Bytes were received that show why no whole frame was taken.
abbrev pub ReadFails : Error → List Piece → List Piece → Type 0
ReadFails e before now = (bytes : List ℕ) × (TellsWhy e bytes × GotOn before now bytes)

-- A frame has come from its first byte to its last, and no byte past it.
pub record IsWhole (r : Received) : Type 0 where
  pub unrefused : r.refused ≡ None
  pub none_missing : need_of r ≡ 0
  pub prefix : IsFramePrefix r.bytes

-- The errors if a room was not filled: out of memory, a fault of the link, or its end.
abbrev pub IsUnfilled : Error → Type 0
IsUnfilled error.OutOfMemory = Unit {0}
IsUnfilled error.LinkFault = Unit {0}
IsUnfilled error.LinkEnded = Unit {0}
IsUnfilled other = ⊥

-- The log after a room was to be filled: all its bytes were received, or a prefix that is not the whole.
abbrev pub FilledOrNot : {T : Type 0} → List ℕ → Option (List Piece) → Option (List Piece) → Result T Error → Type 0
FilledOrNot room before now (Ok x) = IfLogged (GotAll room) before now
FilledOrNot room before now (Err e) = IsUnfilled e × IfLogged (GotLess room) before now

-- A frame whose length has come, and room for its body.
pub record BeginsFrame (len frame : List ℕ) : Type 0 where
  pub unfaulted : fault_of len ≡ None
  pub begins : take 4 frame ≡ len
  pub room : length frame ≡ 4 + told_len len

-- The errors of a frame whose length has come: out of memory, or a wrong length.
abbrev pub RefusesLength : Error → List ℕ → Type 0
RefusesLength error.OutOfMemory len = Unit {0}
RefusesLength (error.FormatError kind) len = fault_of len ≡ Some kind
RefusesLength other len = ⊥
