-- Bytes of a file that follow one another without a gap. No two READs of a stream begin at one offset, so a reply is
-- named by the offset of its READ.
use Rattle.std.specs.Prelude.{◌≡◌, ℕ, zero, suc, ◌+◌, List, [], ◌++◌, length, take, drop, Option, Some, None}
use Rattle.sftp_model.specs.declared.reply.Reply.{Reply}
use Rattle.sftp_model.specs.declared.reply.Reply.TheVariants as reply

-- The bytes of a DATA.
abbrev pub data_of : Option Reply → Option (List ℕ)
data_of (Some (reply.Content bytes)) = Some bytes
data_of other = None

-- The bytes that begin at an offset: for a download those of the DATA to the READ there.
abbrev pub PiecesAt : Type 0
PiecesAt = ℕ → Option (List ℕ)

-- The DATA of these replies, by the offsets of their READs.
abbrev pub data_at : (ℕ → Option Reply) → PiecesAt
data_at replies offset = data_of (replies offset)

-- Each piece has the bytes of the file at the offset where it begins.
abbrev pub AreOfFile : List ℕ → PiecesAt → Type 0
AreOfFile file pieces = (offset : ℕ) (bytes : List ℕ) → pieces offset ≡ Some bytes
    → bytes ≡ take (length bytes) (drop offset file)

-- These bytes, and the bytes that follow them.
abbrev pub bytes_then : Option (List ℕ) → (List ℕ → List ℕ) → List ℕ
bytes_then None go = []
bytes_then (Some bytes) go = bytes ++ go bytes

-- The longest run of bytes from an offset without a gap, of at most this many pieces: each begins where the one before
-- ended.
abbrev pub unbroken_run : ℕ → PiecesAt → ℕ → List ℕ
unbroken_run zero pieces offset = []
unbroken_run (suc most) pieces offset = bytes_then (pieces offset)
    (λ bytes. unbroken_run most pieces (offset + length bytes))

-- This many pieces from an offset on gave these bytes, and the next byte is the one at `next`.
abbrev pub ReachesOffset : ℕ → PiecesAt → ℕ → List ℕ → ℕ → Type 0
ReachesOffset zero pieces first given next = (given ≡ []) × (next ≡ first)
ReachesOffset (suc n) pieces first given next = (bytes : List ℕ) × (later : List ℕ) × (pieces first ≡ Some bytes)
    × (given ≡ bytes ++ later) × ReachesOffset n pieces (first + length bytes) later next
