-- The frames that were sent to a scripted link, and the frames that it replies with.
use Rattle.std.specs.Prelude.{
  ℕ,
  zero,
  suc,
  ◌+◌,
  List,
  ◌∷◌,
  ◌++◌,
  take,
  drop,
  length,
  nat_lt,
  bit_xor,
  Option,
  Some,
  None,
  if◌then◌else◌,
  option_and_then,
}
use Rattle.std.specs.Option.{option_map}
use Rattle.std.specs.Int.{w32, from_be_bytes, to_be_bytes}
use Rattle.sftp_link.specs.declared.piece.Scripted.{Scripted}
use Rattle.sftp_link.specs.declared.piece.Scripted.TheVariants.{Raw, To}

-- The number in the first four bytes, the most significant first.
unfoldable pub number_of : List ℕ → ℕ
number_of bytes = from_be_bytes w32 bytes

-- The first `n` bytes and the bytes after them, if at least `n` have come.
abbrev pub part_of : ℕ → List ℕ → Option (List ℕ × List ℕ)
part_of n bytes = if nat_lt (length bytes) n then None else Some (take n bytes, drop n bytes)

-- The first frame's body and the bytes after it, if the frame has come whole.
abbrev pub first_frame : List ℕ → Option (List ℕ × List ℕ)
first_frame bytes = if nat_lt (length bytes) 4 then None else part_of (number_of bytes) (drop 4 bytes)

-- The bytes after the first k frames.
abbrev pub behind_frames : ℕ → List ℕ → Option (List ℕ)
behind_frames zero bytes = Some bytes
behind_frames (suc k) bytes = option_map (λ f. f.1) (option_and_then first_frame (behind_frames k bytes))

-- The body of frame k, counted from 0, if it has come whole.
abbrev pub frame_at : ℕ → List ℕ → Option (List ℕ)
frame_at k bytes = option_map (λ f. f.0) (option_and_then first_frame (behind_frames k bytes))

-- The id after the kind of a body that is long enough for one.
abbrev pub id_in : List ℕ → Option ℕ
id_in body = if nat_lt (length body) 5 then None else Some (number_of (drop 1 body))

-- The id of frame k, if it has come whole. Frame 0 is the hello, whose id is 0.
abbrev pub id_of_frame : ℕ → List ℕ → Option ℕ
id_of_frame zero bytes = option_map (λ _. 0) (frame_at 0 bytes)
id_of_frame (suc k) bytes = option_and_then id_in (frame_at (suc k) bytes)

-- The frame of a kind, an id and fields.
unfoldable pub frame_of_fields : ℕ → ℕ → List ℕ → List ℕ
frame_of_fields kind id fields = to_be_bytes w32 (5 + length fields) ++ kind ∷ to_be_bytes w32 id ++ fields

-- The bytes of an item after these bytes were sent. A `To` has none until the frame that it names has come whole, and
-- none if its fields are too long for a frame.
abbrev pub item_bytes : List ℕ → Scripted → Option (List ℕ)
item_bytes sent (Raw bytes) = Some bytes
item_bytes sent (To request flip kind fields) =
    if nat_lt 4294967290 (length fields) then None
    else option_map (λ id. frame_of_fields kind (bit_xor id flip) fields) (id_of_frame request sent)
