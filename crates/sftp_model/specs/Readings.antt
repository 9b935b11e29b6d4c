-- believed
-- The value that the body of a frame is read as, field by field from its first byte. The error is that of the first
-- field that fails (draft-ietf-secsh-filexfer-02, sections 3 to 8).
use Rattle.std.specs.Prelude.{
  ℕ,
  zero,
  suc,
  ◌==◌,
  Bool,
  true,
  false,
  not,
  List,
  [],
  ◌∷◌,
  length,
  codes,
  Option,
  Some,
  None,
  Result,
  Ok,
  Err,
  nat_lt,
  if◌then◌else◌,
}
use Rattle.std.specs.Int.{w32, w64}
use Rattle.std.specs.Int.RustNames.{bit_and, bit_or}
use Rattle.std.specs.Str.{bytes_eq}
use Rattle.ssh_encoding.specs.declared.error.Error.{Error}
use Rattle.ssh_encoding.specs.Reading.{◌>>=◌, number_at, string_at}
use Rattle.sftp_model.specs.declared.file_attrs.FileAttrs.{FileAttrs}
use Rattle.sftp_model.specs.declared.frame_error.FrameError.{FrameError}
use Rattle.sftp_model.specs.declared.frame_error.FrameError.TheVariants as errors
use Rattle.sftp_model.specs.declared.frame_error.FormatKind.TheVariants as kinds
use Rattle.sftp_model.specs.Numbers.{
  SSH_FILEXFER_ATTR_SIZE,
  SSH_FILEXFER_ATTR_UIDGID,
  SSH_FILEXFER_ATTR_PERMISSIONS,
  SSH_FILEXFER_ATTR_ACMODTIME,
  SSH_FILEXFER_ATTR_EXTENDED,
  MAX_HANDLE_LEN,
}
use Rattle.sftp_model.specs.FieldErrors.{frame_error}
use Rattle.sftp_model.specs.Frames.{extension_table}

-- The value or error of a field, as that of its frame.
abbrev pub field : {A : Type 0} → Result A Error → Result A FrameError
field (Ok x) = Ok x
field (Err e) = Err (frame_error e)

-- No bytes may follow the last field.
abbrev pub whole : {A : Type 0} → A × List ℕ → Result A FrameError
whole read = if length read.1 == 0 then Ok read.0 else Err (errors.Format (kinds.TrailingData (length read.1)))

-- No handle may be longer than the bound; the error has the length of the first one that is longer.
abbrev pub with_short_handles : {A : Type 0} → List (List ℕ) → A → Result A FrameError
with_short_handles [] x = Ok x
with_short_handles (h ∷ handles) x = if nat_lt MAX_HANDLE_LEN (length h) then Err (errors.HandleTooLong (length h)) else
    with_short_handles handles x

-- The fields after an id.
abbrev pub with_id : {A : Type 0} → (List ℕ → Result (A × List ℕ) FrameError) → List ℕ
    → Result ((Option ℕ × A) × List ℕ) FrameError
with_id fields bytes = do
  id ← field (number_at w32 bytes)
  read ← fields id.1
  Ok ((Some id.0, read.0), read.1)

-- The fields without an id.
abbrev pub without_id : {A : Type 0} → (List ℕ → Result (A × List ℕ) FrameError) → List ℕ
    → Result ((Option ℕ × A) × List ℕ) FrameError
without_id fields bytes = do
  read ← fields bytes
  Ok ((None, read.0), read.1)

abbrev pub unknown_type : {A : Type 0} → ℕ → Result A FrameError
unknown_type kind = Err (errors.Format (kinds.InvalidDiscriminant kind))

-- ---- Attributes (section 5)

-- True if the bit is set.
abbrev pub has_bit : ℕ → ℕ → Bool
has_bit flags n = not (bit_and flags n == 0)

-- The twelve permission bits of a mode, without those of the type of file.
abbrev pub permission_bits : ℕ → ℕ
permission_bits mode = bit_and mode 0o7777

-- A field that is present only if its bit is set.
abbrev pub where_set : {A : Type 0} → Bool → (List ℕ → Result (A × List ℕ) FrameError) → List ℕ
    → Result (Option A × List ℕ) FrameError
where_set false fields bytes = Ok (None, bytes)
where_set true fields bytes = do
  read ← fields bytes
  Ok (Some read.0, read.1)

abbrev pub uint32_at : List ℕ → Result (ℕ × List ℕ) FrameError
uint32_at bytes = field (number_at w32 bytes)

abbrev pub uint64_at : List ℕ → Result (ℕ × List ℕ) FrameError
uint64_at bytes = field (number_at w64 bytes)

abbrev pub text_at : List ℕ → Result (List ℕ × List ℕ) FrameError
text_at bytes = field (string_at bytes)

unfoldable pub two_numbers_at : List ℕ → Result ((ℕ × ℕ) × List ℕ) FrameError
two_numbers_at bytes = do
  first ← uint32_at bytes
  second ← uint32_at first.1
  Ok ((first.0, second.0), second.1)

-- The bytes after a count of pairs of strings, which are passed over one by one.
abbrev pub behind_pairs : ℕ → List ℕ → Result (List ℕ) FrameError
behind_pairs zero bytes = Ok bytes
behind_pairs (suc n) bytes = do
  name ← text_at bytes
  value ← text_at name.1
  behind_pairs n value.1

unfoldable pub behind_counted_pairs : List ℕ → Result (Unit {0} × List ℕ) FrameError
behind_counted_pairs bytes = do
  count ← uint32_at bytes
  rest ← behind_pairs count.0 count.1
  Ok (tt, rest)

-- Bits, followed by the fields whose bits are set. Other bits carry no field. The extended pairs are dropped.
unfoldable pub attributes_at : List ℕ → Result (FileAttrs × List ℕ) FrameError
attributes_at bytes = do
  flags ← uint32_at bytes
  size ← where_set (has_bit flags.0 SSH_FILEXFER_ATTR_SIZE) uint64_at flags.1
  id ← where_set (has_bit flags.0 SSH_FILEXFER_ATTR_UIDGID) two_numbers_at size.1
  permissions ← where_set (has_bit flags.0 SSH_FILEXFER_ATTR_PERMISSIONS) uint32_at id.1
  time ← where_set (has_bit flags.0 SSH_FILEXFER_ATTR_ACMODTIME) two_numbers_at permissions.1
  pairs ← where_set (has_bit flags.0 SSH_FILEXFER_ATTR_EXTENDED) behind_counted_pairs time.1
  Ok (record { size = size.0; id = id.0; permissions = permissions.0; time = time.0 }, pairs.1)

-- ---- Extensions (section 4, and OpenSSH's PROTOCOL)

-- The bit of a name in a table, 0 if the table lacks it.
abbrev pub named_bit : List (List ℕ × ℕ) → List ℕ → ℕ
named_bit [] name = 0
named_bit (row ∷ table) name = if bytes_eq name row.0 then row.1 else named_bit table name

-- The bit that a pair of VERSION adds: only a pair with the value `1` counts.
abbrev pub pair_bit : List ℕ → List ℕ → ℕ
pair_bit name value = if bytes_eq value (codes "1") then named_bit extension_table name else 0

-- The set that the pairs up to the end add to a set. A pair takes eight bytes or more, so `most` need not be greater
-- than the number of bytes.
abbrev pub with_pairs : ℕ → ℕ → List ℕ → Result ℕ FrameError
with_pairs zero set bytes = Ok set
with_pairs (suc most) set [] = Ok set
with_pairs (suc most) set (b ∷ bytes) = do
  name ← text_at (b ∷ bytes)
  value ← text_at name.1
  with_pairs most (bit_or set (pair_bit name.0 value.0)) value.1

unfoldable pub extensions_at : List ℕ → Result ℕ FrameError
extensions_at bytes = with_pairs (length bytes) 0 bytes
