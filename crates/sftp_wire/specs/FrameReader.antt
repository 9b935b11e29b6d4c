-- believed, except nothing, fault_where, fault_with, PushesBytes, NotPushed, IsFront
-- The state of a frame reader: the bytes that came since it was cleared, and the reason why they cannot begin a frame.
-- A frame is a length of four bytes and a body of that length (draft-ietf-secsh-filexfer-02, section 3).
use Rattle.std.specs.Prelude.{
  ◌≡◌,
  ◌≤◌,
  ℕ,
  ◌+◌,
  ◌-◌,
  ◌==◌,
  List,
  [],
  ◌++◌,
  length,
  take,
  drop,
  Option,
  Some,
  None,
  nat_lt,
  if◌then◌else◌,
}
use Rattle.std.specs.Int.{w32, from_be_bytes}
use Rattle.sftp_model.specs.declared.frame_error.FormatKind.{FormatKind}
use Rattle.sftp_model.specs.declared.frame_error.FormatKind.TheVariants as kinds
use Rattle.sftp_model.specs.declared.frame_error.FrameError.{FrameError}
use Rattle.sftp_model.specs.declared.frame_error.FrameError.TheVariants as errors
use Rattle.sftp_model.specs.Numbers.{MAX_BODY_LEN}

-- The bytes that were taken, and the error that is kept instead of further bytes.
pub record Received : Type 0 where
  pub bytes : List ℕ
  pub refused : Option FormatKind

-- The state without bytes and without an error.
abbrev pub nothing : Received
nothing = record { bytes = []; refused = None }

-- The length in the first four bytes.
abbrev pub told_len : List ℕ → ℕ
told_len bytes = from_be_bytes w32 (take 4 bytes)

-- The length, once its four bytes have come.
abbrev pub len_of : List ℕ → Option ℕ
len_of bytes = if nat_lt (length bytes) 4 then None else Some (told_len bytes)

-- The fault of a length, if it has one.
abbrev pub fault_of_len : Option ℕ → Option FormatKind
fault_of_len None = None
fault_of_len (Some len) =
    if len == 0 then Some kinds.Length
    else if nat_lt MAX_BODY_LEN len then Some kinds.Overflow
    else None

abbrev pub fault_of : List ℕ → Option FormatKind
fault_of bytes = fault_of_len (len_of bytes)

-- The number of a frame's bytes that are missing, if `len` is its length.
abbrev pub missing_with : Option ℕ → ℕ → ℕ
missing_with None count = 4 - count
missing_with (Some len) count = (4 + len) - count

abbrev pub missing_bytes : List ℕ → ℕ
missing_bytes bytes = missing_with (len_of bytes) (length bytes)

abbrev pub need_where : Option FormatKind → List ℕ → ℕ
need_where None bytes = missing_bytes bytes
need_where (Some kind) bytes = 1

-- The number of bytes that are missing to the end of the length, or of the body; 1 after an error.
abbrev pub need_of : Received → ℕ
need_of r = need_where r.refused r.bytes

abbrev pub body_where : Option FormatKind → List ℕ → Option (List ℕ)
body_where None bytes = if missing_bytes bytes == 0 then Some (drop 4 bytes) else None
body_where (Some kind) bytes = None

-- The body, once it is whole.
abbrev pub body_of : Received → Option (List ℕ)
body_of r = body_where r.refused r.bytes

abbrev pub fault_where : Option FormatKind → List ℕ → Option FormatKind
fault_where None bytes = fault_of bytes
fault_where (Some kind) bytes = Some kind

-- The error for further bytes; an error that is kept stays.
abbrev pub fault_with : Received → List ℕ → Option FormatKind
fault_with r bytes = fault_where r.refused (r.bytes ++ bytes)

-- The bytes came after those before them.
abbrev pub PushesBytes : Received → List ℕ → Received → Type 0
PushesBytes old bytes new = (fault_with old bytes ≡ None) × (new
    ≡ record { bytes = old.bytes ++ bytes; refused = None })

-- An error is kept instead of the bytes; running out of memory changes nothing.
abbrev pub NotPushed : Received → List ℕ → Received → FrameError → Type 0
NotPushed old bytes new errors.OutOfMemory = new ≡ old
NotPushed old bytes new (errors.Format kind) = (fault_with old bytes ≡ Some kind)
    × (new ≡ record { bytes = old.bytes; refused = Some kind })
NotPushed old bytes new (errors.HandleTooLong len) = ⊥

-- The kept bytes are a prefix of a frame, and `len` is the length that they report.
pub record IsFront (bytes : List ℕ) (len : Option ℕ) : Type 0 where
  pub told : len ≡ len_of bytes
  pub good : fault_of_len len ≡ None
  pub within : 4 ≤ length bytes → length bytes ≤ 4 + told_len bytes
