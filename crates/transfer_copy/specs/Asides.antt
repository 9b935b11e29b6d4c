-- believed
-- The name that an old file of the server has until the new one has its name.
use Rattle.std.specs.Prelude.{
  ◌==◌,
  ◌+◌,
  ◌-◌,
  ℕ,
  Bool,
  false,
  nat_lt,
  List,
  [],
  ◌∷◌,
  ◌++◌,
  codes,
  length,
  take,
  Option,
  Some,
  None,
  if◌then◌else◌,
}
use Rattle.std.specs.Int.RustNames.{bit_and}
use Rattle.sftp_model.specs.Paths.{slash}
use Rattle.sftp_model.specs.declared.file_attrs.FileAttrs.{FileAttrs}

-- The number of bytes after the last slash of a path, if `len` bytes without a slash come before it.
abbrev pub name_len_from : ℕ → List ℕ → ℕ
name_len_from len [] = len
name_len_from len (b ∷ path) = name_len_from (if b == slash then 0 else len + 1) path

-- The most bytes of a part's name to which `.old` is appended: a name has at most 255 bytes.
abbrev pub MAX_PART_LEN : ℕ
MAX_PART_LEN = 251

-- The bytes of a part's path before `.old`: all of them. If its name has more than 251 bytes, the last five are left
-- out, which are `.part`.
unfoldable pub before_old : List ℕ → List ℕ
before_old part = if nat_lt MAX_PART_LEN (name_len_from 0 part) then take (length part - 5) part else part

-- The path of the old file: that of the part with `.old` after it.
unfoldable pub aside_of : List ℕ → List ℕ
aside_of part = before_old part ++ codes ".old"

-- True if these permissions are those of a directory (POSIX's `st_mode`).
abbrev pub is_directory_mode : Option ℕ → Bool
is_directory_mode (Some mode) = bit_and mode 0o170000 == 0o040000
is_directory_mode None = false

abbrev pub is_directory : FileAttrs → Bool
is_directory attrs = is_directory_mode attrs.permissions
