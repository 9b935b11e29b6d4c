-- The kinds of file, by the bits of POSIX's `S_IFMT`.
use Rattle.std.specs.Prelude.{ℕ, ◌==◌, Option, Some, None, if◌then◌else◌}
use Rattle.std.specs.Int.RustNames.{bit_and}
use Rattle.sftp_meta.specs.declared.file_type.RawFileType.{RawFileType}
use Rattle.sftp_meta.specs.declared.file_type.RawFileType.TheVariants.{
  Socket,
  Symlink,
  RegularFile,
  BlockDevice,
  Directory,
  CharacterDevice,
  FIFO,
}

-- The kind of file that these bits alone name.
abbrev pub type_of_bits : ℕ → Option RawFileType
type_of_bits bits =
    if bits == 0o140000 then Some Socket
    else if bits == 0o120000 then Some Symlink
    else if bits == 0o100000 then Some RegularFile
    else if bits == 0o060000 then Some BlockDevice
    else if bits == 0o040000 then Some Directory
    else if bits == 0o020000 then Some CharacterDevice
    else if bits == 0o010000 then Some FIFO
    else None

-- The kind of file of an `st_mode`.
abbrev pub type_of_mode : ℕ → Option RawFileType
type_of_mode mode = type_of_bits (bit_and mode 0o170000)
