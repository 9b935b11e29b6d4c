-- believed
-- The bounds of a server in memory.
use Rattle.std.specs.Prelude.{ℕ}

-- The greatest length of a name's component, in bytes.
abbrev pub MAX_COMPONENT_LEN : ℕ
MAX_COMPONENT_LEN = 255

-- The greatest length of one file, in bytes.
abbrev pub MAX_FILE_LEN : ℕ
MAX_FILE_LEN = 16777216

-- The greatest length of all files together, in bytes.
abbrev pub MAX_TOTAL_LEN : ℕ
MAX_TOTAL_LEN = 67108864

-- The most entries of one NAME.
abbrev pub MAX_NAME_ENTRIES : ℕ
MAX_NAME_ENTRIES = 1000

-- The permissions of each directory, 0o040755: all may read it, and its owner may change it.
abbrev pub DIRECTORY_PERMISSIONS : ℕ
DIRECTORY_PERMISSIONS = 16877
