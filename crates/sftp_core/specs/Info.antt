-- believed, except HasLengths, IsRanged, most_ids
-- The facts that a session knows about its server, and how far the greeting has come.
use Rattle.std.specs.Prelude.{ℕ, ◌≤◌, Option, Some, None}
use Rattle.sftp_model.specs.Lengths.{session_lengths}
use Rattle.sftp_model.specs.Numbers.{MAX_TRANSFER_LEN}
use Rattle.sftp_model.specs.declared.config.Limits.{Limits}
use Rattle.sftp_model.specs.declared.flags.Extensions.{Extensions}
use Rattle.sftp_model.specs.declared.options.SftpOptions.{SftpOptions}
use Rattle.sftp_core.specs.declared.info.Info.{Info}
use Rattle.sftp_core.specs.declared.handshake.Handshake.{Handshake}
use Rattle.sftp_core.specs.declared.handshake.Handshake.TheVariants.{Greeting, Asking, Open}

-- The read length and the write length of a session with these limits and options.
abbrev pub lengths_of : Option Limits → SftpOptions → ℕ × ℕ
lengths_of limits options = session_lengths limits options.max_read_len options.max_write_len

-- The facts that a session knows about a server with these extensions and limits.
abbrev pub info_with : Extensions → Option Limits → SftpOptions → Info
info_with extensions limits options =
    record {
      extensions = extensions;
      read_len = (lengths_of limits options).0;
      write_len = (lengths_of limits options).1;
    }

-- The facts known about the server, once the greeting is over.
abbrev pub info_of : Handshake → Option Info
info_of Greeting = None
info_of (Asking extensions) = None
info_of (Open info) = Some info

-- Both lengths are at least one byte, and at most what one READ or WRITE may move.
pub record HasLengths (info : Info) : Type 0 where
  pub read : (1 ≤ info.read_len) × (info.read_len ≤ MAX_TRANSFER_LEN)
  pub write : (1 ≤ info.write_len) × (info.write_len ≤ MAX_TRANSFER_LEN)

-- An open session has such lengths.
abbrev pub IsRanged : Handshake → Type 0
IsRanged Greeting = Unit {0}
IsRanged (Asking extensions) = Unit {0}
IsRanged (Open info) = HasLengths info

-- 1 for the hello while its VERSION was not taken.
abbrev pub hello_of : Handshake → ℕ
hello_of Greeting = 1
hello_of (Asking extensions) = 0
hello_of (Open info) = 0

-- The most ids that are in use at one time.
abbrev pub MAX_IDS : ℕ
MAX_IDS = 2147483648

-- The most ids that may be in use.
abbrev pub most_ids : Handshake → ℕ
most_ids Greeting = 0
most_ids (Asking extensions) = MAX_IDS
most_ids (Open info) = MAX_IDS
