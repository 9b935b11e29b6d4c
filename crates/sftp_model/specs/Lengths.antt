-- believed
-- The most bytes that one READ asks for and one WRITE carries, from the reply to the query for limits (OpenSSH's
-- PROTOCOL, section 4.8), if there was one, and the user's options.
use Rattle.std.specs.Prelude.{ℕ, Bool, ◌-◌, ◌==◌, min, max, Option, Some, None, nat_lt, if◌then◌else◌}
use Rattle.std.specs.Int.RustNames.{bit_and}
use Rattle.sftp_model.specs.declared.flags.Extensions.{Extensions}
use Rattle.sftp_model.specs.declared.config.Limits.{Limits}
use Rattle.sftp_model.specs.Numbers.{MAX_TRANSFER_LEN}

-- The length if the server sets none.
abbrev pub default_len : ℕ
default_len = 32768

-- A packet length as a uint32, with room for a frame's head.
abbrev pub packet_len_of : ℕ → ℕ
packet_len_of packet = if nat_lt 4294967295 packet then 4294967286 else packet

-- A length of the limits. One that is no uint32 becomes the packet length less 300, and that is 0 below 300.
abbrev pub advertised_len : ℕ → ℕ → ℕ
advertised_len packet len =
    if len == 0 then default_len
    else if nat_lt 4294967295 len then packet_len_of packet - 300
    else len

abbrev pub read_len_of : Option Limits → ℕ
read_len_of None = default_len
read_len_of (Some limits) = advertised_len limits.packet_len limits.read_len

abbrev pub write_len_of : Option Limits → ℕ
write_len_of None = default_len
write_len_of (Some limits) = advertised_len limits.packet_len limits.write_len

-- The length, limited by an option that was set.
abbrev pub capped_by : Option ℕ → ℕ → ℕ
capped_by None len = len
capped_by (Some most) len = min most len

-- The least of the length, the option and the greatest length, and at least 1.
abbrev pub session_len : Option ℕ → ℕ → ℕ
session_len most len = max 1 (min MAX_TRANSFER_LEN (capped_by most len))

-- The session's read length and write length.
abbrev pub session_lengths : Option Limits → Option ℕ → Option ℕ → ℕ × ℕ
session_lengths limits max_read_len max_write_len =
    (session_len max_read_len (read_len_of limits), session_len max_write_len (write_len_of limits))

-- True if the server offers the query for limits.
abbrev pub offers_limits : Extensions → Bool
offers_limits extensions = bit_and extensions.0 32 == 32
