use Rattle.std.specs.Prelude.{ℕ}
use Rattle.sftp_meta.specs.declared.raw_permissions.RawPermissions.{RawPermissions}

-- The flags as the number of their bits.
abbrev pub bits_of : RawPermissions → ℕ
bits_of p = p.0
