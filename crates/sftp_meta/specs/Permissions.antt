-- Permissions as the number of their bits, one bit for each (POSIX's `st_mode`).
use Rattle.sftp_model.specs.Readings.{has_bit}
use Rattle.std.specs.Prelude.{ℕ, ◌-◌, ◌^◌, ◌==◌, Bool, true, false, not, ◌&&◌}
use Rattle.std.specs.Int.RustNames.{bit_and, bit_or}

-- The 32 bits with one of them set or cleared.
abbrev pub with_bit : ℕ → ℕ → Bool → ℕ
with_bit bits bit true = bit_or bits bit
with_bit bits bit false = bit_and bits (2 ^ 32 - 1 - bit)

-- True if none of owner, group and others may write.
abbrev pub is_readonly : ℕ → Bool
is_readonly bits = not (has_bit bits 0o200) && not (has_bit bits 0o20) && not (has_bit bits 0o2)

-- The bits with write permission removed from owner, group and others, or given to all three.
abbrev pub with_readonly : ℕ → Bool → ℕ
with_readonly bits readonly =
    with_bit (with_bit (with_bit bits 0o200 (not readonly)) 0o20 (not readonly)) 0o2 (not readonly)
