-- A bit of a number that was set or cleared, and the bits beside it.
use Rattle.std.proofs.Common.{◌≡◌, ◌∙◌, ◌-◌, ◌*◌, ◌^◌, ◌<◌, ◌==◌, ℕ, Bool, true, false, not, refl, sym, ap, arith}
use Rattle.std.specs.Prelude.{◌≢◌}
use Rattle.std.specs.Int.{bit_at, w32}
use Rattle.std.proofs.lemmas.Nat.{pow_pos, pow_below}
use Rattle.std.proofs.lemmas.Nat.Bits.{and_pow, bit_at-lt, bit_at_and, bit_at_or, bit_at-pow_same, bit_at-pow_other, bit_at_not, bit_at_ones}
use Rattle.sftp_model.specs.Readings.{permission_bits, has_bit}
use Rattle.sftp_meta.specs.Permissions.{with_bit, is_readonly, with_readonly}

-- a test of a digit of 0 or 1 at a place
digit_test : (digit place : ℕ) → digit < 2 → 0 < place → not (digit * place == 0) ≡ (digit == 1)
digit_test digit place small some = grind arith

-- the test of a flag is the digit at its place
pub has_bit-digit : (bits k : ℕ) → has_bit bits (2 ^ k) ≡ (bit_at bits k == 1)
has_bit-digit bits k = rw (and_pow bits k) (digit_test (bit_at bits k) (2 ^ k) (bit_at-lt bits k) (pow_pos k))

digit-with_bit : (bits k : ℕ) (value : Bool) → k < 32 → (bit_at (with_bit bits (2 ^ k) value) k == 1) ≡ value
digit-with_bit bits k true small =
    rw (bit_at_or bits (2 ^ k) k, bit_at-pow_same k) (grind (arith, bit_at-lt bits k))
digit-with_bit bits k false small =
    rw (
      bit_at_and bits (2 ^ 32 - 1 - 2 ^ k) k,
      bit_at_not w32 (2 ^ k) k (pow_below k 32 small) small,
      bit_at-pow_same k,
    ) (grind arith)

digit-with_bit_other : (bits j k : ℕ) (value : Bool) → j < 32 → k < 32 → j ≢ k → bit_at (with_bit bits (2 ^ k) value) j
    ≡ bit_at bits j
digit-with_bit_other bits j k true within small apart =
    rw (bit_at_or bits (2 ^ k) j, bit_at-pow_other k j apart) (omega arith)
digit-with_bit_other bits j k false within small apart =
    rw (
      bit_at_and bits (2 ^ 32 - 1 - 2 ^ k) j,
      bit_at_not w32 (2 ^ k) j (pow_below k 32 small) within,
      bit_at-pow_other k j apart,
    ) (omega (arith, bit_at-lt bits j))

-- a bit reads back as it was set
pub has_bit-with_bit : (bits k : ℕ) (value : Bool) → k < 32 → has_bit (with_bit bits (2 ^ k) value) (2 ^ k) ≡ value
has_bit-with_bit bits k value small = has_bit-digit (with_bit bits (2 ^ k) value) k ∙ digit-with_bit bits k value small

-- every other bit stays
pub has_bit-with_bit_other : (bits j k : ℕ) (value : Bool) → j < 32 → k < 32 → j ≢ k
    → has_bit (with_bit bits (2 ^ k) value) (2 ^ j) ≡ has_bit bits (2 ^ j)
has_bit-with_bit_other bits j k value within small apart =
    has_bit-digit (with_bit bits (2 ^ k) value) j
    ∙ ap (λ digit. digit == 1) (digit-with_bit_other bits j k value within small apart)
    ∙ sym (has_bit-digit bits j)

-- the low twelve bits are those of the mode
pub has_bit-permission_bits : (mode k : ℕ) → k < 12 → has_bit (permission_bits mode) (2 ^ k) ≡ has_bit mode (2 ^ k)
has_bit-permission_bits mode k small =
    has_bit-digit (permission_bits mode) k
    ∙ ap (λ digit. digit == 1) (bit_at_and mode (2 ^ 12 - 1) k
    ∙ rw (bit_at_ones 12 k small) (omega (arith, bit_at-lt mode k)))
    ∙ sym (has_bit-digit mode k)

-- the three bits of writing, once each was set
others_may_write : (bits : ℕ) (value : Bool) → has_bit (with_bit (with_bit (with_bit bits 0o200 value) 0o20 value) 0o2
    value) 0o2 ≡ value
others_may_write bits value = has_bit-with_bit (with_bit (with_bit bits 0o200 value) 0o20 value) 1 value (omega arith)

group_may_write : (bits : ℕ) (value : Bool) → has_bit (with_bit (with_bit (with_bit bits 0o200 value) 0o20 value) 0o2
    value) 0o20 ≡ value
group_may_write bits value =
    has_bit-with_bit_other (with_bit (with_bit bits 0o200 value) 0o20 value) 4 1 value (omega arith) (omega arith)
    (λ e. absurd cc)
    ∙ has_bit-with_bit (with_bit bits 0o200 value) 4 value (omega arith)

owner_may_write : (bits : ℕ) (value : Bool) → has_bit (with_bit (with_bit (with_bit bits 0o200 value) 0o20 value) 0o2
    value) 0o200 ≡ value
owner_may_write bits value =
    has_bit-with_bit_other (with_bit (with_bit bits 0o200 value) 0o20 value) 7 1 value (omega arith) (omega arith)
    (λ e. absurd cc)
    ∙ has_bit-with_bit_other (with_bit bits 0o200 value) 7 4 value (omega arith) (omega arith) (λ e. absurd cc)
    ∙ has_bit-with_bit bits 7 value (omega arith)

-- `readonly` answers what was set
pub readonly_reads_back : (bits : ℕ) (readonly : Bool) → is_readonly (with_readonly bits readonly) ≡ readonly
readonly_reads_back bits true = rw (owner_may_write bits false, group_may_write bits false, others_may_write bits false)
    refl
readonly_reads_back bits false = rw (owner_may_write bits true) refl

-- the same of the permissions that `set_readonly` leaves
pub readonly_after : (bits new : ℕ) (readonly : Bool) → new ≡ with_readonly bits readonly → is_readonly new ≡ readonly
readonly_after bits new readonly e = ap is_readonly e ∙ readonly_reads_back bits readonly
