-- The flags of an OPEN tell the rights of the file.
use Rattle.std.proofs.Common.{◌≡◌, Bool, true, false, refl}
use Rattle.std.specs.Prelude.{ℕ, ◌+◌, ◌&&◌, ◌||◌, if◌then◌else◌}
use Rattle.sftp_model.specs.Readings.{has_bit}
use Rattle.sftp_model.specs.declared.open_options.OpenOptions.{OpenOptions}
use Rattle.sftp_model.specs.OpenOptions.{flags_of}

-- what holds of each sum of the flags that make a file
by_making : (P : ℕ → Type 0) → P 40 → P 24 → P 8 → P 0 → (anew emptied made : Bool)
    → P (if anew then 8 + 32 else if emptied then 8 + 16 else if made then 8 else 0)
by_making P a b c d true emptied made = a
by_making P a b c d false true made = b
by_making P a b c d false false true = c
by_making P a b c d false false false = d

-- the bit 1, whichever way the file is made
reads : (read write append anew emptied made : Bool)
    → has_bit ((if read then 1 else 0) + (if write || append then 2 else 0) + (if append then 4 else 0)
    + (if anew then 8 + 32 else if emptied then 8 + 16 else if made then 8 else 0)) 1 ≡ read
reads true true true = by_making (λ m. has_bit (1 + 2 + 4 + m) 1 ≡ true) refl refl refl refl
reads true true false = by_making (λ m. has_bit (1 + 2 + 0 + m) 1 ≡ true) refl refl refl refl
reads true false true = by_making (λ m. has_bit (1 + 2 + 4 + m) 1 ≡ true) refl refl refl refl
reads true false false = by_making (λ m. has_bit (1 + 0 + 0 + m) 1 ≡ true) refl refl refl refl
reads false true true = by_making (λ m. has_bit (0 + 2 + 4 + m) 1 ≡ false) refl refl refl refl
reads false true false = by_making (λ m. has_bit (0 + 2 + 0 + m) 1 ≡ false) refl refl refl refl
reads false false true = by_making (λ m. has_bit (0 + 2 + 4 + m) 1 ≡ false) refl refl refl refl
reads false false false = by_making (λ m. has_bit (0 + 0 + 0 + m) 1 ≡ false) refl refl refl refl

-- the bit 2
writes : (read write append anew emptied made : Bool)
    → has_bit ((if read then 1 else 0) + (if write || append then 2 else 0) + (if append then 4 else 0)
    + (if anew then 8 + 32 else if emptied then 8 + 16 else if made then 8 else 0)) 2 ≡ (write || append)
writes true true true = by_making (λ m. has_bit (1 + 2 + 4 + m) 2 ≡ true) refl refl refl refl
writes true true false = by_making (λ m. has_bit (1 + 2 + 0 + m) 2 ≡ true) refl refl refl refl
writes true false true = by_making (λ m. has_bit (1 + 2 + 4 + m) 2 ≡ true) refl refl refl refl
writes true false false = by_making (λ m. has_bit (1 + 0 + 0 + m) 2 ≡ false) refl refl refl refl
writes false true true = by_making (λ m. has_bit (0 + 2 + 4 + m) 2 ≡ true) refl refl refl refl
writes false true false = by_making (λ m. has_bit (0 + 2 + 0 + m) 2 ≡ true) refl refl refl refl
writes false false true = by_making (λ m. has_bit (0 + 2 + 4 + m) 2 ≡ true) refl refl refl refl
writes false false false = by_making (λ m. has_bit (0 + 0 + 0 + m) 2 ≡ false) refl refl refl refl

-- a file may be read exactly where READ is set
pub reads_by_flags : (o : OpenOptions) → has_bit (flags_of o).0 1 ≡ o.read
reads_by_flags o = reads o.read o.write o.append o.create_new (o.create && o.truncate) o.create

-- and written exactly where WRITE is
pub writes_by_flags : (o : OpenOptions) → has_bit (flags_of o).0 2 ≡ (o.write || o.append)
writes_by_flags o = writes o.read o.write o.append o.create_new (o.create && o.truncate) o.create
