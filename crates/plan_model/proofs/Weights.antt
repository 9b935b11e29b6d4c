-- Sums that stop at a limit.
use Rattle.std.proofs.Common.{◌≡◌, ◌^◌, ℕ, min, nat_lt, arith}
use Rattle.std.proofs.lemmas.Bool.Decides.{nat_tests}

-- a limited sum is below the limit where the sum is
pub limited_below : (n : ℕ) → nat_lt (min n (2 ^ 31)) 2147483648 ≡ nat_lt n (2 ^ 31)
limited_below n = grind (arith, nat_tests)
