use Rattle.std.proofs.Common.{arith}
use Rattle.ssh_encoding.proofs.mpint.MpintPartialEq.eq.Goals as goal

pub is_same_number-requires-clause-bytes : goal.is_same_number-requires-clause-bytes
is_same_number-requires-clause-bytes c = (
  λ i. let fits = c.type_inv.mine i in omega (arith, fits),
  λ i. let fits =
      c.type_inv.theirs i in omega (arith, fits),
)
