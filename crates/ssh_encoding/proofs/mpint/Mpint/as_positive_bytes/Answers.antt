use Rattle.ssh_encoding.specs.Canonical.{unsigned_value, inverted_bits}
use Rattle.ssh_encoding.proofs.Numbers.{below_zero}
use Rattle.ssh_encoding.proofs.mpint.Mpint.as_positive_bytes.Goals as goal

pub returns-then-first-gt127-clause-number : goal.returns-then-first-gt127-clause-number
returns-then-first-gt127-clause-number c =
    let bytes = c.as_slice.result.now in (
      unsigned_value (inverted_bits bytes),
      rw (← c.self.view_is, ← c.as_slice.ensures.value)
          (below_zero bytes c.if-first-gt127.true),
    )
