use Rattle.ssh_encoding.proofs.Numbers.{above_zero}
use Rattle.ssh_encoding.proofs.mpint.Mpint.is_positive.Goals as goal

pub returns-in-len1-up : goal.returns-in-len1-up
returns-in-len1-up c =
    let bytes = c.as_slice.result.now in
    rw (← c.self.view_is, ← c.as_slice.ensures.value) (above_zero bytes (rw c.as_slice.ensures.value c.self.invariant)
    c.in-len1-up.len_at_least)
