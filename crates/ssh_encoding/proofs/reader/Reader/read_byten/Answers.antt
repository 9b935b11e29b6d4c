use Rattle.std.proofs.Common.{rules}
use Rattle.ssh_encoding.proofs.Prefix.{reads_within}
use Rattle.ssh_encoding.proofs.reader.Reader.read_byten.Goals as goal

pub returns-clause-read : goal.returns-clause-read
returns-clause-read g c =
    let found = c.in_ok-inner.ensures.read in
    reads_within _ _ _ _ _ _ _ found.0 found.1 found.2 (rw (← c.remaining_len-len.ensures) c.if-out-len.false)
    (search rules) (search rules)
