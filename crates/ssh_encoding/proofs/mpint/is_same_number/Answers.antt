use Rattle.ssh_encoding.proofs.Numbers.{same_number}
use Rattle.ssh_encoding.proofs.mpint.is_same_number.Goals as goal

pub returns-clause-number : goal.returns-clause-number
returns-clause-number c = same_number c.args.a.now c.args.b.now _ c.eq.ensures c.requires.bytes.0 c.requires.bytes.1
    c.requires.canonical.0 c.requires.canonical.1
