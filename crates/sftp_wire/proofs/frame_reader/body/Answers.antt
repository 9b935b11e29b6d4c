use Rattle.std.proofs.Common.{arith}
use Rattle.sftp_wire.proofs.Whole.{spelled}
use Rattle.sftp_wire.proofs.frame_reader.body.Goals as goal

pub returns-clause-spelled : goal.returns-clause-spelled
returns-clause-spelled c =
    rw c.split_at.ensures.back (spelled c.args.bytes.now (λ i. let fits = c.type_inv.bytes i in omega (arith, fits))
    c.requires.length c.requires.whole)
