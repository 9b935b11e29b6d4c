use Rattle.std.proofs.Common.{arith}
use Rattle.sftp_map_server.proofs.Whole.{spelled}
use Rattle.sftp_map_server.proofs.map_server.body_of.Goals as goal

pub returns-clause-spelled : goal.returns-clause-spelled
returns-clause-spelled c =
    rw c.split_at.ensures.back (spelled c.args.input.now (λ i. let fits = c.type_inv.input i in omega (arith, fits))
    c.requires.length c.requires.whole)
