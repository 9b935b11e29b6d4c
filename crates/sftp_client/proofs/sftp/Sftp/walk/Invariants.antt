use Rattle.sftp_client.proofs.Walking.{WalkOn}
use Rattle.sftp_client.proofs.sftp.Sftp.walk.Given as goal

abbrev pub invariant-loop-at : goal.invariant-loop-at
invariant-loop-at g l = WalkOn g.L.LinkState.state l.fn.path l.at l.fn.self l.self l.found.items
