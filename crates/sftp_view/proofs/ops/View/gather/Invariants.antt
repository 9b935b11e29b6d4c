use Rattle.sftp_view.proofs.GatherLaws.{GathersSoFar}
use Rattle.sftp_view.proofs.ops.View.gather.Given as goal

abbrev pub invariant-loop-block : goal.invariant-loop-block
invariant-loop-block g l =
    GathersSoFar l.path l.first l.count l._block l.bytes.items l.key l.fn.self (g.L.LinkState.state l.fn.link) l.self
    (g.L.LinkState.state l.link)
