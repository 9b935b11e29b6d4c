use Rattle.std.specs.Prelude.{drop}
use Rattle.sftp_view.proofs.AllLaws.{DoesSoFar}
use Rattle.sftp_view.proofs.ops.View.run_all.Given as goal

abbrev pub invariant-loop-op : goal.invariant-loop-op
invariant-loop-op g l =
    DoesSoFar l.ops (drop l.op-index l.ops) l.answers.items l.fn.self (g.L.LinkState.state l.fn.link) l.self
    (g.L.LinkState.state l.link)
