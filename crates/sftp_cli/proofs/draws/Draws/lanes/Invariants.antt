use Rattle.sftp_cli.specs.Bulk.{lane_of}
use Rattle.sftp_cli.proofs.Steps.{Drawn}
use Rattle.sftp_cli.proofs.draws.Draws.lanes.Given as goal

abbrev pub invariant-loop-k : goal.invariant-loop-k
invariant-loop-k l = Drawn (lane_of l.fn.calls) l.k l.fn.lanes l.initial.self l.self l.made.items
