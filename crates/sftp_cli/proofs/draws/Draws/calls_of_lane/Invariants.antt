use Rattle.sftp_cli.specs.Bulk.{call_of}
use Rattle.sftp_cli.proofs.Steps.{Drawn}
use Rattle.sftp_cli.proofs.draws.Draws.calls_of_lane.Given as goal

abbrev pub invariant-loop-k : goal.invariant-loop-k
invariant-loop-k l = Drawn (λ k. call_of l.fn.lane) l._k l.fn.calls l.initial.self l.self l.made.items
