use Rattle.sftp_cli.specs.Bulk.{turn_of}
use Rattle.sftp_cli.proofs.Steps.{Drawn}
use Rattle.sftp_cli.proofs.draws.Draws.turns.Given as goal

abbrev pub invariant-loop-k : goal.invariant-loop-k
invariant-loop-k l = Drawn (λ k. turn_of l.fn.lanes) l._k l.fn.count l.initial.self l.self l.made.items
