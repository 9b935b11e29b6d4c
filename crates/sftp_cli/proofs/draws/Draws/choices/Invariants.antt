use Rattle.sftp_cli.specs.Bulk.{choice}
use Rattle.sftp_cli.proofs.Steps.{Drawn}
use Rattle.sftp_cli.proofs.draws.Draws.choices.Given as goal

abbrev pub invariant-loop-k : goal.invariant-loop-k
invariant-loop-k l = Drawn (λ k. choice) l._k l.fn.count l.initial.self l.self l.made.items
