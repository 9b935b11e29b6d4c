use Rattle.sftp_client.proofs.Waiting.{WaitsOn}
use Rattle.sftp_client.proofs.sftp.Sftp.run.Given as goal

abbrev pub invariant-loop : goal.invariant-loop
invariant-loop g l = WaitsOn g.M.PlanRunner.meaning g.L.LinkState.state l.counter l.fn.self l.self l.fn.call l.call
