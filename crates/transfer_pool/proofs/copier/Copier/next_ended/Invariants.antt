use Rattle.transfer_pool.proofs.WorkLaws.{WorkedSoFar}
use Rattle.transfer_pool.proofs.copier.Copier.next_ended.Given as goal

abbrev pub invariant-loop : goal.invariant-loop
invariant-loop g l = WorkedSoFar g.L.LinkState.state g.F.LocalFile.done g.F.LocalFile.history
    (record { session = l.initial.sftp; running = l.initial.self.running })
    (record { session = l.sftp; running = l.self.running })
