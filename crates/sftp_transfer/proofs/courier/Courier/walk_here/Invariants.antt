use Rattle.std.proofs.Common.{◌≡◌}
use Rattle.sftp_transfer.proofs.courier.Courier.walk_here.Given as goal

abbrev pub invariant-loop : goal.invariant-loop
invariant-loop g l = l.self.sftp ≡ l.initial.self.sftp
