use Rattle.std.proofs.Common.{arith}
use Rattle.sftp_core.proofs.Sounds.{few}
use Rattle.sftp_core.proofs.pipeline.Core.queued.Goals as goal

pub overflow_cast-result : goal.overflow_cast-result
overflow_cast-result c = let f = few _ _ _ _ _ _ c.self.invariant in omega (arith, f.small, c.len.ensures)
