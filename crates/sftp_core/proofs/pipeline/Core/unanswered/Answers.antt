use Rattle.std.proofs.Common.{arith}
use Rattle.sftp_core.proofs.Sounds.{few, hello_small}
use Rattle.sftp_core.proofs.pipeline.Core.unanswered.Goals as goal

pub overflow_cast-result : goal.overflow_cast-result
overflow_cast-result c = let f = few _ _ _ _ _ _ c.self.invariant in omega (arith, f.waiting, c.waiting.ensures)

pub overflow_add-result : goal.overflow_add-result
overflow_add-result c = let f = few _ _ _ _ _ _ c.self.invariant in let one = hello_small c.self.inside.phase in
    omega (arith, f.waiting, c.waiting.ensures, c.hello.ensures, one)
