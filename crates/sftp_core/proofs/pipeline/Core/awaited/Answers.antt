use Rattle.std.proofs.Common.{arith}
use Rattle.sftp_core.proofs.Sounds.{few, hello_small}
use Rattle.sftp_core.proofs.pipeline.Core.awaited.Goals as goal

pub overflow_sub-result : goal.overflow_sub-result
overflow_sub-result c = let f = rw c.if-self.true at (few _ _ _ _ _ _ c.self.invariant) in
    omega (arith, f.sent, c.waiting.ensures, c.len.ensures)

pub overflow_cast-result : goal.overflow_cast-result
overflow_cast-result c = let f = few _ _ _ _ _ _ c.self.invariant in omega (arith, f.waiting, c.waiting.ensures)

pub overflow_add-result : goal.overflow_add-result
overflow_add-result c =
    let f = few _ _ _ _ _ _ c.self.invariant in let one = hello_small c.self.inside.phase in
    omega (arith, f.waiting, c.waiting.ensures, c.hello.ensures, one)

pub overflow_add-result-else-self : goal.overflow_add-result-else-self
overflow_add-result-else-self c = let f = few _ _ _ _ _ _ c.self.invariant in
    omega (arith, f.waiting, c.waiting-else-self.ensures)

pub overflow_sub-result-else-self : goal.overflow_sub-result-else-self
overflow_sub-result-else-self c = let f = rw c.if-self.false at (few _ _ _ _ _ _ c.self.invariant) in
    omega (arith, f.sent, c.waiting-else-self.ensures, c.len-else-self.ensures)

pub overflow_cast-result-else-self : goal.overflow_cast-result-else-self
overflow_cast-result-else-self c = let f = few _ _ _ _ _ _ c.self.invariant in
    omega (arith, f.waiting, c.waiting-else-self.ensures)

pub returns-then-self : goal.returns-then-self
returns-then-self c =
    let f = rw c.if-self.true at (few _ _ _ _ _ _ c.self.invariant) in
    rw (← c.self.view_is, c.if-self.true) (omega (arith, f.sent, c.waiting.ensures, c.len.ensures, c.hello.ensures))

pub returns-else-self : goal.returns-else-self
returns-else-self c =
    let f = rw c.if-self.false at (few _ _ _ _ _ _ c.self.invariant) in
    rw (← c.self.view_is, c.if-self.false) (omega (arith, f.sent, c.waiting-else-self.ensures, c.len-else-self.ensures))
