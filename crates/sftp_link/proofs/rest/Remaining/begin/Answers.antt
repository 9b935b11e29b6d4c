use Rattle.std.proofs.Common.{arith, ◌<◌, length, length-drop, drop, ℕ}
use Rattle.sftp_link.proofs.ScriptSteps.{still_begun}
use Rattle.sftp_link.proofs.rest.Remaining.begin.Goals as goal

pub returns-then-self-len-clause-ok : goal.returns-then-self-len-clause-ok
returns-then-self-len-clause-ok c =
    let some : 0 < length (drop c.self.inside.at c.self.inside.begun.items) = omega (arith, length-drop {A = ℕ}) in
    rw (← c.self.view_is) (still_begun c.args.sent.now _ some)
