use Rattle.std.proofs.Common.{rules, ◌≡◌, None, Ok, inr}
use Rattle.plan_state.specs.declared.poll.Poll.TheVariants as poll
use Rattle.sftp_buffered.specs.Reads.{LooksAtRead}
use Rattle.sftp_buffered.proofs.Filling.{took_by}
use Rattle.sftp_buffered.proofs.file.TokioCompatFile.fill.Goals as goal

pub returns-in-Ready-Ok : goal.returns-in-Ready-Ok
returns-in-Ready-Ok c =
    let some : c.args.self.now.reading ≡ None → ⊥ = search rules in
    let looks : LooksAtRead c.args.core.now c.args.self.now c.append_reply.new.self (poll.Ready (Ok tt)) = search rules
    in
    inr (took_by c.args.core.now c.take_read.new.core c.args.self.now c.append_reply.new.self c.take_read.new.self
    c.take_read.result some looks
    c.take_read.ensures.allowed c.take_read.ensures.says c.take_read.ensures.left c.take_read.ensures.core)
