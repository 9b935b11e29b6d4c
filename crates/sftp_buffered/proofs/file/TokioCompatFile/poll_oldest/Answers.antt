use Rattle.std.proofs.Common.{rules, ◌≡◌, false, Some}
use Rattle.plan_model.specs.BufferPlans.{is_good}
use Rattle.sftp_buffered.specs.Steps.{oldest_reply}
use Rattle.sftp_buffered.proofs.Deferring.{refused_oldest}
use Rattle.sftp_buffered.proofs.file.TokioCompatFile.poll_oldest.Goals as goal

pub returns : goal.returns
returns c =
    let came : oldest_reply c.args.core.now c.args.self.now.deferred ≡ Some c.in-Some.reply.now = search rules in
    let bad : is_good (Some c.in-Some.reply.now) ≡ false = search rules in
    refused_oldest c.args.core.now c.take_oldest.new.core c.args.self.now c.take_oldest.new.self c.in-Some.reply.now
    c.take_oldest.result came bad
    (c.take_oldest.ensures.says c.in-Some.reply.now came) c.take_oldest.ensures.left c.take_oldest.ensures.core
