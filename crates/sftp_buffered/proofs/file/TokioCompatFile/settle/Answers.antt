use Rattle.std.proofs.Common.{rules, ◌≡◌, true, false}
use Rattle.plan_model.specs.BufferPlans.{is_good}
use Rattle.sftp_buffered.specs.Steps.{oldest_reply}
use Rattle.sftp_buffered.proofs.Flushing.{settles_all, settles_on}
use Rattle.sftp_buffered.proofs.file.TokioCompatFile.settle.Goals as goal

pub loop-self-preserved : goal.loop-self-preserved
loop-self-preserved c =
    let good : is_good (oldest_reply c.loop-self.core c.loop-self.self.deferred) ≡ true = search rules in
    settles_on c.args.core.now c.args.self.now c.loop-self.core c.make_way.new.core c.loop-self.self c.make_way.new.self
    c.loop-self.invariant good c.make_way.ensures.core c.make_way.ensures.left

pub returns : goal.returns
returns c =
    let bad : is_good (oldest_reply c.loop-self.core c.loop-self.self.deferred) ≡ false = search rules in
    settles_all c.args.core.now c.args.self.now c.loop-self.core c.loop-self.self c.loop-self.invariant bad
