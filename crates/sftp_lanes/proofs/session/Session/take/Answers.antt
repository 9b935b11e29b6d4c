use Rattle.std.proofs.lemmas.Result.{IfErr-weaker}
use Rattle.sftp_model.specs.ReplyReadings.{reply_at}
use Rattle.session_work.specs.Working.{past_of}
use Rattle.session_work.proofs.AddedLaws.{on_ok}
use Rattle.sftp_lanes.proofs.ReadFrames.{taken_as_read, wrong_as_read}
use Rattle.sftp_lanes.proofs.session.Session.take.Goals as goal

pub returns-clause-takes : goal.returns-clause-takes
returns-clause-takes c = on_ok c.take_read.result _ _ (taken_as_read c.args.self.now.phase c.read_reply-read.result
    (reply_at c.args.body.now) c.args.self.now c.take_read.new.self c.read_reply-read.ensures) c.take_read.ensures.takes

pub returns-clause-refused : goal.returns-clause-refused
returns-clause-refused c = IfErr-weaker c.take_read.result _ _ (λ e f. wrong_as_read c.args.self.now.phase
    (past_of c.args.self.now.work) e c.read_reply-read.result (reply_at c.args.body.now) c.read_reply-read.ensures f)
    c.take_read.ensures.refused
