use Rattle.std.proofs.Common.{refl, subst, sym}
use Rattle.std.proofs.lemmas.Result.{IfErr-weaker, IfOk-weaker}
use Rattle.sftp_model.specs.ReplyReadings.{reply_at}
use Rattle.session_driver.specs.Refusals.{refuses_hello}
use Rattle.sftp_lanes.specs.Events.{FrameRead, TakesVersion}
use Rattle.sftp_lanes.proofs.ReadFrames.{first_as_read, same_read}
use Rattle.sftp_lanes.proofs.Shown.{greets_first, refused_left}
use Rattle.sftp_lanes.proofs.session.SessionRunsLanes.take_version.Goals as goal

pub returns-clause-ok : goal.returns-clause-ok
returns-clause-ok c = IfOk-weaker c.take_hello.result _ _ (λ asks v. greets_first _ asks c.args.self.now
    c.take_hello.new.self c.requires.rest (subst (λ (b : FrameRead). TakesVersion b asks c.args.self.now
    c.take_hello.new.self) (sym (same_read c.read_reply-read.result (reply_at c.args.body.now)
    c.read_reply-read.ensures _ v.reads)) v)) c.take_hello.ensures.takes

pub returns-clause-refused : goal.returns-clause-refused
returns-clause-refused c = IfErr-weaker c.take_hello.result _ _ (λ e f. first_as_read refuses_hello refl e
    c.read_reply-read.result (reply_at c.args.body.now) c.read_reply-read.ensures f) c.take_hello.ensures.refused

pub returns-clause-left : goal.returns-clause-left
returns-clause-left c = IfErr-weaker c.take_hello.result _ _ (λ e f. refused_left e _ _ f) c.take_hello.ensures.kept
