use Rattle.std.proofs.Common.{refl}
use Rattle.std.proofs.lemmas.Result.{IfErr-weaker, IfOk-weaker}
use Rattle.sftp_model.specs.ReplyReadings.{reply_at}
use Rattle.session_driver.specs.declared.session.Phase.TheVariants.{Open}
use Rattle.session_driver.specs.Refusals.{refuses}
use Rattle.session_work.specs.Working.{past_of}
use Rattle.sftp_lanes.proofs.ReadFrames.{first_as_read, taken_as_read}
use Rattle.sftp_lanes.proofs.Shown.{refused_left, stays}
use Rattle.sftp_lanes.proofs.session.SessionRunsLanes.take.Goals as goal

pub returns-clause-ok : goal.returns-clause-ok
returns-clause-ok c = IfOk-weaker c.take_reply.result _ _ (λ event g. (taken_as_read Open c.read_reply-read.result
    (reply_at c.args.body.now) c.args.self.now c.take_reply.new.self c.read_reply-read.ensures g).did.takes)
    c.take_reply.ensures.takes

pub returns-clause-goes : goal.returns-clause-goes
returns-clause-goes c = IfOk-weaker c.take_reply.result _ _ (λ event g. record
    { stays = stays _ _ _ g; later = g.did.later }) c.take_reply.ensures.takes

pub returns-clause-work : goal.returns-clause-work
returns-clause-work c = IfOk-weaker c.take_reply.result _ _ (λ event g. g.did.less) c.take_reply.ensures.takes

pub returns-clause-refused : goal.returns-clause-refused
returns-clause-refused c = IfErr-weaker c.take_reply.result _ _ (λ e f. first_as_read
    (refuses (past_of c.args.self.now.work)) refl e c.read_reply-read.result (reply_at c.args.body.now)
    c.read_reply-read.ensures f) c.take_reply.ensures.refused

pub returns-clause-left : goal.returns-clause-left
returns-clause-left c = IfErr-weaker c.take_reply.result _ _ (λ e f. refused_left e _ _ f) c.take_reply.ensures.kept
