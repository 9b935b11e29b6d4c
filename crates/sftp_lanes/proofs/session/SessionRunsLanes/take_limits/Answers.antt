use Rattle.std.proofs.Common.{ap, refl}
use Rattle.std.proofs.lemmas.Result.{IfErr-weaker, IfOk-weaker}
use Rattle.sftp_model.specs.ReplyReadings.{reply_at}
use Rattle.session_driver.specs.declared.session.Phase.TheVariants.{Queried}
use Rattle.session_driver.specs.Refusals.{refuses}
use Rattle.session_work.specs.Working.{past_of}
use Rattle.sftp_lanes.specs.Seen.{SessionValue, given_of}
use Rattle.sftp_lanes.proofs.ReadFrames.{first_as_read, taken_as_read}
use Rattle.sftp_lanes.proofs.Shown.{or_refused, refused_left}
use Rattle.sftp_lanes.proofs.session.SessionRunsLanes.take_limits.Goals as goal

pub returns-clause-ok : goal.returns-clause-ok
returns-clause-ok c = IfOk-weaker c.take_told.result _ _ (λ done l. (taken_as_read Queried c.read_reply-read.result
    (reply_at c.args.body.now) c.args.self.now c.take_told.new.self c.read_reply-read.ensures l).limited)
    c.take_told.ensures.takes

pub returns-clause-refused : goal.returns-clause-refused
returns-clause-refused c = IfErr-weaker c.take_told.result _ _ (λ e f. first_as_read
    (refuses (past_of c.args.self.now.work)) refl e c.read_reply-read.result (reply_at c.args.body.now)
    c.read_reply-read.ensures f) c.take_told.ensures.refused

pub returns-clause-given : goal.returns-clause-given
returns-clause-given c = or_refused c.take_told.result _ _ _ c.take_told.ensures.takes c.take_told.ensures.kept
    (λ done l. ap (λ (s : SessionValue). given_of s) l.rest) (λ e f. ap (λ (s : SessionValue). given_of s) f.rest)

pub returns-clause-version : goal.returns-clause-version
returns-clause-version c = or_refused c.take_told.result _ _ _ c.take_told.ensures.takes c.take_told.ensures.kept
    (λ done l. ap (λ (s : SessionValue). s.version) l.rest) (λ e f. ap (λ (s : SessionValue). s.version) f.rest)

pub returns-clause-left : goal.returns-clause-left
returns-clause-left c = IfErr-weaker c.take_told.result _ _ (λ e f. refused_left e _ _ f) c.take_told.ensures.kept
