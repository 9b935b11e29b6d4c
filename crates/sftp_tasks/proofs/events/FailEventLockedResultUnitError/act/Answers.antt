use Rattle.sftp_tasks.proofs.HoldLaws.{failing_goes}
use Rattle.sftp_tasks.proofs.events.FailEventLockedResultUnitError.act.Goals as goal

pub returns-clause-goes : goal.returns-clause-goes
returns-clause-goes c =
    failing_goes c.args.lane c.args.self.fault _ _ c.fail.result c.fail.ensures.rest c.fail.ensures.keeps
