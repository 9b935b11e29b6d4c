use Rattle.sftp_tasks.proofs.HoldLaws.{finishing_from, finishing_goes}
use Rattle.sftp_tasks.proofs.events.FinishEventLockedResultBoolError.act.Goals as goal

pub returns-clause-goes : goal.returns-clause-goes
returns-clause-goes c =
    finishing_goes c.args.lane c.args.value.now c.finish.new.self c.finish.result c.requires.1.0
    (finishing_from c.args.value.now c.finish.new.self c.finish.result c.finish.ensures.told c.finish.ensures.stage
    c.finish.ensures.refused)
