use Rattle.sftp_tasks.proofs.HoldLaws.{writing_goes}
use Rattle.sftp_tasks.proofs.events.WrittenEventLockedUnit.act.Goals as goal

pub returns-clause-goes : goal.returns-clause-goes
returns-clause-goes c =
    writing_goes c.args.lane c.args.self.frames _ _ c.written.ensures.is c.written.ensures.rises
