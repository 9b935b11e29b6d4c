use Rattle.sftp_tasks.proofs.OpeningLaws.{version_goes}
use Rattle.sftp_tasks.proofs.hello.TakeVersionEventLockedResultUnitError.act.Goals as goal

pub returns-clause-goes : goal.returns-clause-goes
returns-clause-goes c =
    version_goes c.args.lane c.args.self.read c.args.value.now c.take_version.new.self c.take_version.result
    c.take_version.ensures.rest
    c.take_version.ensures.rises c.take_version.ensures.takes
