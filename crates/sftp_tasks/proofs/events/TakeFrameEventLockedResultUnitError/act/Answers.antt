use Rattle.sftp_tasks.proofs.HoldLaws.{taking_from, taking_goes}
use Rattle.sftp_tasks.proofs.events.TakeFrameEventLockedResultUnitError.act.Goals as goal

pub returns-clause-goes : goal.returns-clause-goes
returns-clause-goes c =
    let y = c.args.value.now in
    let z = c.take.new.self in
    let t = taking_from c.args.self.read y z c.take.result c.take.ensures.takes c.take.ensures.counts
    c.take.ensures.stops in
    taking_goes c.args.lane c.args.self.read y z c.take.result c.take.ensures.rest t.1 t.0

pub returns-clause-does : goal.returns-clause-does
returns-clause-does c =
    let y = c.args.value.now in
    let z = c.take.new.self in
    let t = taking_from c.args.self.read y z c.take.result c.take.ensures.takes c.take.ensures.counts
    c.take.ensures.stops in
    (t.0, c.take.ensures.unfailed)
