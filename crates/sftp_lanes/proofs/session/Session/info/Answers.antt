use Rattle.sftp_lanes.proofs.Opening.{untold}
use Rattle.sftp_lanes.proofs.session.Session.info.Goals as goal

pub returns-clause-told : goal.returns-clause-told
returns-clause-told c = rw (← c.self.view_is) c.self.invariant.told

pub returns-clause-untold : goal.returns-clause-untold
returns-clause-untold c = rw (← c.self.view_is) (untold c.self.inside.lanes c.self.inside.options c.self.inside.version
    c.self.inside.info c.self.inside.work c.self.inside.phase c.self.invariant)
