use Rattle.sftp_lanes.proofs.FaultLaws.{so_far}
use Rattle.sftp_lanes.proofs.Opening.{open_settled}
use Rattle.sftp_lanes.proofs.session.Session.journal.Goals as goal

pub returns-clause-so_far : goal.returns-clause-so_far
returns-clause-so_far c = rw (← c.self.view_is) (so_far c.self.inside.lanes c.self.inside.options c.self.inside.version
    c.self.inside.info
    c.self.inside.work c.self.inside.phase c.self.invariant).run

pub returns-clause-fixed : goal.returns-clause-fixed
returns-clause-fixed c = rw (← c.self.view_is) c.self.invariant.fixed

pub returns-clause-settled : goal.returns-clause-settled
returns-clause-settled c = rw (← c.self.view_is) (λ is. open_settled c.self.inside.lanes c.self.inside.options
    c.self.inside.version
    c.self.inside.info
    c.self.inside.work c.self.inside.phase c.self.invariant is)
