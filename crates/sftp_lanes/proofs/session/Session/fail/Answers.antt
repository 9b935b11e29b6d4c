use Rattle.sftp_lanes.proofs.FaultLaws.{so_far}
use Rattle.sftp_lanes.proofs.Going.{faulted}
use Rattle.sftp_lanes.proofs.session.Session.fail.Goals as goal

pub invariant_of-self : goal.invariant_of-self
invariant_of-self c = faulted c.self.inside.lanes c.self.inside.options c.self.inside.version
    c.self.inside.info
    c.self.inside.work c.keep.new.self c.self.inside.phase c.args.fault c.self.invariant c.keep.ensures.rest
    c.keep.ensures.journal

pub returns-clause-next : goal.returns-clause-next
returns-clause-next c = rw (← c.self.view_is) (λ none. (so_far c.self.inside.lanes c.self.inside.options
    c.self.inside.version
    c.self.inside.info
    c.self.inside.work c.self.inside.phase c.self.invariant).next none c.args.fault)
