use Rattle.sftp_lanes.proofs.Going.{gives_up}
use Rattle.sftp_lanes.proofs.session.Session.give_up.Goals as goal

pub invariant_of-self : goal.invariant_of-self
invariant_of-self c = gives_up c.self.inside.lanes c.self.inside.options c.self.inside.version
    c.self.inside.info
    c.self.inside.work c.self.inside.phase c.self.invariant
