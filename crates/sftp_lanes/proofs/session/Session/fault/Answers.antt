use Rattle.std.proofs.Common.{◌∙◌}
use Rattle.sftp_lanes.proofs.FaultLaws.{so_far}
use Rattle.sftp_lanes.proofs.session.Session.fault.Goals as goal

pub returns-clause-entry : goal.returns-clause-entry
returns-clause-entry c =
    let k = so_far c.self.inside.lanes c.self.inside.options c.self.inside.version c.self.inside.info c.self.inside.work
    c.self.inside.phase c.self.invariant in
    rw (← c.self.view_is) (c.fault.ensures ∙ k.kept)
