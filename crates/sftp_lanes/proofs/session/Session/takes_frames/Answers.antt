use Rattle.std.proofs.Common.{rules}
use Rattle.sftp_lanes.proofs.Opening.{untold_first, untold_yet}
use Rattle.sftp_lanes.proofs.session.Session.takes_frames.Goals as goal

pub returns-clause-early : goal.returns-clause-early
returns-clause-early c = λ no. rw (← c.self.view_is) (untold_first c.self.inside.lanes c.self.inside.options
    c.self.inside.version c.self.inside.info c.self.inside.work c.self.inside.phase c.self.invariant (search rules))

pub returns-clause-untold : goal.returns-clause-untold
returns-clause-untold c = rw (← c.self.view_is) (untold_yet c.self.inside.lanes c.self.inside.options
    c.self.inside.version c.self.inside.info c.self.inside.work c.self.inside.phase c.self.invariant)
