use Rattle.std.proofs.Common.{◌∙◌}
use Rattle.sftp_lanes.proofs.CountLaws.{shows_in}
use Rattle.sftp_lanes.proofs.session.Session.awaited.Goals as goal

pub returns-clause-journal : goal.returns-clause-journal
returns-clause-journal c =
    rw (← c.self.view_is) (λ on. c.awaited.ensures ∙ (shows_in c.self.inside.lanes c.self.inside.options
    c.self.inside.version
    c.self.inside.info c.self.inside.work c.self.inside.phase c.self.invariant.now on).awaited)
