use Rattle.sftp_lanes.proofs.DoneLaws.{done_is}
use Rattle.sftp_lanes.proofs.session.Session.is_done.Goals as goal

pub returns : goal.returns
returns c = rw (← c.self.view_is) (done_is c.self.inside.lanes c.self.inside.options c.self.inside.version
    c.self.inside.info c.self.inside.work c.self.inside.phase c.args.lane c.is_done.result c.self.invariant
    c.is_done.ensures)
