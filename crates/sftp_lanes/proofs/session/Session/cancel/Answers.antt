use Rattle.session_model.specs.Calls.{Setting}
use Rattle.session_work.proofs.AddedLaws.{on_err}
use Rattle.sftp_lanes.specs.Seen.{setting_by}
use Rattle.sftp_lanes.proofs.Going.{left_fails, on_if, went}
use Rattle.sftp_lanes.proofs.session.Session.cancel.Goals as goal

pub invariant_of-self : goal.invariant_of-self
invariant_of-self c =
    let s : Setting = setting_by c.self.inside.lanes c.self.inside.options c.self.inside.version
    c.self.inside.info in
    went c.self.inside.lanes c.self.inside.options c.self.inside.version
    c.self.inside.info c.self.inside.work c.cancel-cancelled.new.self
    c.self.inside.phase c.keep.new.phase c.cancel-cancelled.result c.self.invariant c.in-Open.is
    c.cancel-cancelled.ensures.intact
    c.keep.ensures.ok c.keep.ensures.err
    (λ working. on_if c.cancel-cancelled.result _ _ (λ event g. record { working = g.working; later = g.later })
    (c.cancel-cancelled.ensures.cancels s working))
    (on_err c.cancel-cancelled.result _ _ (left_fails c.self.inside.work c.cancel-cancelled.new.self)
    c.cancel-cancelled.ensures.left)
