use Rattle.session_model.specs.Calls.{Setting}
use Rattle.session_work.proofs.AddedLaws.{on_err}
use Rattle.sftp_lanes.specs.Seen.{setting_by}
use Rattle.sftp_lanes.proofs.Going.{left_fails, on_if, went}
use Rattle.sftp_lanes.proofs.session.Session.step.Goals as goal

pub invariant_of-self : goal.invariant_of-self
invariant_of-self c =
    let s : Setting = setting_by c.self.inside.lanes c.self.inside.options c.self.inside.version
    c.self.inside.info in
    went c.self.inside.lanes c.self.inside.options c.self.inside.version
    c.self.inside.info c.self.inside.work c.step-stepped.new.self
    c.self.inside.phase c.keep.new.phase c.step-stepped.result c.self.invariant c.in-Open.is
    c.step-stepped.ensures.intact
    c.keep.ensures.ok c.keep.ensures.err
    (λ working. on_if c.step-stepped.result _ _ (λ event g. record { working = g.working; later = g.later })
    (c.step-stepped.ensures.steps s working))
    (on_err c.step-stepped.result _ _ (left_fails c.self.inside.work c.step-stepped.new.self)
    c.step-stepped.ensures.left)
