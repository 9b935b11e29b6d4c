use Rattle.session_model.specs.Calls.{Setting}
use Rattle.session_work.proofs.AddedLaws.{on_err, on_ok}
use Rattle.sftp_lanes.specs.Seen.{setting_by}
use Rattle.sftp_lanes.proofs.Going.{left_fails, went}
use Rattle.sftp_lanes.proofs.session.Session.let_go.Goals as goal

pub invariant_of-self : goal.invariant_of-self
invariant_of-self c =
    let s : Setting = setting_by c.self.inside.lanes c.self.inside.options c.self.inside.version
    c.self.inside.info in
    went c.self.inside.lanes c.self.inside.options c.self.inside.version
    c.self.inside.info c.self.inside.work c.let_go-gone.new.self
    c.self.inside.phase c.keep.new.phase c.let_go-gone.result c.self.invariant c.in-Open.is c.let_go-gone.ensures.intact
    c.keep.ensures.ok c.keep.ensures.err
    (λ working. on_ok c.let_go-gone.result _ _ (λ g. record { working = g.working; later = g.later })
    (c.let_go-gone.ensures.lets_go s working (rw (← c.self.view_is) at c.requires.done)
    (rw (← c.self.view_is) at c.requires.held)))
    (on_err c.let_go-gone.result _ _ (left_fails c.self.inside.work c.let_go-gone.new.self) c.let_go-gone.ensures.left)
