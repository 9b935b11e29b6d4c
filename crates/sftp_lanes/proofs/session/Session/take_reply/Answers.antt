use Rattle.session_model.specs.Calls.{Setting}
use Rattle.session_work.proofs.AddedLaws.{on_ok}
use Rattle.sftp_lanes.specs.Seen.{setting_by}
use Rattle.sftp_lanes.proofs.Going.{err_if, refused_fails, went}
use Rattle.sftp_lanes.proofs.Opening.{open_intact}
use Rattle.sftp_lanes.proofs.session.Session.take_reply.Goals as goal

pub take-taken-requires-clause-intact : goal.take-taken-requires-clause-intact
take-taken-requires-clause-intact c = open_intact c.self.inside.lanes c.self.inside.options c.self.inside.version
    c.self.inside.info
    c.self.inside.work c.self.inside.phase c.self.invariant (rw (← c.self.view_is) at c.requires.open)

pub invariant_of-self : goal.invariant_of-self
invariant_of-self c =
    let s : Setting = setting_by c.self.inside.lanes c.self.inside.options c.self.inside.version
    c.self.inside.info in
    went c.self.inside.lanes c.self.inside.options c.self.inside.version
    c.self.inside.info c.self.inside.work c.take-taken.new.self
    c.self.inside.phase c.keep.new.phase c.take-taken.result c.self.invariant (rw (← c.self.view_is) at c.requires.open)
    c.take-taken.ensures.intact c.keep.ensures.ok c.keep.ensures.err
    (λ working. on_ok c.take-taken.result _ _ (λ g. record { working = g.working; later = g.later })
    (c.take-taken.ensures.takes s working))
    (err_if c.take-taken.result _ _ (λ e r. refused_fails c.args.read e c.self.inside.work
    c.take-taken.new.self r)
    c.take-taken.ensures.refused)
