use Rattle.session_model.specs.Calls.{Setting}
use Rattle.session_work.specs.Working.{contents_of}
use Rattle.session_work.proofs.AddedLaws.{on_err}
use Rattle.sftp_lanes.specs.Seen.{setting_by}
use Rattle.sftp_lanes.proofs.Going.{hands_later, left_fails, on_if, went}
use Rattle.sftp_lanes.proofs.Opening.{open_intact}
use Rattle.sftp_lanes.proofs.session.Session.hand_out_unsent.Goals as goal

pub hand_out-chunk-requires-clause-intact : goal.hand_out-chunk-requires-clause-intact
hand_out-chunk-requires-clause-intact c = open_intact c.self.inside.lanes c.self.inside.options c.self.inside.version
    c.self.inside.info
    c.self.inside.work c.self.inside.phase c.self.invariant (rw (← c.self.view_is) at c.requires.open)

pub invariant_of-self : goal.invariant_of-self
invariant_of-self c =
    let s : Setting = setting_by c.self.inside.lanes c.self.inside.options c.self.inside.version
    c.self.inside.info in
    went c.self.inside.lanes c.self.inside.options c.self.inside.version
    c.self.inside.info c.self.inside.work c.hand_out-chunk.new.self
    c.self.inside.phase c.keep.new.phase c.hand_out-chunk.result c.self.invariant
    (rw (← c.self.view_is) at c.requires.open)
    c.hand_out-chunk.ensures.intact c.keep.ensures.ok c.keep.ensures.err
    (λ working. on_if c.hand_out-chunk.result _ _ (λ chunk g. record {
      working = g.working;
      later = hands_later s (contents_of c.self.inside.work) (contents_of c.hand_out-chunk.new.self) _ g;
    }) (c.hand_out-chunk.ensures.hands_out s working))
    (on_err c.hand_out-chunk.result _ _ (left_fails c.self.inside.work c.hand_out-chunk.new.self)
    c.hand_out-chunk.ensures.left)
