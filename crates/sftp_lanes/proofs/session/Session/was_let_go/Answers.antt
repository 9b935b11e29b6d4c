use Rattle.std.proofs.Common.{rules, ◌≡◌, ◌∙◌, false, ap}
use Rattle.std.specs.Prelude.{slice_index_or}
use Rattle.session_model.specs.Readings.{was_let_go}
use Rattle.session_work.specs.Reports.{LaneReport}
use Rattle.session_work.specs.Working.{past_of}
use Rattle.sftp_lanes.proofs.session.Session.was_let_go.Goals as goal

pub returns : goal.returns
returns c =
    let w = c.self.inside.work in
    let shown : c.was_let_go.result ≡ slice_index_or w.gone c.args.lane false = search rules in
    let told : slice_index_or w.gone c.args.lane false ≡ was_let_go (past_of w) c.args.lane =
    ap (λ (r : LaneReport). r.let_go) (c.self.invariant.intact.reports c.args.lane) in
    rw (← c.self.view_is) (shown ∙ told)
