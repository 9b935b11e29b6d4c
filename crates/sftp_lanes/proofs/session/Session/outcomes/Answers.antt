use Rattle.std.proofs.Common.{rules, ◌≡◌, ◌∙◌, [], ap}
use Rattle.std.specs.Prelude.{slice_index_or}
use Rattle.session_model.specs.Readings.{outcomes_of}
use Rattle.session_work.specs.Reports.{LaneReport}
use Rattle.session_work.specs.Working.{past_of}
use Rattle.sftp_lanes.proofs.session.Session.outcomes.Goals as goal

pub returns : goal.returns
returns c =
    let w = c.self.inside.work in
    let shown : c.outcomes.result.now ≡ slice_index_or w.outcomes c.args.lane [] = search rules in
    let told : slice_index_or w.outcomes c.args.lane [] ≡ outcomes_of (past_of w) c.args.lane =
    ap (λ (r : LaneReport). r.outcomes) (c.self.invariant.intact.reports c.args.lane) in
    rw (← c.self.view_is) (shown ∙ told)
