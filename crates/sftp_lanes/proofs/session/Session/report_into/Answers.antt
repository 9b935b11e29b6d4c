use Rattle.std.proofs.Common.{rules, ◌≡◌, ◌∙◌, ap, length}
use Rattle.session_model.specs.Readings.{outcomes_below}
use Rattle.session_work.specs.Reports.{reports_of}
use Rattle.session_work.specs.Working.{past_of}
use Rattle.session_work.proofs.ReportLaws.{all_told}
use Rattle.sftp_lanes.proofs.session.Session.report_into.Goals as goal

pub returns : goal.returns
returns c =
    let w = c.self.inside.work in
    let i = c.self.invariant.intact in
    let kept : w.outcomes ≡ outcomes_below (past_of w) (length c.self.inside.lanes) =
    all_told (reports_of w) (past_of w) i.reports ∙ ap (outcomes_below (past_of w)) i.lists in
    search rules
