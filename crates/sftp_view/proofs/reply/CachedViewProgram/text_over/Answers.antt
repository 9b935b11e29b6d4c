use Rattle.sftp_view.proofs.Running.{is_viewed, stopped_leaves}
use Rattle.sftp_view.proofs.reply.CachedViewProgram.text_over.Goals as goal

pub returns-clause-text : goal.returns-clause-text
returns-clause-text c =
    is_viewed c.args.self.now.size c.args.list.now c.as_slice-ops.result.now c.args.server.now c.view_served.new.server
    c.in_ok-report.report c.view_text.result c.requires.can c.as_slice-ops.ensures c.requires.new.first
    c.view_served.ensures.first c.in_ok-report.ensures.run c.view_text.ensures

pub returns-in_err-report-clause-left : goal.returns-in_err-report-clause-left
returns-in_err-report-clause-left c =
    stopped_leaves c.args.self.now.size c.args.list.now c.args.server.now c.view_served.new.server
    c.requires.new.first c.view_served.ensures.first c.in_err-report.ensures.stops
