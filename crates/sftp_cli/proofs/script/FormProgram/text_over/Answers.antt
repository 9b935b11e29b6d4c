use Rattle.sftp_cli.proofs.Running.{is_printed, stopped_leaves}
use Rattle.sftp_cli.proofs.script.FormProgram.text_over.Goals as goal

pub returns-in_err-report-clause-left : goal.returns-in_err-report-clause-left
returns-in_err-report-clause-left c =
    stopped_leaves c.args.script.now c.as_slice-lanes.result.now c.as_slice-turns.result.now c.args.server.now
    c.served_run.new.server c.as_slice-lanes.ensures c.as_slice-turns.ensures c.requires.new.first
    c.served_run.ensures.first c.in_err-report.ensures.stops

pub returns-clause-text : goal.returns-clause-text
returns-clause-text c =
    is_printed c.args.self.now c.args.script.now c.as_slice-lanes.result.now c.as_slice-turns.result.now
    c.args.server.now c.served_run.new.server c.in_ok-report.report c.report_text.result c.as_slice-lanes.ensures
    c.as_slice-turns.ensures c.requires.can c.requires.new.first c.served_run.ensures.first
    c.in_ok-report.ensures.run c.report_text.ensures
