use Rattle.std.proofs.Common.{◌≡◌, List, subst}
use Rattle.std.specs.Prelude.{IfOk}
use Rattle.mirror_jobs.specs.declared.verdict.Verdict.{Verdict}
use Rattle.sftp_mirror.specs.Printed.{copy_text}
use Rattle.sftp_mirror.proofs.Running.{is_copied, stopped_leaves}
use Rattle.sftp_mirror.proofs.reply.ScheduleProgram.text_over.Goals as goal

pub returns-in_err-report-clause-left : goal.returns-in_err-report-clause-left
returns-in_err-report-clause-left c =
    stopped_leaves c.args.self.now c.args.list.now c.as_slice-jobs.result.now c.args.server.now
    c.copy_served.new.server c.as_slice-jobs.ensures c.requires.new.first c.copy_served.ensures.first
    c.in_err-report.ensures.stops

pub returns-clause-text : goal.returns-clause-text
returns-clause-text c =
    is_copied c.args.self.now c.args.list.now c.as_slice-jobs.result.now c.args.server.now c.copy_served.new.server
    c.in_ok-report.report c.copy_text.result c.as_slice-jobs.ensures c.requires.can c.requires.new.first
    c.copy_served.ensures.first c.in_ok-report.ensures.run
    (subst (λ (v : List Verdict). IfOk c.copy_text.result (λ text. text.items ≡ copy_text c.as_slice-jobs.result.now v
    c.copy_served.new.server.now.state.machine.tree)) c.as_slice.ensures c.copy_text.ensures)
