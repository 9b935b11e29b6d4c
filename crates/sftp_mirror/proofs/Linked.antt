-- Files that are copied over a link whose log was empty, and what the dial tells of the link then.
use Rattle.std.proofs.Common.{◌≡◌, ◌∙◌, ℕ, Bool, List, [], refl, ap, sym, subst}
use Rattle.std.specs.Prelude.{Some, Result, Err, IfOk, reverse}
use Rattle.ssh_encoding.specs.declared.out_of_memory.OutOfMemory.{OutOfMemory}
use Rattle.sftp_link.specs.declared.piece.Piece.{Piece}
use Rattle.sftp_link.specs.Told.{IfLogged}
use Rattle.sftp_model.specs.declared.error.Error.{Error}
use Rattle.sftp_model.specs.declared.outcome.Outcome.{Outcome}
use Rattle.session_model.specs.Settings.{version_reply_of}
use Rattle.session_model.specs.Shown.{ShowsExchange}
use Rattle.link_frames.specs.Causes.{CountsLinkFault, EndCause}
use Rattle.session_driver.specs.Logs.{EndsSession}
use Rattle.sftp_lanes.specs.Seen.{session_inputs}
use Rattle.mirror_jobs.specs.declared.job.Job.{Job}
use Rattle.mirror_jobs.specs.declared.verdict.Verdict.{Verdict}
use Rattle.mirror_jobs.specs.JobLanes.{lanes_of, turns_of}
use Rattle.mirror_jobs.specs.Verdicts.{verdict_lines, verdicts_of}
use Rattle.sftp_mirror.specs.declared.copy.CopyReport.{CopyReport}
use Rattle.sftp_mirror.specs.declared.list.CopyList.{CopyList}
use Rattle.sftp_mirror.specs.declared.schedule.Schedule.{Schedule}
use Rattle.sftp_mirror.specs.Copies.{CopiesServed, IsCopyReport}
use Rattle.program_shell.specs.declared.ending.Answered.TheVariants.{Stopped}
use Rattle.program_shell.specs.declared.printed.Printed.{Printed}
use Rattle.program_shell.specs.Texts.{IsErrorLine}
use Rattle.program_shell.proofs.Stopping.{from_empty, stopped_over}
use Rattle.sftp_mirror.specs.Dialled.{IsShown, RunsOver}
use Rattle.sftp_mirror.specs.Printed.{verdicts_in}

pub is_shown : (schedule : Schedule) (list : CopyList) (jobs : List Job) (before log : List Piece) (faults : ℕ)
    (ended : Bool) (r : CopyReport) (text : List ℕ)
    → jobs ≡ list.jobs → before ≡ []
    → IsCopyReport schedule.width schedule.rounds jobs list.script.options (Some (reverse before)) (Some log) r
    → text ≡ verdict_lines jobs r.verdicts → IsShown (Some (record { log = log; faults = faults; ended = ended }))
    schedule list text
is_shown schedule list jobs before log faults ended r text same none copied is =
    subst (λ (x : List Job). (IsCopyReport schedule.width schedule.rounds x list.script.options (Some (reverse before))
    (Some log) r
    → text ≡ verdict_lines x r.verdicts → IsShown (Some (record { log = log; faults = faults; ended = ended })) schedule
    list text)) (sym same) of_list copied is
  where
    of_list : IsCopyReport schedule.width schedule.rounds list.jobs list.script.options (Some (reverse before))
        (Some log) r
        → text ≡ verdict_lines list.jobs r.verdicts → IsShown (Some
        (record { log = log; faults = faults; ended = ended })) schedule list text
    of_list c t =
        let report = c.report in
        let verdicts : r.verdicts ≡ verdicts_in schedule list.jobs report.past =
        c.verdicts ∙ ap (λ (o : List (List Outcome)). verdicts_of schedule.width list.jobs o) report.outcomes in
        record {
          extensions = report.extensions;
          past = report.past;
          link = record { log = log; faults = faults; ended = ended };
          back = refl;
          run = report.run;
          shown = from_empty (λ (b now : List Piece). ShowsExchange (version_reply_of report.extensions) report.past
              (reverse b) now) before log none report.log;
          closed = report.closed;
          copies = subst (λ (v : List Verdict). CopiesServed list.jobs report.past v) verdicts c.copies;
          is = t ∙ ap (λ (v : List Verdict). verdict_lines list.jobs v) verdicts;
        }

-- the run that copies a list's files stopped
pub copy_stopped : (schedule : Schedule) (list : CopyList) (jobs : List Job) (before log : List Piece)
    (first faults : ℕ) (ended : Bool) (e : Error) (r : Result Printed OutOfMemory) → jobs ≡ list.jobs → before ≡ []
    → first ≡ 0
    → IfLogged (EndsSession (session_inputs (lanes_of schedule.width jobs) list.script.options)
    (turns_of schedule.width schedule.rounds jobs) ended e) (Some (reverse before)) (Some log)
    → CountsLinkFault {T = CopyReport} first faults (Err e) → EndCause {T = CopyReport} ended (Err e)
    → IfOk r (λ reply. (reply.answered ≡ Stopped) × IsErrorLine e reply.text.items)
    → IfOk r (λ reply. RunsOver schedule (Some (record { log = log; faults = faults; ended = ended })) list
    reply.answered
    reply.text.items)
copy_stopped schedule list jobs before log first faults ended e r same none zero stops cause end is =
    stopped_over CopyReport (RunsOver schedule (Some (record { log = log; faults = faults; ended = ended })) list)
    (session_inputs (lanes_of schedule.width list.jobs) list.script.options)
    (turns_of schedule.width schedule.rounds list.jobs) before log first faults ended e r none zero
    (subst (λ (j : List Job). IfLogged (EndsSession (session_inputs (lanes_of schedule.width j) list.script.options)
    (turns_of schedule.width schedule.rounds j) ended e) (Some (reverse before)) (Some log)) same stops) cause end is
    (λ text h. h)
