-- A run of a script's lanes over a link whose log was empty, and what the dial tells of the link then.
use Rattle.std.proofs.Common.{◌≡◌, ◌∙◌, ℕ, Bool, List, [], refl, ap, subst}
use Rattle.std.specs.Prelude.{Some, Result, Err, IfOk, reverse}
use Rattle.ssh_encoding.specs.declared.out_of_memory.OutOfMemory.{OutOfMemory}
use Rattle.sftp_link.specs.declared.piece.Piece.{Piece}
use Rattle.sftp_link.specs.Told.{IfLogged}
use Rattle.sftp_model.specs.declared.error.Error.{Error}
use Rattle.plan_model.specs.declared.call.Lane.{Lane}
use Rattle.session_model.specs.declared.report.Report.{Report}
use Rattle.script_grammar.specs.declared.script.Script.{Script}
use Rattle.session_model.specs.declared.turn.Turn.{Turn}
use Rattle.session_model.specs.Settings.{version_reply_of}
use Rattle.session_model.specs.Shown.{ShowsExchange}
use Rattle.script_text.specs.Texts.{text_of}
use Rattle.link_frames.specs.Causes.{CountsLinkFault, EndCause}
use Rattle.session_driver.specs.Logs.{EndsSession}
use Rattle.sftp_lanes.specs.Reported.{IsReport}
use Rattle.sftp_lanes.specs.Seen.{session_inputs}
use Rattle.script_text.specs.Traces.{journal_of}
use Rattle.script_text.proofs.TraceLaws.{trace_text}
use Rattle.program_shell.specs.declared.ending.Answered.TheVariants.{Stopped}
use Rattle.program_shell.specs.declared.printed.Printed.{Printed}
use Rattle.program_shell.specs.Texts.{IsErrorLine}
use Rattle.program_shell.proofs.Stopping.{from_empty, stopped_over}
use Rattle.sftp_cli.specs.Dialled.{IsShown, RunsOver}

pub is_shown : (script : Script) (before log : List Piece) (faults : ℕ) (ended : Bool) (report : Report) (text : List ℕ)
    → before ≡ []
    → IsReport script.lanes script.options script.turns (Some (reverse before)) (Some log) report → text
    ≡ text_of (journal_of report.trace) report.outcomes → IsShown
    (Some (record { log = log; faults = faults; ended = ended })) script text
is_shown script before log faults ended report text none run is =
    record {
      extensions = run.extensions;
      past = run.past;
      link = record { log = log; faults = faults; ended = ended };
      back = refl;
      run = run.run;
      shown = from_empty (λ (b now : List Piece). ShowsExchange (version_reply_of run.extensions) run.past (reverse b)
          now) before log none run.log;
      closed = run.closed;
      files = run.files;
      is = is ∙ ap (λ t. text_of (journal_of t) report.outcomes) run.trace ∙ trace_text run.past report.outcomes
          ∙ ap (λ o. text_of run.past o) run.outcomes;
    }

-- the run of a script's lanes stopped
pub run_stopped : (script : Script) (lanes : List Lane) (turns : List Turn) (before log : List Piece)
    (first faults : ℕ) (ended : Bool) (e : Error) (r : Result Printed OutOfMemory) → lanes ≡ script.lanes
    → turns ≡ script.turns → before ≡ [] → first ≡ 0
    → IfLogged (EndsSession (session_inputs lanes script.options) turns ended e) (Some (reverse before)) (Some log)
    → CountsLinkFault {T = Report} first faults (Err e) → EndCause {T = Report} ended (Err e)
    → IfOk r (λ reply. (reply.answered ≡ Stopped) × IsErrorLine e reply.text.items)
    → IfOk r (λ reply. RunsOver (Some (record { log = log; faults = faults; ended = ended })) script reply.answered
    reply.text.items)
run_stopped script lanes turns before log first faults ended e r same order none zero stops cause end is =
    stopped_over Report (RunsOver (Some (record { log = log; faults = faults; ended = ended })) script)
    (session_inputs script.lanes script.options) script.turns before log first faults ended e r none zero
    (subst (λ (t : List Turn). IfLogged (EndsSession (session_inputs script.lanes script.options) t ended e)
    (Some (reverse before)) (Some log)) order
    (subst (λ (l : List Lane). IfLogged (EndsSession (session_inputs l script.options) turns ended e)
    (Some (reverse before)) (Some log)) same stops))
    cause end is (λ text h. h)
