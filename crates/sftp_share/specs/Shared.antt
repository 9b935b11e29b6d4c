-- believed, except HasStopped
-- The text that is right for a script whose lanes run in threads.
use Rattle.std.specs.Prelude.{
  ◌≡◌,
  ◌<◌,
  ◌⊎◌,
  ℕ,
  Bool,
  true,
  false,
  List,
  ◌++◌,
  codes,
  length,
  reverse,
  Option,
  Some,
  Ok,
  Err,
}
use Rattle.machine_model.specs.FirstTree.{first_tree}
use Rattle.program_shell.specs.declared.ending.Answered.{Answered}
use Rattle.program_shell.specs.declared.ending.Answered.TheVariants.{Done, Stopped, Refused}
use Rattle.program_shell.specs.Ended.{ReadAs}
use Rattle.program_shell.specs.Texts.{IsErrorLine, refusal_line}
use Rattle.session_model.specs.declared.report.Report.{Report}
use Rattle.session_model.specs.Served.{ServesJournal}
use Rattle.sftp_link.specs.Views.{LinkView}
use Rattle.machine_answers.specs.MachineState.{MAX_HANDLES, MachineState}
use Rattle.sftp_model.specs.declared.error.Error.{Error}
use Rattle.sftp_model.specs.declared.error.Error.TheVariants as error
use Rattle.sftp_model.specs.declared.reply.Reply.{Reply}
use Rattle.sftp_model.specs.Frames.{reply_body}
use Rattle.script_grammar.specs.declared.script.Script.{Script}
use Rattle.sftp_tasks.specs.declared.report.SharedReport.{SharedReport}
use Rattle.script_text.specs.Texts.{dir_lines, fields_of, file_lines, hex_word, line, number_text, reply_word, text_of}
use Rattle.script_text.specs.Traces.{journal_of}
use Rattle.sftp_share.specs.declared.outcome.Replay.{Replay}
use Rattle.sftp_share.specs.declared.outcome.Replay.TheVariants as replay
use Rattle.sftp_share.specs.Replays.{replay_of}
use Rattle.machine_halves.specs.Halves.{Halves, IsNewHalf, halves_of}
use Rattle.session_threads.specs.Reports.{Ended, RunsShared, StopsBy}
use Rattle.session_threads.specs.RunEnds.{IsEnded}

-- ---- Texts

-- The frames and outcomes of a report.
abbrev pub report_text : Report → List ℕ
report_text report = text_of (journal_of report.trace) report.outcomes

-- The word and the fields of a reply, and a line feed.
abbrev pub reply_line : Reply → List ℕ
reply_line r = line (reply_word r ++ codes " " ++ hex_word (fields_of (reply_body r 0)))

-- The line that reports the request at which a replay differs, and the machine's reply to it.
abbrev pub differs_line : ℕ → Reply → List ℕ
differs_line place r = codes "differs " ++ number_text place ++ codes " " ++ reply_line r

-- The text for a replay: the machine's files and directories, or the request at which it differs.
abbrev pub replay_text : Replay → List ℕ
replay_text (replay.Serves machine) = file_lines machine.tree ++ dir_lines machine.tree
replay_text (replay.Differs place r) = differs_line place r

abbrev pub differs_by : Replay → Bool
differs_by (replay.Serves machine) = false
differs_by (replay.Differs place r) = true

-- ---- The halves

-- Two halves on which no call was made were given, this was done over them, and they were put back. The pair has their
-- records from then.
pub record PutBack (A B : Type 0) (Did : LinkView A → LinkView A → LinkView B → LinkView B → Type 0)
    (last : Option Halves) : Type 0
  where
    pub out : LinkView A
    pub out_now : LinkView A
    pub input : LinkView B
    pub input_now : LinkView B
    pub out_fresh : IsNewHalf out
    pub input_fresh : IsNewHalf input
    pub did : Did out out_now input input_now
    pub is : last ≡ Some (halves_of out_now input_now)

-- ---- A run

-- The lanes of a script ran to their end. The journal is a run so far of them without a grant that is to be closed.
-- Each lane was released, each request has its reply, and no call was added or cancelled. Both workers reached the end,
-- each over its half. The halves show the report's journal.
pub record HasRun (A B : Type 0) (last : Option Halves) (script : Script) (report : SharedReport) : Type 0 where
  pub runs : RunsShared script.lanes script.options report
  pub over : IsEnded (length script.lanes) (reverse report.journal.items)
  pub halves : PutBack A B (λ out out_now input input_now. Ended out out_now input input_now report) last

-- Halves were given, and this error stopped the run of the script's lanes over them, in the opening or by one of the
-- workers. They were put back.
abbrev pub StoppedOver : (A B : Type 0) → Option Halves → Script → Error → Type 0
StoppedOver A B last script e =
    PutBack A B (λ out out_now input input_now. StopsBy script.lanes script.options out out_now input input_now e) last

-- An error stopped the run of a script's lanes. Either an allocation failed, and the pair is unchanged; or halves were
-- given, and put back after it.
abbrev pub HasStopped : (A B : Type 0) → Option Halves → Option Halves → Script → Error → Type 0
HasStopped A B before last script e = ((e ≡ error.OutOfMemory) × (last ≡ before)) ⊎ StoppedOver A B last script e

-- The halves were put back after a run of a script's lanes to its end, or after one that an error stopped.
abbrev pub HasBack : (A B : Type 0) → Option Halves → Script → Type 0
HasBack A B last script =
    ((report : SharedReport) × HasRun A B last script report) ⊎ ((e : Error) × StoppedOver A B last script e)

-- An allocation failed. The pair is unchanged, or it has the halves back after a run of a script that satisfies
-- `Given`.
abbrev pub RunsOutOfMemory : (A B : Type 0) → (Script → Type 0) → Option Halves → Option Halves → Type 0
RunsOutOfMemory A B Given before last = (last ≡ before) ⊎ ((script : Script) × Given script × HasBack A B last script)

-- ---- The right text

-- The text is that of a run to its end, and of the outcome of its replay. If the machine serves it, and has granted
-- fewer handles than exist, the replies are those of one sequential run of the file machine. That run goes from the
-- script's files and directories to those that are written.
pub record IsShared (A B : Type 0) (last : Option Halves) (script : Script) (differs : Bool) (text : List ℕ) : Type 0
  where
    pub report : SharedReport
    pub run : HasRun A B last script report
    pub differs_is : differs ≡ differs_by (replay_of script report.report.trace)
    pub serves : (machine : MachineState) → replay_of script report.report.trace ≡ replay.Serves machine
        → machine.grants < MAX_HANDLES
        → ServesJournal script.server script.choices (first_tree script.files script.dirs)
        (reverse report.journal.items)
        machine.tree
    pub is : text ≡ report_text report.report ++ replay_text (replay_of script report.report.trace)

-- An error other than out of memory stopped the run of the script's lanes, and the line names it.
pub record IsStopped (A B : Type 0) (last : Option Halves) (script : Script) (text : List ℕ) : Type 0 where
  pub why : Error
  pub stops : StoppedOver A B last script why
  pub is : IsErrorLine why text

-- The answer and text that are right for a script.
abbrev pub RightFor : (A B : Type 0) → Option Halves → Script → Bool → Answered → List ℕ → Type 0
RightFor A B last script differs Done text = IsShared A B last script differs text
RightFor A B last script differs Stopped text = IsStopped A B last script text
RightFor A B last script differs Refused text = ⊥

-- The answer and text that are right for the bytes that were read. Bytes that are no script are refused, and nothing is
-- put back.
abbrev pub RightShared : (A B : Type 0) → Option Halves → Option Halves → Bool → ReadAs Script → Answered → List ℕ
    → Type 0
RightShared A B before last differs (Ok script) answered text = RightFor A B last script differs answered text
RightShared A B before last differs (Err why) Refused text = (text ≡ refusal_line why.0 why.1) × (last ≡ before)
RightShared A B before last differs (Err why) answered text = ⊥
