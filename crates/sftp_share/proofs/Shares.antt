-- A run of a script's lanes in threads, and the meaning of its replay.
use Rattle.std.proofs.Common.{◌≡◌, ◌<◌, ◌∙◌, ◌++◌, ℕ, Bool, List, length, refl, ap, sym, subst, inl, inr, ◌⊎◌}
use Rattle.std.specs.Prelude.{Option, Some, None, Result, Ok, Err, IfErr, IfOk, OnErr, reverse}
use Rattle.machine_model.specs.FirstTree.{first_tree}
use Rattle.plan_model.specs.declared.call.Lane.{Lane}
use Rattle.session_model.specs.Served.{ServesJournal}
use Rattle.session_model.specs.Journals.{IsJournal}
use Rattle.session_model.specs.Readings.{trace_of}
use Rattle.session_seats.specs.Sights.{entries}
use Rattle.sftp_lanes.specs.Seen.{setting_by}
use Rattle.sftp_link.specs.Views.{LinkView}
use Rattle.machine_answers.specs.MachineState.{MAX_HANDLES, MachineState}
use Rattle.sftp_model.specs.declared.error.Error.{Error}
use Rattle.sftp_model.specs.declared.options.SftpOptions.{SftpOptions}
use Rattle.script_grammar.specs.declared.script.Script.{Script}
use Rattle.script_grammar.specs.Scripts.{script_of}
use Rattle.ssh_encoding.specs.declared.out_of_memory.OutOfMemory.{OutOfMemory}
use Rattle.sftp_tasks.specs.declared.report.SharedReport.{SharedReport}
use Rattle.program_shell.specs.declared.ending.Answered.{Answered}
use Rattle.program_shell.specs.declared.ending.Answered.TheVariants.{Stopped}
use Rattle.program_shell.specs.Texts.{IsErrorLine, error_name}
use Rattle.sftp_share.specs.declared.outcome.Replay.TheVariants as replay
use Rattle.sftp_share.specs.Replays.{NoHello, machine_of, replay_of}
use Rattle.sftp_share.proofs.HelloLaws.{no_hello}
use Rattle.sftp_share.proofs.ServedLaws.{serves_sent}
use Rattle.machine_halves.specs.Halves.{Halves, IsNewHalf, halves_of}
use Rattle.session_threads.specs.Reports.{Ended, RunsShared, StopsBy}
use Rattle.session_threads.specs.RunEnds.{IsEnded}
use Rattle.sftp_share.specs.Shared.{
  HasBack,
  HasRun,
  HasStopped,
  IsShared,
  IsStopped,
  RightFor,
  RunsOutOfMemory,
  StoppedOver,
  differs_by,
  replay_text,
  report_text,
}

-- ---- a run

pub has_run : {A B : Type 0} (out out' : LinkView A) (input input' : LinkView B) (last : Option Halves)
    (script : Script) (lanes : List Lane)
    (report : SharedReport) → lanes ≡ script.lanes → IsNewHalf out → IsNewHalf input → last
    ≡ Some (halves_of out' input')
    → RunsShared lanes script.options report → IsEnded (length lanes) (reverse report.journal.items)
    → Ended out out' input input' report
    → HasRun A B last script report
has_run out out' input input' last script lanes report same fresh input_fresh back runs over ends = record {
  runs = subst (λ (l : List Lane). RunsShared l script.options report) same runs;
  over = subst (λ (l : List Lane). IsEnded (length l) (reverse report.journal.items)) same over;
  halves = record {
    out = out;
    out_now = out';
    input = input;
    input_now = input';
    out_fresh = fresh;
    input_fresh = input_fresh;
    did = ends;
    is = back;
  };
}

-- with either result
pub ran_if : {A B : Type 0} (out out' : LinkView A) (input input' : LinkView B) (last : Option Halves) (script : Script)
    (lanes : List Lane)
    (result : Result SharedReport Error) → lanes ≡ script.lanes → IsNewHalf out → IsNewHalf input → last
    ≡ Some (halves_of out' input')
    → IfOk result (λ report. RunsShared lanes script.options report)
    → IfOk result (λ report. IsEnded (length lanes) (reverse report.journal.items))
    → IfOk result (Ended out out' input input')
    → IfOk result (λ report. HasRun A B last script report)
ran_if out out' input input' last script lanes (Ok report) same fresh input_fresh back runs over ends =
    has_run out out' input input' last script lanes report same fresh input_fresh back runs over ends
ran_if out out' input input' last script lanes (Err e) same fresh input_fresh back runs over ends = tt

pub stopped_if : {A B : Type 0} (out out' : LinkView A) (input input' : LinkView B) (last : Option Halves)
    (script : Script) (lanes : List Lane) (result : Result SharedReport Error) → lanes ≡ script.lanes → IsNewHalf out
    → IsNewHalf input → last ≡ Some (halves_of out' input')
    → IfErr result (StopsBy lanes script.options out out' input input')
    → IfErr result (λ e. StoppedOver A B last script e)
stopped_if out out' input input' last script lanes (Ok report) same fresh input_fresh back stops = tt
stopped_if out out' input input' last script lanes (Err e) same fresh input_fresh back stops = record {
  out = out;
  out_now = out';
  input = input;
  input_now = input';
  out_fresh = fresh;
  input_fresh = input_fresh;
  did = subst (λ (l : List Lane). StopsBy l script.options out out' input input' e) same stops;
  is = back;
}

pub has_stopped_if : (A B : Type 0) (before last : Option Halves) (script : Script) (result : Result SharedReport Error)
    → IfErr result (λ e. StoppedOver A B last script e) → IfErr result (λ e. HasStopped A B before last script e)
has_stopped_if A B before last script (Ok report) stops = tt
has_stopped_if A B before last script (Err e) stops = inr stops

-- ---- out of memory

-- if an allocation failed for the answer to a run, or to an error
pub on_err : {T E : Type 0} (result : Result T E) (P : Type 0) → P → OnErr result P
on_err (Ok x) P p = tt
on_err (Err e) P p = p

pub run_back : {A B : Type 0} (before last : Option Halves) (script : Script) (report : SharedReport)
    → HasRun A B last script report
    → (last ≡ before) ⊎ HasBack A B last script
run_back before last script report run = inr (inl (report, run))

pub stop_back : {A B : Type 0} (before last : Option Halves) (script : Script) (e : Error)
    → HasStopped A B before last script e
    → (last ≡ before) ⊎ HasBack A B last script
stop_back before last script e (inl h) = inl h.1
stop_back before last script e (inr h) = inr (inr (e, h))

-- of a script that was read
pub read_starves : (A B : Type 0) {T : Type 0} (before last : Option Halves) (bytes : List ℕ) (script : Script)
    (result : Result T OutOfMemory) → script_of bytes ≡ Ok script
    → OnErr result ((last ≡ before) ⊎ HasBack A B last script)
    → OnErr result (RunsOutOfMemory A B (λ s. script_of bytes ≡ Ok s) before last)
read_starves A B before last bytes script (Ok x) e h = tt
read_starves A B before last bytes script (Err why) e (inl same) = inl same
read_starves A B before last bytes script (Err why) e (inr back) = inr (script, e, back)

-- ---- the replay

pub trace_none : (lanes : List Lane) (options : SftpOptions) (r : SharedReport) → RunsShared lanes options r
    → NoHello r.report.trace
trace_none lanes options r h =
    subst NoHello (sym h.trace) (no_hello (setting_by h.now.lanes h.now.options h.now.version h.info)
    (entries h.now.log) h.run)

pub serves : {A B : Type 0} (last : Option Halves) (script : Script) (r : SharedReport) → HasRun A B last script r
    → (machine : MachineState)
    → replay_of script r.report.trace ≡ replay.Serves machine → machine.grants < MAX_HANDLES
    → ServesJournal script.server script.choices (first_tree script.files script.dirs) (reverse r.journal.items)
    machine.tree
serves last script r h machine e few =
    let s = setting_by h.runs.now.lanes h.runs.now.options h.runs.now.version h.runs.info in
    let past = entries h.runs.now.log in
    let trace : trace_of (reverse r.journal.items) ≡ r.report.trace = ap trace_of h.runs.journal ∙ sym h.runs.trace in
    serves_sent (machine_of script) script.choices s (reverse r.journal.items) machine refl refl
    (subst (IsJournal s) (sym h.runs.journal) h.runs.run) (ap (replay_of script) trace ∙ e) few h.over.answered

pub is_shared : {A B : Type 0} (last : Option Halves) (script : Script) (r : SharedReport) (differs : Bool)
    (text : List ℕ)
    → HasRun A B last script r → differs ≡ differs_by (replay_of script r.report.trace)
    → text ≡ report_text r.report ++ replay_text (replay_of script r.report.trace)
    → IsShared A B last script differs text
is_shared last script r differs text h d t = record {
  report = r;
  run = h;
  differs_is = d;
  serves = λ machine e few. serves last script r h machine e few;
  is = t;
}

-- an error that a line names stopped the run over the halves
pub is_stopped : {A B : Type 0} (before last : Option Halves) (script : Script) (e : Error) (text : List ℕ)
    → HasStopped A B before last script e → IsErrorLine e text → IsStopped A B last script text
is_stopped before last script e text (inl h) line =
    absurd (let none : Some line.0 ≡ None = sym line.1 ∙ ap error_name h.0 in cc)
is_stopped before last script e text (inr h) line = record { why = e; stops = h; is = line }

pub stopped_right : {A B : Type 0} (before last : Option Halves) (script : Script) (e : Error) (differs : Bool)
    (says : Answered)
    (text : List ℕ) → HasStopped A B before last script e → says ≡ Stopped → IsErrorLine e text
    → RightFor A B last script differs says text
stopped_right {A = A} {B = B} before last script e differs says text stopped is line =
    subst (λ (a : Answered). RightFor A B last script differs a text) (sym is)
    (is_stopped before last script e text stopped line)
