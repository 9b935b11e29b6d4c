-- Files that are copied over a server that nothing was sent to: the run is served.
use Rattle.std.proofs.Common.{◌≡◌, ℕ, List, [], refl, ap, sym, ◌∙◌, subst, inl, inr}
use Rattle.std.specs.Prelude.{Option, Some, Result, Ok, Err, IfOk, Vec}
use Rattle.std.specs.declared.alloc.Global.{Global}
use Rattle.ssh_encoding.specs.declared.out_of_memory.OutOfMemory.{OutOfMemory}
use Rattle.std.specs.Option.{unwrap_or}
use Rattle.sftp_model.specs.declared.error.Error.TheVariants as error
use Rattle.sftp_model.specs.declared.options.SftpOptions.{SftpOptions}
use Rattle.sftp_model.specs.declared.outcome.Outcome.{Outcome}
use Rattle.sftp_model.specs.declared.reply.Reply.{Reply}
use Rattle.plan_model.specs.declared.call.Lane.{Lane}
use Rattle.session_model.specs.declared.turn.Turn.{Turn}
use Rattle.session_model.specs.Settings.{version_reply_of, setting_of}
use Rattle.session_model.specs.Shown.{ShowsExchange}
use Rattle.session_driver.specs.Logs.{EndsSession}
use Rattle.session_driver.specs.Session.{SessionInputs, IsFixed}
use Rattle.sftp_lanes.specs.Seen.{session_inputs}
use Rattle.sftp_map_server.specs.Serving.{IsServing, Serving, version_reply}
use Rattle.sftp_map_server.specs.Unopened.{IsUnopened}
use Rattle.machine_laws.proofs.Whole.{version_is_told, run_is_served}
use Rattle.mirror_jobs.specs.declared.job.Job.{Job}
use Rattle.mirror_jobs.specs.JobLanes.{lanes_of, turns_of}
use Rattle.mirror_jobs.specs.Verdicts.{verdicts_of}
use Rattle.sftp_mirror.specs.declared.copy.CopyReport.{CopyReport}
use Rattle.sftp_mirror.specs.declared.list.CopyList.{CopyList}
use Rattle.sftp_mirror.specs.declared.schedule.Schedule.{Schedule}
use Rattle.sftp_mirror.specs.CanCopy.{CanCopy}
use Rattle.sftp_mirror.specs.Copies.{IsCopyReport, MayCopy}
use Rattle.program_shell.specs.Ended.{IsServerOf}
use Rattle.program_shell.proofs.Choices.{begins_unfeigned}
use Rattle.program_shell.proofs.Stopping.{begins_well, from_empty}
use Rattle.sftp_mirror.specs.Left.{LeavesServer}
use Rattle.sftp_mirror.specs.Printed.{IsCopied, IsServedCopy, copy_text}

-- a value in Some
some_is : {A : Type 0} (x y : A) → Some x ≡ Some y → x ≡ y
some_is x y e = ap (λ o. unwrap_or o x) e

pub served_copy : (schedule : Schedule) (jobs : List Job) (options : SftpOptions) (old now : Serving) (r : CopyReport)
    → MayCopy schedule.width schedule.rounds jobs → IsUnopened old.first → old.log ≡ [] → now.first ≡ old.first
    → IsServing now.first now.now now.log now.ended
    → IsCopyReport schedule.width schedule.rounds jobs options (Some old.log) (Some now.log) r
    → IsServedCopy schedule jobs options now r
served_copy schedule jobs options old now r may new none same serving copied =
    let lanes : List Lane = lanes_of schedule.width jobs in
    let turns : List Turn = turns_of schedule.width schedule.rounds jobs in
    let report = copied.report in
    let given : SessionInputs = record { lanes = lanes; options = options } in
    let hello : Option Reply = Some (version_reply_of report.extensions) in
    let s = setting_of lanes options report.extensions report.past in
    let fixed : IsFixed given hello report.past s = (report.extensions, (refl, refl)) in
    let fresh : IsUnopened now.first = subst IsUnopened (sym same) new in
    let shown : ShowsExchange (version_reply_of report.extensions) report.past [] now.log =
    from_empty (ShowsExchange (version_reply_of report.extensions) report.past) old.log now.log none report.log in
    let told = version_is_told given hello s report.past now fresh serving fixed shown in
    let served = run_is_served given hello s turns report.past now fresh serving may.lanes report.run fixed shown in
    record {
      extensions = report.extensions;
      past = report.past;
      run = report.run;
      version = some_is (version_reply_of report.extensions) (version_reply now.first.state.machine.config) told;
      shown = shown;
      served = served;
      closed = report.closed;
      verdicts = copied.verdicts ∙ ap (λ (o : List (List Outcome)). verdicts_of schedule.width jobs o) report.outcomes;
      copies = copied.copies now.first.state.machine.config now.first.state.choices now.first.state.machine.tree
          now.now.state.machine.tree (begins_well now.first fresh) served.serves;
    }

-- the text of what was copied over the server of a list
pub is_copied : (schedule : Schedule) (list : CopyList) (jobs : List Job) (old now : Serving) (report : CopyReport)
    (r : Result (Vec ℕ Global) OutOfMemory) → jobs ≡ list.jobs → CanCopy list → IsServerOf list.script old
    → now.first ≡ old.first
    → IsServedCopy schedule jobs list.script.options now report
    → IfOk r (λ text. text.items ≡ copy_text jobs report.verdicts now.now.state.machine.tree)
    → IfOk r (λ text. IsCopied schedule (Some now) list text.items)
is_copied schedule list jobs old now report (Err e) j can first same run is = tt
is_copied schedule list jobs old now report (Ok text) j can first same run is = record {
  server = now;
  is_kept = refl;
  first = same ∙ first;
  begins = begins_unfeigned list.script now can.begins (same ∙ first);
  report = report;
  run = subst (λ (x : List Job). IsServedCopy schedule x list.script.options now report) j run;
  is = is ∙ ap (λ (x : List Job). copy_text x report.verdicts now.now.state.machine.tree) j;
}

-- ---- the server that is left

pub reported_leaves : (schedule : Schedule) (list : CopyList) (jobs : List Job) (old now : Serving)
    (report : CopyReport) → jobs ≡ list.jobs → IsServerOf list.script old → now.first ≡ old.first
    → IsServedCopy schedule jobs list.script.options now report → LeavesServer schedule list now
reported_leaves schedule list jobs old now report j first same run = record {
  first = same ∙ first;
  ran = inl (report, subst (λ (x : List Job). IsServedCopy schedule x list.script.options now report) j run);
}

pub stopped_leaves : (schedule : Schedule) (list : CopyList) (jobs : List Job) (old now : Serving) → jobs ≡ list.jobs
    → IsServerOf list.script old → now.first ≡ old.first
    → EndsSession (session_inputs (lanes_of schedule.width jobs) list.script.options)
    (turns_of schedule.width schedule.rounds jobs) now.ended error.OutOfMemory [] now.log
    → LeavesServer schedule list now
stopped_leaves schedule list jobs old now j first same stops = record {
  first = same ∙ first;
  ran = inr (subst (λ (x : List Job). EndsSession (session_inputs (lanes_of schedule.width x) list.script.options)
      (turns_of schedule.width schedule.rounds x) now.ended error.OutOfMemory [] now.log) j stops);
}
