-- A run of lanes over a server that nothing was sent to is served.
use Rattle.std.proofs.Common.{◌≡◌, ℕ, true, List, [], refl, ap, sym, ◌∙◌, subst, inl, inr}
use Rattle.std.specs.Prelude.{Option, Some, Result, Ok, Err, IfOk, Vec}
use Rattle.std.specs.declared.alloc.Global.{Global}
use Rattle.ssh_encoding.specs.declared.out_of_memory.OutOfMemory.{OutOfMemory}
use Rattle.std.specs.Option.{unwrap_or}
use Rattle.sftp_model.specs.declared.error.Error.TheVariants as error
use Rattle.sftp_model.specs.declared.options.SftpOptions.{SftpOptions}
use Rattle.sftp_model.specs.declared.reply.Reply.{Reply}
use Rattle.plan_model.specs.declared.call.Lane.{Lane}
use Rattle.session_model.specs.declared.report.Report.{Report}
use Rattle.script_grammar.specs.CanRun.{CanRun}
use Rattle.script_grammar.specs.declared.script.Script.{Script}
use Rattle.session_model.specs.declared.turn.Turn.{Turn}
use Rattle.plan_model.specs.Lanes.{are_ok}
use Rattle.session_model.specs.Settings.{version_reply_of, setting_of}
use Rattle.session_model.specs.Shown.{ShowsExchange}
use Rattle.sftp_cli.specs.declared.printed.Form.{Form}
use Rattle.session_driver.specs.Logs.{EndsSession}
use Rattle.session_driver.specs.Session.{SessionInputs, IsFixed}
use Rattle.sftp_lanes.specs.Seen.{session_inputs}
use Rattle.sftp_map_server.specs.Serving.{IsServing, Serving, version_reply}
use Rattle.sftp_map_server.specs.Unopened.{IsUnopened}
use Rattle.machine_laws.proofs.Whole.{version_is_told, run_is_served}
use Rattle.sftp_lanes.specs.Reported.{IsReport}
use Rattle.sftp_lanes.specs.ServesFiles.{ServesFiles}
use Rattle.program_shell.specs.Ended.{IsServerOf}
use Rattle.program_shell.proofs.Choices.{begins_run, begins_unfeigned}
use Rattle.program_shell.proofs.Stopping.{begins_well, from_empty}
use Rattle.sftp_cli.specs.Left.{LeavesServer}
use Rattle.sftp_cli.specs.Printed.{IsPrinted, IsServedReport, report_text}

-- a value in Some
some_is : {A : Type 0} (x y : A) → Some x ≡ Some y → x ≡ y
some_is x y e = ap (λ o. unwrap_or o x) e

-- its link serves files to whichever lanes a session can be given
pub server_serves_files : (lanes : List Lane) (options : SftpOptions) (server : Serving) → are_ok lanes ≡ true
    → IsUnopened server.first → IsServing server.first server.now server.log server.ended
    → ServesFiles lanes options server.first.state.machine.config server.first.state.choices
    server.first.state.machine.tree server.now.state.machine.tree [] server.log
server_serves_files lanes options server ok new serving extensions turns past run shown =
    (run_is_served (record { lanes = lanes; options = options }) (Some (version_reply_of extensions))
    (setting_of lanes options extensions past) turns past server new serving ok run (extensions, (refl, refl))
    shown).serves

pub served_report : (lanes : List Lane) (options : SftpOptions) (turns : List Turn) (old now : Serving) (r : Report)
    → are_ok lanes ≡ true → IsUnopened old.first → old.log ≡ [] → now.first ≡ old.first
    → IsServing now.first now.now now.log now.ended → IsReport lanes options turns (Some old.log) (Some now.log) r
    → IsServedReport lanes options turns now r
served_report lanes options turns old now r ok new none same serving report =
    let given : SessionInputs = record { lanes = lanes; options = options } in
    let hello : Option Reply = Some (version_reply_of report.extensions) in
    let s = setting_of lanes options report.extensions report.past in
    let fixed : IsFixed given hello report.past s = (report.extensions, (refl, refl)) in
    let fresh : IsUnopened now.first = subst IsUnopened (sym same) new in
    let shown : ShowsExchange (version_reply_of report.extensions) report.past [] now.log =
    from_empty (ShowsExchange (version_reply_of report.extensions) report.past) old.log now.log none report.log in
    let told = version_is_told given hello s report.past now fresh serving fixed shown in
    let served = run_is_served given hello s turns report.past now fresh serving ok report.run fixed shown in
    record {
      extensions = report.extensions;
      past = report.past;
      run = report.run;
      version = some_is (version_reply_of report.extensions) (version_reply now.first.state.machine.config) told;
      shown = shown;
      served = served;
      closed = report.closed;
      files = report.files now.first.state.machine.config now.first.state.choices now.first.state.machine.tree
          now.now.state.machine.tree (begins_well now.first fresh) served.serves;
      trace = report.trace;
      outcomes = report.outcomes;
    }

-- the text of a run over the server of a script
pub is_printed : (form : Form) (script : Script) (lanes : List Lane) (turns : List Turn) (old now : Serving)
    (report : Report) (r : Result (Vec ℕ Global) OutOfMemory) → lanes ≡ script.lanes → turns ≡ script.turns
    → CanRun script → IsServerOf script old → now.first ≡ old.first
    → IsServedReport lanes script.options turns now report
    → IfOk r (λ text. text.items ≡ report_text form report now.now.state.machine.tree)
    → IfOk r (λ text. IsPrinted form (Some now) script text.items)
is_printed form script lanes turns old now report (Err e) l t can first same run is = tt
is_printed form script lanes turns old now report (Ok text) l t can first same run is = record {
  server = now;
  is_kept = refl;
  first = same ∙ first;
  begins = begins_unfeigned script now (begins_run script can) (same ∙ first);
  report = report;
  run = subst (λ (x : List Turn). IsServedReport script.lanes script.options x now report) t
      (subst (λ (x : List Lane). IsServedReport x script.options turns now report) l run);
  is = is;
}

-- ---- the server that is left

pub reported_leaves : (script : Script) (lanes : List Lane) (turns : List Turn) (old now : Serving) (report : Report)
    → lanes ≡ script.lanes → turns ≡ script.turns → IsServerOf script old → now.first ≡ old.first
    → IsServedReport lanes script.options turns now report → LeavesServer script now
reported_leaves script lanes turns old now report l t first same run = record {
  first = same ∙ first;
  ran = inl (
    report,
    subst (λ (x : List Turn). IsServedReport script.lanes script.options x now report) t
        (subst (λ (x : List Lane). IsServedReport x script.options turns now report) l run),
  );
}

pub stopped_leaves : (script : Script) (lanes : List Lane) (turns : List Turn) (old now : Serving)
    → lanes ≡ script.lanes → turns ≡ script.turns → IsServerOf script old → now.first ≡ old.first
    → EndsSession (session_inputs lanes script.options) turns now.ended error.OutOfMemory [] now.log
    → LeavesServer script now
stopped_leaves script lanes turns old now l t first same stops = record {
  first = same ∙ first;
  ran = inr (subst (λ (x : List Turn). EndsSession (session_inputs script.lanes script.options) x now.ended
      error.OutOfMemory [] now.log) t
      (subst (λ (x : List Lane). EndsSession (session_inputs x script.options) turns now.ended error.OutOfMemory []
      now.log) l stops));
}
