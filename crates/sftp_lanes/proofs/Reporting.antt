-- What is reported of a whole run; and a run whose report found no memory stops after its journal.
use Rattle.std.proofs.Common.{◌≡◌, ◌∙◌, Bool, List, [], ◌∷◌, length, Option, Some, None, refl, ap, sym, subst, inl, inr}
use Rattle.sftp_model.specs.declared.options.SftpOptions.{SftpOptions}
use Rattle.plan_model.specs.declared.call.Lane.{Lane}
use Rattle.session_model.specs.declared.report.Report.{Report}
use Rattle.session_model.proofs.AllClosedLaws.{handles_closed}
use Rattle.session_model.specs.Readings.{outcomes_below, trace_of}
use Rattle.session_model.specs.Settings.{version_reply_of, setting_of}
use Rattle.session_model.specs.Shown.{ShowsExchange}
use Rattle.sftp_lanes.specs.Reported.{IsReport}
use Rattle.sftp_lanes.specs.Seen.{session_inputs}
use Rattle.sftp_lanes.specs.ServesFiles.{ServesFiles}
use Rattle.sftp_model.specs.declared.config.Choice.{Choice}
use Rattle.sftp_model.specs.declared.config.ServerConfig.{ServerConfig}
use Rattle.sftp_model.specs.declared.outcome.Outcome.{Outcome}
use Rattle.machine_model.specs.Changes.{IsWellFormed}
use Rattle.machine_model.specs.FileTree.{FileTree}
use Rattle.run_laws.specs.KeepsFiles.{KeepsFiles}
use Rattle.sftp_model.specs.declared.error.Error.TheVariants.{OutOfMemory}
use Rattle.sftp_model.specs.declared.reply.Reply.{Reply}
use Rattle.sftp_link.specs.declared.piece.Piece.{Piece}
use Rattle.sftp_link.specs.Told.{IfLogged}
use Rattle.session_model.specs.declared.entry.Entry.{Entry}
use Rattle.session_model.specs.declared.turn.Turn.{Turn}
use Rattle.session_model.specs.Calls.{Setting}
use Rattle.session_model.specs.Journals.{IsJournal}
use Rattle.session_model.proofs.OverLaws.{runs_are_journals}
use Rattle.session_model.specs.Runs.{IsRun}
use Rattle.session_driver.specs.Logs.{EndsSession, HasRun, ShowsJournal}
use Rattle.session_driver.specs.RunsSoFar.{whole}
use Rattle.session_driver.specs.Session.{SessionInputs, IsFixed, IsLater, SessionView}
use Rattle.run_laws.proofs.KeepsFilesLaws.{run_keeps_files}

pub later_all : (s : Setting) (past : List Entry) → IsJournal s past → IsLater s [] past
later_all s [] j = refl
later_all s (e ∷ past) j = inr (j.0, later_all s past j.1)

-- the log shows the whole run, and then nothing
pub reported_stops : (first given : SessionInputs) (now : SessionView) (schedule : List Turn) (ended : Bool)
    (before after : Option (List Piece)) → first ≡ given → HasRun first schedule now before after
    → IfLogged (EndsSession given schedule ended OutOfMemory) before after
reported_stops first given now schedule ended before after same ran = stops before after ran.shows
  where
    fixed : IsFixed given now.version now.progress.past now.setting
    fixed = subst (λ (x : SessionInputs). IsFixed x now.version now.progress.past now.setting) same ran.fixed

    stops : (b a : Option (List Piece)) → IfLogged (ShowsJournal now.version now.progress.past) b a
        → IfLogged (EndsSession given schedule ended OutOfMemory) b a
    stops None a shows = tt
    stops (Some b) None shows = absurd shows
    stops (Some b) (Some a) shows =
        let s : Setting = setting_of given.lanes given.options fixed.0 now.progress.past in
        let run : IsRun s schedule now.progress.past = subst (λ (x : Setting). IsRun x schedule now.progress.past)
        fixed.1.1 ran.run in
        inr (record {
          extensions = fixed.0;
          now = now.progress.past;
          mid = a;
          later = later_all s now.progress.past (runs_are_journals s schedule now.progress.past run);
          so_far = whole run;
          shows = subst (λ (v : Option Reply). ShowsJournal v now.progress.past b a) fixed.1.0 shows;
          behind = inl (inl refl);
        })

-- what is reported of a whole run
pub reported : (first : SessionInputs) (lanes : List Lane) (options : SftpOptions) (now : SessionView)
    (schedule : List Turn)
    (before after : Option (List Piece)) (report : Report) → first ≡ session_inputs lanes options
    → HasRun first schedule now before after
    → report.hello ≡ now.version → report.trace ≡ trace_of now.progress.past → report.outcomes
    ≡ outcomes_below now.progress.past (length now.setting.lanes) → IsReport lanes options schedule before after report
reported first lanes options now schedule before after report same ran hello trace outcomes =
    record {
      extensions = fixed.0;
      past = now.progress.past;
      run = is_run;
      hello = hello ∙ fixed.1.0;
      trace = trace;
      outcomes = outcomes ∙ ap (λ (x : Setting). outcomes_below now.progress.past (length x.lanes)) fixed.1.1;
      closed = handles_closed now.setting schedule now.progress.past ran.run;
      log = shown before after ran.shows;
      files = λ config choices tree left well served. run_keeps_files lanes options fixed.0 schedule now.progress.past
          config choices tree left is_run well served;
    }
  where
    fixed : IsFixed (session_inputs lanes options) now.version now.progress.past now.setting
    fixed = subst (λ (x : SessionInputs). IsFixed x now.version now.progress.past now.setting) same ran.fixed

    is_run : IsRun (setting_of lanes options fixed.0 now.progress.past) schedule now.progress.past
    is_run = subst (λ (x : Setting). IsRun x schedule now.progress.past) fixed.1.1 ran.run

    shown : (b a : Option (List Piece)) → IfLogged (ShowsJournal now.version now.progress.past) b a
        → IfLogged (ShowsExchange (version_reply_of fixed.0) now.progress.past) b a
    shown None a h = tt
    shown (Some b) None h = absurd h
    shown (Some b) (Some a) h = subst (λ (v : Option Reply). ShowsJournal v now.progress.past b a) fixed.1.0 h

-- over a link that served files, as its log tells, what was written is read back and is left
pub link_keeps_files : (lanes : List Lane) (options : SftpOptions) (schedule : List Turn) (before log : List Piece)
    (report : Report) (config : ServerConfig) (choices : List Choice) (tree left : FileTree)
    → (run : IsReport lanes options schedule (Some before) (Some log) report) → IsWellFormed tree
    → ServesFiles lanes options config choices tree left before log
    → KeepsFiles lanes config choices tree (setting_of lanes options run.extensions run.past) run.past left
    report.outcomes
link_keeps_files lanes options schedule before log report config choices tree left run well serves =
    subst (λ (o : List (List Outcome)). KeepsFiles lanes config choices tree
    (setting_of lanes options run.extensions run.past) run.past left o) (sym run.outcomes)
    (run.files config choices tree left well (serves run.extensions schedule run.past run.run run.log))
