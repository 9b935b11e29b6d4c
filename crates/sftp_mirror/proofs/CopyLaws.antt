-- What the report of files that were copied says, and a run whose verdicts found no memory.
use Rattle.std.proofs.Common.{◌≡◌, ◌≤◌, ℕ, Bool, true, List, [], ◌∷◌, length, Option, Some, None, refl, sym, subst, inl, inr}
use Rattle.std.specs.Prelude.{◌&&◌, map}
use Rattle.std.specs.List.{list_all}
use Rattle.std.proofs.lemmas.Bool.{and_parts}
use Rattle.sftp_model.specs.declared.error.Error.TheVariants.{OutOfMemory}
use Rattle.sftp_model.specs.declared.options.SftpOptions.{SftpOptions}
use Rattle.sftp_model.specs.declared.outcome.Outcome.{Outcome}
use Rattle.sftp_link.specs.declared.piece.Piece.{Piece}
use Rattle.sftp_link.specs.Told.{IfLogged}
use Rattle.machine_model.specs.FirstTree.{may_be_named, stand_apart}
use Rattle.plan_model.specs.declared.call.Lane.{Lane}
use Rattle.session_model.specs.declared.entry.Entry.{Entry}
use Rattle.session_model.specs.declared.report.Report.{Report}
use Rattle.session_model.specs.declared.turn.Turn.{Turn}
use Rattle.session_model.specs.Calls.{Setting}
use Rattle.session_model.specs.Journals.{IsJournal}
use Rattle.session_model.specs.Settings.{version_reply_of, setting_of}
use Rattle.session_model.specs.Shown.{ShowsExchange}
use Rattle.session_model.proofs.OverLaws.{runs_are_journals}
use Rattle.session_driver.specs.Logs.{EndsSession}
use Rattle.session_driver.specs.RunsSoFar.{whole}
use Rattle.session_driver.specs.Session.{IsLater}
use Rattle.sftp_lanes.specs.Reported.{IsReport}
use Rattle.sftp_lanes.specs.Seen.{session_inputs}
use Rattle.mirror_jobs.specs.declared.job.Job.{Job}
use Rattle.mirror_jobs.specs.declared.verdict.Verdict.{Verdict}
use Rattle.mirror_jobs.specs.JobLanes.{lanes_of, turns_of}
use Rattle.mirror_jobs.specs.Jobs.{are_ok, is_bounded, name_of}
use Rattle.mirror_jobs.specs.Verdicts.{verdicts_of}
use Rattle.mirror_jobs.proofs.CopyLaws.{copies_files}
use Rattle.mirror_jobs.proofs.GoodLaws.{good_files}
use Rattle.mirror_jobs.specs.GoodJobs.{CopiesWell}
use Rattle.session_model.specs.Readings.{outcomes_below}
use Rattle.sftp_mirror.specs.Copies.{CopiesServed, IsCopyReport, MayCopy}
use Rattle.sftp_mirror.specs.declared.copy.CopyReport.{CopyReport}

-- ---- what may be copied

pub all_bounded : (jobs : List Job) → are_ok jobs ≡ true → list_all is_bounded jobs ≡ true
all_bounded jobs ok =
    (and_parts (list_all is_bounded jobs) (list_all may_be_named (map name_of jobs))
    (and_parts (list_all is_bounded jobs && list_all may_be_named (map name_of jobs)) (stand_apart (map name_of jobs))
    ok).0).0

-- ---- a report

-- what is said of files holds of them, and good files are copied
said_holds : (width rounds : ℕ) (jobs : List Job) (options : SftpOptions) (before after : Option (List Piece))
    (report : Report)
    (verdicts : List Verdict) → 1 ≤ width → are_ok jobs ≡ true
    → (r : IsReport (lanes_of width jobs) options (turns_of width rounds jobs) before after report)
    → verdicts ≡ verdicts_of width jobs report.outcomes → CopiesServed jobs r.past verdicts
said_holds width rounds jobs options before after report verdicts some ok r is config choices tree left well served =
    subst (CopiesWell jobs choices tree left) (sym is)
    (subst (λ (o : List (List Outcome)). CopiesWell jobs choices tree left (verdicts_of width jobs o)) (sym r.outcomes)
    (record {
      files = copies_files width jobs config choices tree left (setting_of (lanes_of width jobs) options r.extensions
          r.past) r.past
          (outcomes_below r.past (length (lanes_of width jobs))) some ok (r.files config choices tree left well served);
      good = good_files width rounds jobs options r.extensions r.past config choices tree left some ok r.run well
          served;
    }))

pub copy_reported : (width rounds : ℕ) (jobs : List Job) (options : SftpOptions) (lanes : List Lane) (turns : List Turn)
    (before after : Option (List Piece)) (r : CopyReport) → MayCopy width rounds jobs → lanes ≡ lanes_of width jobs
    → turns ≡ turns_of width rounds jobs
    → IsReport lanes options turns before after r.report → r.verdicts ≡ verdicts_of width jobs r.report.outcomes
    → IsCopyReport width rounds jobs options before after r
copy_reported width rounds jobs options lanes turns before after r may same order report is =
    let run : IsReport (lanes_of width jobs) options (turns_of width rounds jobs) before after r.report =
    subst (λ (t : List Turn). IsReport (lanes_of width jobs) options t before after r.report) order
    (subst (λ (l : List Lane). IsReport l options turns before after r.report) same report) in
    record {
      report = run;
      verdicts = is;
      copies = said_holds width rounds jobs options before after r.report r.verdicts may.some may.ok run is;
    }

-- ---- no memory

later_all : (s : Setting) (past : List Entry) → IsJournal s past → IsLater s [] past
later_all s [] j = refl
later_all s (e ∷ past) j = inr (j.0, later_all s past j.1)

-- after a whole run the log shows it, and then nothing
pub report_stops : (lanes : List Lane) (options : SftpOptions) (turns : List Turn) (ended : Bool)
    (before after : Option (List Piece)) (report : Report)
    → IsReport lanes options turns before after report → IfLogged
    (EndsSession (session_inputs lanes options) turns ended OutOfMemory) before after
report_stops lanes options turns ended before after report r = stops before after r.log
  where
    stops : (b a : Option (List Piece)) → IfLogged (ShowsExchange (version_reply_of r.extensions) r.past) b a
        → IfLogged (EndsSession (session_inputs lanes options) turns ended OutOfMemory) b a
    stops None a shows = tt
    stops (Some b) None shows = absurd shows
    stops (Some b) (Some a) shows =
        inr (record {
          extensions = r.extensions;
          now = r.past;
          mid = a;
          later = later_all (setting_of lanes options r.extensions r.past) r.past
              (runs_are_journals (setting_of lanes options r.extensions r.past) turns r.past r.run);
          so_far = whole r.run;
          shows = shows;
          behind = inl (inl refl);
        })

-- so it is of the lanes and turns that copy files
pub copy_stops : (width rounds : ℕ) (jobs : List Job) (options : SftpOptions) (lanes : List Lane) (turns : List Turn)
    (ended : Bool)
    (before after : Option (List Piece)) (report : Report) → lanes ≡ lanes_of width jobs → turns
    ≡ turns_of width rounds jobs
    → IsReport lanes options turns before after report
    → IfLogged (EndsSession (session_inputs (lanes_of width jobs) options) (turns_of width rounds jobs) ended
    OutOfMemory) before after
copy_stops width rounds jobs options lanes turns ended before after report same order r =
    subst (λ (t : List Turn). IfLogged (EndsSession (session_inputs (lanes_of width jobs) options) t ended OutOfMemory)
    before after) order
    (subst (λ (l : List Lane). IfLogged (EndsSession (session_inputs l options) turns ended OutOfMemory) before after)
    same
    (report_stops lanes options turns ended before after report r))
