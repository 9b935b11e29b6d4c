-- believed, except file_len_of
-- The text that the program must write for the bytes of a script.
use Rattle.std.specs.Prelude.{◌≡◌, ℕ, List, [], filter, length, Option, Some, None}
use Rattle.std.specs.List.{sum_by}
use Rattle.sftp_model.specs.declared.options.SftpOptions.{SftpOptions}
use Rattle.sftp_model.specs.declared.flags.Extensions.{Extensions}
use Rattle.machine_model.specs.FileTree.{FileTree}
use Rattle.machine_model.specs.Trees.{IsTree}
use Rattle.machine_model.specs.Listing.{has_file, in_name_order, node_bytes}
use Rattle.sftp_cli.specs.declared.summary.Summary.{Summary}
use Rattle.sftp_cli.specs.Summary.{capped_at_u64, summary_of, summary_text}
use Rattle.plan_model.specs.declared.call.Lane.{Lane}
use Rattle.session_model.specs.declared.entry.Entry.{Entry}
use Rattle.session_model.specs.declared.report.Report.{Report}
use Rattle.script_grammar.specs.declared.script.Script.{Script}
use Rattle.session_model.specs.declared.turn.Turn.{Turn}
use Rattle.session_model.specs.Calls.{Setting}
use Rattle.session_model.specs.Closes.{AreClosed}
use Rattle.session_model.specs.Readings.{trace_of, outcomes_below}
use Rattle.session_model.specs.Runs.{IsRun}
use Rattle.session_model.specs.Settings.{version_reply_of, setting_of}
use Rattle.session_model.specs.Shown.{ShowsExchange}
use Rattle.script_text.specs.Texts.{text_with_files}
use Rattle.sftp_map_server.specs.Serving.{Server, Serving, version_reply}
use Rattle.machine_laws.specs.ServedRuns.{IsServedRun}
use Rattle.run_laws.specs.KeepsFiles.{KeepsFiles}
use Rattle.run_laws.specs.Steps.{FeignNoEnd}
use Rattle.script_text.specs.Traces.{journal_of}
use Rattle.program_shell.specs.Ended.{IsServerOf}
use Rattle.sftp_cli.specs.declared.printed.Form.{Form}
use Rattle.sftp_cli.specs.declared.printed.Form.TheVariants as form

-- ---- The text of a run

-- The total size of the files of a tree in bytes, or the greatest number of 64 bits if it is more.
abbrev pub bytes_left : FileTree → ℕ
bytes_left tree = capped_at_u64 (sum_by (λ pair. length (node_bytes tree pair.1))
    (filter has_file (in_name_order tree.names)))

-- The numbers of a report, and of the files that are left.
abbrev pub summary_left : Report → FileTree → Summary
summary_left report tree = summary_of report (length (filter has_file tree.names)) (bytes_left tree)

-- The text for a report and for the files and directories that are left: all frames, outcomes, files and directories,
-- or their numbers.
abbrev pub report_text : Form → Report → FileTree → List ℕ
report_text form.Whole report tree = text_with_files (journal_of report.trace) report.outcomes tree
report_text form.Summary report tree = summary_text (summary_left report tree)

-- ---- A run

-- The files that a run of lanes reads and leaves, over a server that was this one at first.
abbrev pub KeepsOver : Server → List Lane → Setting → List Entry → FileTree → Type 0
KeepsOver first lanes s past left = KeepsFiles lanes first.state.machine.config first.state.choices
    first.state.machine.tree s past left (outcomes_below past (length lanes))

-- The report is that of a run of lanes over this server, whose log shows it: VERSION reported the server's offers, and
-- the log shows VERSION and the run's journal. The replies are those of one sequential run of the file machine, in the
-- order of the picks and under handles that are numbered by the grants. Each handle was closed exactly as often as it
-- was granted. If the choices refuse nothing, a name that only one lane uses was read back as the lane wrote it, and
-- its file is left with that content. The outcomes are the values of the plans.
pub record IsServedReport (lanes : List Lane) (options : SftpOptions) (turns : List Turn) (server : Serving)
    (report : Report) : Type 0 where
  pub extensions : Extensions
  pub past : List Entry
  pub run : IsRun (setting_of lanes options extensions past) turns past
  pub version : version_reply_of extensions ≡ version_reply server.first.state.machine.config
  pub shown : ShowsExchange (version_reply_of extensions) past [] server.log
  pub served : IsServedRun server.first past server.now.state.machine.tree
  pub closed : AreClosed past
  pub files : KeepsOver server.first lanes (setting_of lanes options extensions past) past server.now.state.machine.tree
  pub trace : report.trace ≡ trace_of past
  pub outcomes : report.outcomes ≡ outcomes_below past (length lanes)

-- The text is that of a run of a script's lanes over the script's server, which was kept, and of the files and
-- directories that are left there. No choice of the server feigns an end, and it starts with a tree, so each listing
-- that ended with names is whole.
pub record IsPrinted (form : Form) (kept : Option Serving) (script : Script) (text : List ℕ) : Type 0 where
  pub server : Serving
  pub is_kept : kept ≡ Some server
  pub first : IsServerOf script server
  pub begins : FeignNoEnd server.first.state.choices × IsTree server.first.state.machine.tree
  pub report : Report
  pub run : IsServedReport script.lanes script.options script.turns server report
  pub is : text ≡ report_text form report server.now.state.machine.tree

-- The size of a file in bytes, if there is one.
abbrev pub file_len_of : Option (List ℕ × List ℕ) → ℕ
file_len_of None = 0
file_len_of (Some file) = length file.1
