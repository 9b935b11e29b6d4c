-- believed
-- The text that the program must write for the bytes of a list, over a server of its files in memory.
use Rattle.std.specs.Prelude.{◌≡◌, ℕ, List, [], ◌++◌, Option, Some, reverse}
use Rattle.sftp_model.specs.declared.options.SftpOptions.{SftpOptions}
use Rattle.sftp_model.specs.declared.flags.Extensions.{Extensions}
use Rattle.machine_model.specs.FileTree.{FileTree}
use Rattle.session_model.specs.declared.entry.Entry.{Entry}
use Rattle.session_model.specs.Calls.{calls_added_to}
use Rattle.session_model.specs.Journals.{IsJournal, IsOver}
use Rattle.session_model.specs.Settings.{version_reply_of, setting_of}
use Rattle.session_model.specs.Shown.{ShowsExchange}
use Rattle.program_shell.specs.Ended.{IsServerOf}
use Rattle.script_text.specs.Texts.{dir_lines, file_lines}
use Rattle.sftp_map_server.specs.Serving.{Serving, version_reply}
use Rattle.machine_laws.specs.ServedRuns.{IsServedRun}
use Rattle.run_laws.specs.Steps.{RefuseNone}
use Rattle.view_laws.specs.Plainly.{IsPlain}
use Rattle.view_model.specs.declared.cache_size.CacheSize.{CacheSize}
use Rattle.view_model.specs.declared.list.ViewList.{ViewList}
use Rattle.view_model.specs.AnswerText.{view_lines}
use Rattle.view_model.specs.declared.op.ViewOp.{ViewOp}
use Rattle.sftp_view.specs.Doings.{one_lane}
use Rattle.sftp_view.specs.Views.{done_in}
use Rattle.sftp_view.specs.declared.run.ViewReport.{ViewReport}

-- ---- A session

-- The report is that of a session over this server, which is over. The server's log shows VERSION, which reports the
-- server's offers, and the session's journal. The replies are those of one sequential run of the file machine. The
-- calls that were added are exactly those that the operations make by the outcomes of these calls, in their order. The
-- answers, hits and misses are theirs. If the server's choices refuse nothing, its files alone determine the answers,
-- the hits, the misses and the files that are left.
pub record IsServedView (size : CacheSize) (ops : List ViewOp) (options : SftpOptions) (server : Serving)
    (report : ViewReport) : Type 0 where
  pub extensions : Extensions
  pub past : List Entry
  pub journal : reverse report.journal ≡ past
  pub run : IsJournal (setting_of one_lane options extensions past) past
  pub over : IsOver (setting_of one_lane options extensions past) past
  pub version : version_reply_of extensions ≡ version_reply server.first.state.machine.config
  pub shown : ShowsExchange (version_reply_of extensions) past [] server.log
  pub served : IsServedRun server.first past server.now.state.machine.tree
  pub calls : calls_added_to past 0 ≡ (done_in size.block size.capacity ops past).calls
  pub answers : report.answers ≡ (done_in size.block size.capacity ops past).value.answers
  pub hits : report.hits ≡ (done_in size.block size.capacity ops past).value.kept.hits
  pub misses : report.misses ≡ (done_in size.block size.capacity ops past).value.kept.misses
  pub plain : RefuseNone server.first.state.choices → IsPlain size.block size.capacity
      (setting_of one_lane options extensions past).facts.write_len ops server.first.state.machine.tree
      server.now.state.machine.tree report.answers report.hits report.misses

-- ---- The text

-- The text of a report and of the files and directories that are left.
abbrev pub view_text : ViewReport → FileTree → List ℕ
view_text report tree = view_lines report.answers report.hits report.misses ++ file_lines tree ++ dir_lines tree

-- The text is that of the operations of a list over the list's server, which was kept, and of the files and directories
-- that are left there. The list's files alone determine the answers, the hits, the misses and the files that are left.
pub record IsViewed (size : CacheSize) (kept : Option Serving) (list : ViewList) (text : List ℕ) : Type 0 where
  pub server : Serving
  pub is_kept : kept ≡ Some server
  pub first : IsServerOf list.script server
  pub report : ViewReport
  pub run : IsServedView size list.ops list.script.options server report
  pub plain : IsPlain size.block size.capacity
      (setting_of one_lane list.script.options run.extensions run.past).facts.write_len list.ops
      server.first.state.machine.tree server.now.state.machine.tree report.answers report.hits report.misses
  pub is : text ≡ view_text report server.now.state.machine.tree
