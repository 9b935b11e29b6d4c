-- believed: done_in
-- The operations that a view can be given, and its report.
use Rattle.std.specs.Prelude.{◌≡◌, ◌≤◌, ℕ, true, List, [], Option, Result, IfOk, IfErr, reverse}
use Rattle.sftp_model.specs.declared.error.Error.{Error}
use Rattle.sftp_model.specs.declared.flags.Extensions.{Extensions}
use Rattle.sftp_model.specs.declared.options.SftpOptions.{SftpOptions}
use Rattle.sftp_link.specs.declared.piece.Piece.{Piece}
use Rattle.sftp_link.specs.Told.{IfLogged}
use Rattle.session_model.specs.declared.entry.Entry.{Entry}
use Rattle.session_model.specs.Calls.{calls_added_to}
use Rattle.session_model.specs.Journals.{IsJournal, IsOver}
use Rattle.session_model.specs.Readings.{outcomes_of}
use Rattle.session_model.specs.Settings.{version_reply_of, setting_of}
use Rattle.session_model.specs.Shown.{ShowsExchange}
use Rattle.session_driver.specs.Logs.{ShowsJournal}
use Rattle.session_driver.specs.Ongoing.{RunState, HasStopped}
use Rattle.session_driver.specs.Session.{IsFixed, IsLater}
use Rattle.link_frames.specs.Causes.{IsCausedByLink}
use Rattle.sftp_lanes.specs.Seen.{IsNew}
use Rattle.view_model.specs.Blocks.{Kept, nothing_kept}
use Rattle.view_model.specs.Caches.{cache_of}
use Rattle.view_model.specs.ViewOps.{are_ok}
use Rattle.view_model.specs.Viewed.{Made, Viewed, view_all}
use Rattle.view_model.specs.declared.answer.Answer.{Answer}
use Rattle.view_model.specs.declared.op.ViewOp.{ViewOp}
use Rattle.view_laws.specs.Plainly.{IsPlainThere}
use Rattle.sftp_view.specs.Doings.{one_lane}
use Rattle.sftp_view.specs.declared.ops.View.{View}
use Rattle.sftp_view.specs.declared.run.ViewReport.{ViewReport}

-- Blocks of 1 to 65536 bytes, of which at least one is kept, and operations that a view can be given.
pub record MayView (block capacity : ℕ) (ops : List ViewOp) : Type 0 where
  pub some : 1 ≤ block
  pub short : block ≤ 65536
  pub any : 1 ≤ capacity
  pub ok : are_ok block ops ≡ true

-- The effect by the outcomes of the lane's calls.
abbrev pub done_in : ℕ → ℕ → List ViewOp → List Entry → Made Viewed
done_in block capacity ops past = view_all block capacity ops (outcomes_of past 0)

-- ---- A session

-- The session is over, and the link's log shows VERSION and its journal, if the link records a log. The calls that were
-- added are exactly those that the operations make by the outcomes of these calls, in their order. The answers and the
-- blocks that are kept are theirs. If the replies are those of a file machine whose choices refuse nothing, they are
-- those that the files alone determine.
pub record IsDone {Service : Type 0} (block capacity : ℕ) (ops : List ViewOp) (before now : RunState Service)
    (answers : List Answer) (kept : Kept (List ℕ)) : Type 0 where
  pub run : IsJournal now.seen.setting now.seen.progress.past
  pub over : IsOver now.seen.setting now.seen.progress.past
  pub later : IsLater now.seen.setting [] now.seen.progress.past
  pub fixed : IsFixed before.seen.given now.seen.version now.seen.progress.past now.seen.setting
  pub same : now.seen.given ≡ before.seen.given
  pub calls : calls_added_to now.seen.progress.past 0 ≡ (done_in block capacity ops now.seen.progress.past).calls
  pub answers_are : answers ≡ (done_in block capacity ops now.seen.progress.past).value.answers
  pub kept_is : kept ≡ (done_in block capacity ops now.seen.progress.past).value.kept
  pub log : IfLogged (ShowsJournal now.seen.version now.seen.progress.past) before.link.log now.link.log
  pub plain : IsPlainThere block capacity now.seen.setting.facts.write_len ops now.seen.progress.past answers kept.hits
      kept.misses

-- A session did operations and was ended, or it stopped.
pub record ViewsFiles {Service : Type 0} (block capacity : ℕ) (ops : List ViewOp) (before now : RunState Service)
    (kept : Kept (List ℕ)) (result : Result (List Answer) Error) : Type 0 where
  pub done : IfOk result (λ answers. IsDone block capacity ops before now answers kept)
  pub left : IfErr result (HasStopped IsJournal before now)
  pub caused : IsCausedByLink before.link now.link result

-- ---- A whole view

-- The report's journal is a run so far after which the session is over, and the link's log shows it, if the link
-- records a log. The calls that were added are exactly those that the operations make by the outcomes of these
-- calls, in their order. The answers, hits and misses are theirs. If the replies are those of a file machine whose
-- choices refuse nothing, the files alone determine the answers, the hits, the misses and the files that are left.
pub record IsViewReport (block capacity : ℕ) (ops : List ViewOp) (options : SftpOptions)
    (before after : Option (List Piece)) (r : ViewReport) : Type 0 where
  pub extensions : Extensions
  pub past : List Entry
  pub journal : reverse r.journal ≡ past
  pub run : IsJournal (setting_of one_lane options extensions past) past
  pub over : IsOver (setting_of one_lane options extensions past) past
  pub calls : calls_added_to past 0 ≡ (done_in block capacity ops past).calls
  pub answers : r.answers ≡ (done_in block capacity ops past).value.answers
  pub hits : r.hits ≡ (done_in block capacity ops past).value.kept.hits
  pub misses : r.misses ≡ (done_in block capacity ops past).value.kept.misses
  pub log : IfLogged (ShowsExchange (version_reply_of extensions) past) before after
  pub plain : IsPlainThere block capacity (setting_of one_lane options extensions past).facts.write_len ops past
      r.answers
      r.hits r.misses

-- A new view with blocks of this length, of which it keeps at most `capacity` and none yet. Its session has one lane
-- without calls.
pub record IsNewView (block capacity : ℕ) (options : SftpOptions) (view : View) : Type 0 where
  pub session : IsNew one_lane options view.session
  pub cache : view.cache ≡ cache_of capacity nothing_kept
  pub block_is : view.block ≡ block
