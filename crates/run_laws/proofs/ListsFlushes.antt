-- What whole runs of lanes give of directories that they list, and of writes that they flush.
use Rattle.std.proofs.Common.{◌≡◌, ℕ, true, List, length, Some, ap, sym, ◌∙◌, subst}
use Rattle.sftp_model.specs.declared.options.SftpOptions.{SftpOptions}
use Rattle.sftp_model.specs.Slots.{slot_at}
use Rattle.sftp_model.specs.declared.config.Choice.{Choice}
use Rattle.sftp_model.specs.declared.config.ServerConfig.{ServerConfig}
use Rattle.sftp_model.specs.declared.flags.Extensions.{Extensions}
use Rattle.sftp_model.specs.declared.outcome.Outcome.TheVariants as outcome
use Rattle.sftp_model.specs.declared.request.Request.{Request}
use Rattle.sftp_model.specs.declared.slot.Site.{Site}
use Rattle.machine_model.specs.Changes.{IsWellFormed, OpensAs}
use Rattle.machine_model.specs.FileTree.{FileTree}
use Rattle.plan_model.specs.declared.call.Call.TheVariants as call
use Rattle.plan_model.specs.declared.call.Lane.{Lane}
use Rattle.session_model.specs.declared.entry.Entry.{Entry}
use Rattle.session_model.specs.declared.turn.Turn.{Turn}
use Rattle.session_model.specs.Calls.{Setting, site_of}
use Rattle.session_model.specs.Journals.{IsJournal}
use Rattle.session_model.specs.Readings.{AskedRequest, answer, asked_at, outcomes_below, own}
use Rattle.session_model.specs.Runs.{IsRun}
use Rattle.session_model.specs.Served.{ServesJournal}
use Rattle.session_model.specs.Settings.{setting_of}
use Rattle.session_model.proofs.OverLaws.{runs_are_journals}
use Rattle.run_laws.specs.CallsAmong.{HasEnded}
use Rattle.run_laws.specs.FlushesWrites.{FlushesWrites, WritesAndFlushes}
use Rattle.run_laws.specs.InJournals.{is_of_call}
use Rattle.run_laws.specs.ListsDirectories.{ListsDirectories}
use Rattle.run_laws.specs.ReadsBack.{calls_in}
use Rattle.run_laws.specs.SlotCalls.{leaves_slot}
use Rattle.run_laws.proofs.BufferedBears.{BearsOpen, bears_there, buffered_bears, open_asked}
use Rattle.run_laws.proofs.CallEnds.{EndedByPlan, call_ended}
use Rattle.run_laws.proofs.FlushedLaws.{WrittenThenFlushed, first_began, written_then_flushed}
use Rattle.run_laws.proofs.ListedLaws.{run_lists}
use Rattle.run_laws.proofs.OpenedLaws.{WritesByGrant, opens_plain}
use Rattle.run_laws.proofs.PlainRuns.{IsPlain, run_plain}
use Rattle.run_laws.proofs.PutLaws.{run_puts}
use Rattle.run_laws.proofs.HandedLanes.{call_is, handed_in, outcome_is, test_between}

pub run_lists_directories : (lanes : List Lane) (options : SftpOptions) (extensions : Extensions) (turns : List Turn)
    (past : List Entry) (config : ServerConfig) (choices : List Choice) (tree left : FileTree)
    → IsRun (setting_of lanes options extensions past) turns past → ServesJournal config choices tree past left
    → ListsDirectories lanes config choices tree (setting_of lanes options extensions past) past
    (outcomes_below past (length lanes))
run_lists_directories lanes options extensions turns past config choices tree left run served lane k path bound names is
    ends =
    let s : Setting = setting_of lanes options extensions past in
    let d : EndedByPlan s past lane k (call.List path bound) (outcome.Names names) =
    call_ended s past lane k (call.List path bound) (outcome.Names names) (runs_are_journals s turns past run)
    (call_is lanes s past lane k _ (handed_in lanes options extensions turns past run) is) (λ e. cc)
    (outcome_is past (length lanes) lane k _ ends)
    in
    run_lists s config choices tree left turns past lane k path bound names run served
    (subst (λ (x : Site). HasEnded (call.List path bound) x s.facts (own past lane k) (answer past)
    (outcome.Names names)) (sym d.began) d.did)

-- a call's requests write by the grant of the file in its slot
writes_by_grant : (lanes : List Lane) (options : SftpOptions) (extensions : Extensions) (past : List Entry) (lane k : ℕ)
    (bytes : List ℕ) → IsJournal (setting_of lanes options extensions past) past → IsPlain past
    → (f : WritesAndFlushes lanes (setting_of lanes options extensions past) past (outcomes_below past (length lanes))
    lane k bytes)
    → WritesByGrant (setting_of lanes options extensions past) past lane k f.file.grant f.handle
writes_by_grant lanes options extensions past lane k bytes j p f =
    record {
      opener = f.opener;
      asked_for = f.asked_by;
      came = f.came;
      bears = λ place a mine is. (bears place a mine is).0;
      before = λ place mine. (bears_there s past lane k f.file.grant f.handle bears place mine).0;
      unclosed = λ place mine. (bears_there s past lane k f.file.grant f.handle bears place mine).1;
      plain = λ a held is opens. opens_plain f.options f.path held f.plain
          (subst (λ (r : Request). OpensAs r held) (open_asked s past lane f.opener f.into f.options f.path f.file.grant
          a j p f.opens
          f.asked_by is) opens);
    }
  where
    s : Setting
    s = setting_of lanes options extensions past

    bears : (place : ℕ) (a : AskedRequest) → is_of_call past (lane, k) place ≡ true → asked_at past place ≡ Some a
        → BearsOpen s past f.file.grant f.handle place a.request
    bears place a mine is =
        buffered_bears s past lane k f.slot bytes f.handle f.file f.buffer j p f.writes f.there f.came place a mine is

pub run_flushes_writes : (lanes : List Lane) (options : SftpOptions) (extensions : Extensions) (turns : List Turn)
    (past : List Entry) (config : ServerConfig) (choices : List Choice) (tree left : FileTree)
    → IsRun (setting_of lanes options extensions past) turns past → IsWellFormed tree
    → FlushesWrites lanes config choices tree (setting_of lanes options extensions past) past left
    (outcomes_below past (length lanes))
run_flushes_writes lanes options extensions turns past config choices tree left run well lane k bytes f served =
    run_puts s config choices tree left turns past lane k f.slot f.file.grant f.file f.buffer bytes
    (site_of s two.second.before lane) s.facts (site_of s two.first.before lane) s.facts (own past lane f.flusher)
    served run well f.some
    (ap (λ (x : Site). slot_at x f.slot) (sym (first_began s past lane k f.flusher f.slot bytes two)) ∙ f.there)
    two.wrote two.same two.flush f.handle
    (writes_by_grant lanes options extensions past lane k bytes j p f)
  where
    s : Setting
    s = setting_of lanes options extensions past

    j : IsJournal s past
    j = runs_are_journals s turns past run

    p : IsPlain past
    p = run_plain s turns past run

    two : WrittenThenFlushed s past lane k f.flusher f.slot bytes
    two =
        written_then_flushed s past lane k f.flusher f.slot bytes j p f.later f.writes f.flushes
        (outcome_is past (length lanes) lane k _ f.written) (outcome_is past (length lanes) lane f.flusher _ f.flushed)
        (λ n c above below is. test_between (leaves_slot f.slot) (calls_in lanes lane) k f.flusher n c f.between above
        below is)
