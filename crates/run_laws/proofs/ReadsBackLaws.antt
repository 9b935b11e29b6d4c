-- What whole runs return and leave of written bytes, by the lanes and the reported outcomes.
use Rattle.std.proofs.Common.{◌≡◌, ◌≤◌, ℕ, true, List, [], length, Option, Some, None, refl, sym, subst, arith}
use Rattle.std.specs.Prelude.{not, slice_get}
use Rattle.std.specs.List.{list_all}
use Rattle.sftp_model.specs.declared.options.SftpOptions.{SftpOptions}
use Rattle.sftp_model.specs.Lengths.{session_len}
use Rattle.sftp_model.specs.declared.config.Choice.{Choice}
use Rattle.sftp_model.specs.declared.config.ServerConfig.{ServerConfig}
use Rattle.sftp_model.specs.declared.flags.Extensions.{Extensions}
use Rattle.sftp_model.specs.declared.outcome.Outcome.{Outcome}
use Rattle.sftp_model.specs.declared.outcome.Outcome.TheVariants as outcome
use Rattle.machine_model.specs.Changes.{IsWellFormed}
use Rattle.machine_model.specs.Components.{Name}
use Rattle.machine_model.specs.FileTree.{FileTree}
use Rattle.plan_model.specs.declared.call.Call.{Call}
use Rattle.plan_model.specs.declared.call.Call.TheVariants as call
use Rattle.plan_model.specs.declared.call.Lane.{Lane}
use Rattle.session_model.specs.declared.entry.Entry.{Entry}
use Rattle.session_model.specs.declared.turn.Turn.{Turn}
use Rattle.session_model.specs.Calls.{Setting, lane_calls}
use Rattle.session_model.specs.Readings.{outcomes_below}
use Rattle.session_model.specs.Runs.{IsRun}
use Rattle.session_model.specs.Served.{ServesJournal}
use Rattle.session_model.specs.Settings.{setting_of}
use Rattle.run_laws.specs.FilesLeft.{IsUntouched}
use Rattle.run_laws.specs.Flushes.{FlushNumbers, FlushesLast, IsAloneBut}
use Rattle.run_laws.specs.LeavesFiles.{LeavesFiles}
use Rattle.run_laws.specs.NameCalls.{all_keep_off, none_writes, writes}
use Rattle.run_laws.specs.ReadsBack.{IsAlone, ReadsBack, WritesLast, calls_in}
use Rattle.run_laws.specs.RoundTrips.{HasWritten, NoneWrites}
use Rattle.run_laws.proofs.CallRequests.{held_still, may_hold}
use Rattle.run_laws.proofs.FlushedLaws.{flush_left}
use Rattle.run_laws.proofs.LaneCalls.{all_more, each_is}
use Rattle.run_laws.proofs.OffRequests.{is_still}
use Rattle.session_model.specs.Journals.{IsJournal}
use Rattle.session_model.proofs.OverLaws.{runs_are_journals}
use Rattle.run_laws.specs.CallsAmong.{GivesUnless}
use Rattle.run_laws.specs.ReadsFlushed.{ReadsFlushed}
use Rattle.run_laws.specs.Steps.{AreAllowed, FeignsNoEnd, RefusesNone}
use Rattle.run_laws.proofs.BackLaws.{gives_all, unrefused_feigns}
use Rattle.run_laws.proofs.FlushedReads.{flushed_reads}
use Rattle.run_laws.proofs.ServedSteps.{none_feigned, none_refused}
use Rattle.run_laws.proofs.RoundTripLaws as laws
use Rattle.run_laws.proofs.HandedLanes.{
  writes_none,
  AreHandedIn,
  handed_in,
  call_was,
  one_lanes,
  has_read,
  has_got,
  writes_before,
  has_written,
  may_hold_all,
  others_write_none,
  flushed_calls,
}

-- ---- runs

some_len : (most : Option ℕ) (len : ℕ) → 1 ≤ session_len most len
some_len None len = omega arith
some_len (Some most) len = omega arith

-- what a whole run gives of what was written
pub run_reads_back : (lanes : List Lane) (options : SftpOptions) (extensions : Extensions) (turns : List Turn)
    (past : List Entry) (config : ServerConfig) (choices : List Choice) (tree left : FileTree)
    → IsRun (setting_of lanes options extensions past) turns past
    → IsWellFormed tree → ServesJournal config choices tree past left
    → ReadsBack lanes choices tree (outcomes_below past (length lanes))
run_reads_back lanes options extensions turns past config choices tree left run well served =
    record {
      written = λ name lane writer reader bytes ended none alone w r. laws.reads_back s turns past config choices tree
          left name lane writer reader bytes ended run reads_some well served none
          (one_lanes lanes s turns past name lane are run alone)
          (has_written lanes s past name lane writer reader bytes are w)
          (has_read lanes s past name lane reader ended are r);
      there = λ name lane reader bytes ended none alone before has r. laws.reads_first s turns past config choices tree
          left name lane reader bytes ended run reads_some well served none
          (one_lanes lanes s turns past name lane are run alone)
          (writes_before lanes s past name lane reader are before) has
          (has_read lanes s past name lane reader ended are r);
      got_written = λ name lane writer reader bytes got honest alone w r. laws.got_back s turns past config choices tree
          left name lane writer reader bytes got run reads_some well served honest
          (one_lanes lanes s turns past name lane are run alone)
          (has_written lanes s past name lane writer reader bytes are w)
          (has_got lanes s past name lane reader got are r);
      got_there = λ name lane reader got honest alone before r. laws.got_first s turns past config choices tree left
          name lane reader got run reads_some well served honest (one_lanes lanes s turns past name lane are run alone)
          (writes_before lanes s past name lane reader are before) (has_got lanes s past name lane reader got are r);
      absent = λ name lane reader ended none alone before has r. laws.refused_first s turns past config choices tree
          left name lane reader ended run reads_some well served none
          (one_lanes lanes s turns past name lane are run alone)
          (writes_before lanes s past name lane reader are before) has
          (has_read lanes s past name lane reader ended are r);
    }
  where
    s : Setting
    s = setting_of lanes options extensions past

    -- a session's READs ask for a byte or more
    reads_some : 1 ≤ s.facts.read_len
    reads_some = some_len options.max_read_len _

    are : AreHandedIn lanes s past
    are = handed_in lanes options extensions turns past run

-- and what it leaves
pub run_leaves_files : (lanes : List Lane) (options : SftpOptions) (extensions : Extensions) (turns : List Turn)
    (past : List Entry) (config : ServerConfig) (choices : List Choice) (tree left : FileTree)
    → IsRun (setting_of lanes options extensions past) turns past
    → IsWellFormed tree → ServesJournal config choices tree past left
    → LeavesFiles lanes tree left (outcomes_below past (length lanes))
run_leaves_files lanes options extensions turns past config choices tree left run well served =
    record {
      written = λ name lane writer bytes alone w. laws.writes_left s turns past config choices tree left name lane
          writer bytes run well served (one_lanes lanes s turns past name lane are run alone)
          (to_end name lane writer bytes w);
      there = λ name lane bytes alone never has. (untouched name lane alone never).bytes bytes has;
      as_begun = λ name lane alone never. (untouched name lane alone never).node;
      flushed = λ name lane n bytes alone f. flush_left s turns past config choices tree left name lane n bytes run well
          served
          (subst (λ (calls : List Call). list_all (may_hold name) calls ≡ true) (sym (are lane))
          (may_hold_all lanes (outcomes_below past (length lanes)) name lane n (length (calls_in lanes lane)) bytes
          alone f))
          (λ other ne. laws.lane_keeps_off s turns past name other run
          (subst (λ (calls : List Call). all_keep_off name [] calls ≡ true) (sym (are other))
          (alone.others other ne)))
          (λ k c above ne is. let was : slice_get (calls_in lanes lane) k ≡ Some c =
          call_was lanes s past lane k (Some c) are is in
          others_write_none lanes (outcomes_below past (length lanes)) name lane n (length (calls_in lanes lane)) bytes
          alone f k c
          above (laws.got_below (calls_in lanes lane) k c was) ne was)
          (flushed_calls lanes s past name lane n (length (calls_in lanes lane)) bytes refl alone f);
    }
  where
    s : Setting
    s = setting_of lanes options extensions past

    are : AreHandedIn lanes s past
    are = handed_in lanes options extensions turns past run

    to_end : (name : Name) (lane writer : ℕ) (bytes : List ℕ) →
        WritesLast lanes (outcomes_below past (length lanes)) name lane writer (length (calls_in lanes lane)) bytes
        → HasWritten s past name lane writer (length (lane_calls s past lane)) bytes
    to_end name lane writer bytes w = subst (λ (calls : List Call). HasWritten s past name lane writer (length calls)
        bytes) (sym (are lane)) (has_written lanes s past name lane writer (length (calls_in lanes lane)) bytes are w)

    none_before : (name : Name) (lane : ℕ) → none_writes name (calls_in lanes lane) ≡ true
        → NoneWrites s past name lane (length (lane_calls s past lane))
    none_before name lane never k c below is names =
        writes_none name c (each_is (λ (c : Call). not (writes name c)) (calls_in lanes lane) k c never
        (call_was lanes s past lane k (Some c) are is)) names

    untouched : (name : Name) (lane : ℕ) → IsAlone lanes name lane → none_writes name (calls_in lanes lane) ≡ true
        → IsUntouched tree left name
    untouched name lane alone never =
        laws.left_untouched s turns past config choices tree left name lane run well served
        (one_lanes lanes s turns past name lane are run alone) (none_before name lane never)

-- what a lane reads behind writes that it flushed
pub run_reads_flushed : (lanes : List Lane) (options : SftpOptions) (extensions : Extensions) (turns : List Turn)
    (past : List Entry) (config : ServerConfig) (choices : List Choice) (tree left : FileTree)
    → IsRun (setting_of lanes options extensions past) turns past
    → IsWellFormed tree → ServesJournal config choices tree past left
    → ReadsFlushed lanes choices (outcomes_below past (length lanes))
run_reads_flushed lanes options extensions turns past config choices tree left run well served =
    record {
      flushed = λ name lane n reader bytes ended none alone f r.
          (let q = has_read lanes s past name lane reader ended are r in
          gives_all ended bytes
          (reads RefusesNone name lane n reader bytes q.path q.bound ended unrefused_feigns (none_refused choices none)
          alone f
          (laws.read_did s past name lane reader ended j (still name lane n reader bytes alone f) q)));
      got_flushed = λ name lane n reader bytes got honest alone f r.
          (let q = has_got lanes s past name lane reader got are r in
          laws.no_other got bytes
          (reads FeignsNoEnd name lane n reader bytes q.path q.bound (outcome.Bytes got) (λ c h. h)
          (none_feigned choices honest) alone f
          (laws.got_did s past name lane reader got j (still name lane n reader bytes alone f) q)));
    }
  where
    s : Setting
    s = setting_of lanes options extensions past

    outcomes : List (List Outcome)
    outcomes = outcomes_below past (length lanes)

    j : IsJournal s past
    j = runs_are_journals s turns past run

    are : AreHandedIn lanes s past
    are = handed_in lanes options extensions turns past run

    holds : (name : Name) (lane : ℕ) (n : FlushNumbers) (reader : ℕ) (bytes : List ℕ) → IsAloneBut lanes name lane n
        → FlushesLast lanes outcomes name lane n reader bytes → list_all (may_hold name) (lane_calls s past lane) ≡ true
    holds name lane n reader bytes alone f =
        subst (λ (calls : List Call). list_all (may_hold name) calls ≡ true) (sym (are lane))
        (may_hold_all lanes outcomes name lane n reader bytes alone f)

    still : (name : Name) (lane : ℕ) (n : FlushNumbers) (reader : ℕ) (bytes : List ℕ) → IsAloneBut lanes name lane n
        → FlushesLast lanes outcomes name lane n reader bytes → list_all is_still (lane_calls s past lane) ≡ true
    still name lane n reader bytes alone f =
        all_more (may_hold name) is_still (lane_calls s past lane) (held_still name)
        (holds name lane n reader bytes alone f)

    reads : (allowed : Choice → Type 0) (name : Name) (lane : ℕ) (n : FlushNumbers) (reader : ℕ) (bytes path : List ℕ)
        (bound : ℕ) (ended : Outcome)
        → ((c : Choice) → allowed c → FeignsNoEnd c) → AreAllowed allowed choices → IsAloneBut lanes name lane n
        → FlushesLast lanes outcomes name lane n reader bytes
        → laws.Did (call.FsRead path bound) s past name lane reader path ended → GivesUnless allowed ended bytes
    reads allowed name lane n reader bytes path bound ended honest among alone f did =
        flushed_reads allowed s turns past config choices tree left name lane n reader bytes path bound ended honest run
        (some_len options.max_read_len _) well served among (holds name lane n reader bytes alone f)
        (λ other ne. laws.lane_keeps_off s turns past name other run
        (subst (λ (calls : List Call). all_keep_off name [] calls ≡ true) (sym (are other)) (alone.others other ne)))
        (λ k c above below ne is. others_write_none lanes outcomes name lane n reader bytes alone f k c above below ne
        (call_was lanes s past lane k (Some c) are is))
        f.earlier (flushed_calls lanes s past name lane n reader bytes refl alone f) did
