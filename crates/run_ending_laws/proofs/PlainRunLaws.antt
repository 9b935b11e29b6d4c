-- What whole runs of plain calls do: how each call ends, which requests come first, what is left, and what ends well.
use Rattle.std.proofs.Common.{◌≡◌, ◌≢◌, ◌≤◌, ◌+◌, ℕ, zero, suc, true, List, [], ◌∷◌, ◌++◌, length, Some, refl, ap, sym, ◌∙◌, subst}
use Rattle.std.specs.Prelude.{map}
use Rattle.std.specs.List.{list_all}
use Rattle.std.proofs.lemmas.List.{append-nil}
use Rattle.sftp_model.specs.declared.config.Choice.{Choice}
use Rattle.sftp_model.specs.declared.config.ServerConfig.{ServerConfig}
use Rattle.sftp_model.specs.declared.outcome.Outcome.{Outcome}
use Rattle.sftp_model.specs.declared.outcome.Outcome.TheVariants as outcome
use Rattle.machine_model.specs.Components.{Name, components}
use Rattle.machine_model.specs.FileTree.{FileTree, all_bytes, node_at}
use Rattle.machine_model.specs.declared.node.Node.{Node}
use Rattle.plan_model.specs.declared.call.Call.{Call}
use Rattle.plan_model.specs.declared.call.Call.TheVariants as call
use Rattle.session_model.specs.declared.entry.Entry.{Entry}
use Rattle.session_model.specs.declared.turn.Turn.{Turn}
use Rattle.session_model.specs.Calls.{Setting, lane_calls}
use Rattle.session_model.specs.Readings.{own, count_sent}
use Rattle.session_model.specs.Runs.{IsRun}
use Rattle.session_model.proofs.OverLaws.{runs_are_journals}
use Rattle.run_laws.specs.ReadsBack.{call_in, calls_in}
use Rattle.run_laws.specs.RoundTrips.{outcome_at}
use Rattle.run_laws.specs.Steps.{HasBytes, RefuseNone, RunOf, Step, after, asked_in}
use Rattle.run_laws.proofs.CallEnds.{EndedByPlan, call_ended}
use Rattle.run_laws.proofs.LaneCalls.{all_more, each_is, plain_path}
use Rattle.run_laws.proofs.OffRequests.{is_still}
use Rattle.run_laws.proofs.PlainRuns.{plain_calls, run_plain}
use Rattle.run_laws.proofs.HandedLanes.{AreHandedIn, call_is}
use Rattle.run_laws.proofs.SentLaws.{AreAll, AreKnown, all_sent}
use Rattle.run_laws.proofs.ServedSteps.{run_of}
use Rattle.run_ending_laws.specs.Claims.{AreClaimed, NameClaims, claims_sum}
use Rattle.run_ending_laws.specs.EndsWell.{ReadsThere, ReadsWell, WritesWell}
use Rattle.run_ending_laws.specs.FirstMkdirs.{ComeFirst, MakesFirst, call_turns, times_then}
use Rattle.run_ending_laws.specs.PlainCalls.{IsPlainRun, IsServedPlainly, is_plain_call, may_end}
use Rattle.run_ending_laws.proofs.Alone.{GrantsNone, none_added}
use Rattle.run_ending_laws.proofs.AloneTurns.{Goes, MakeAll}
use Rattle.run_ending_laws.proofs.Building.{IsBuilding}
use Rattle.run_ending_laws.proofs.CallKinds.{plain_call_ends, plain_uncancelled}
use Rattle.run_ending_laws.proofs.Directories.{Builds, steps_keep}
use Rattle.run_ending_laws.proofs.EndsWell.{WritesSo, run_read_ends, run_write_ends}
use Rattle.run_ending_laws.proofs.FirstDirectories.{AreFirst, directories_come_first, mkdirs_as, opens_behind}
use Rattle.run_ending_laws.proofs.GrowingRuns.{AllSteps, Asker, AWriter, BuildsWithin, NoWrite, run_builds, steps_as, steps_known, who_builds, fit_after}
use Rattle.run_ending_laws.proofs.LastCalls.{PlainRunOf, plain_is_still}
use Rattle.run_ending_laws.proofs.ReadsThere.{run_read_there}
use Rattle.run_ending_laws.proofs.RunEnds.{outcome_there}
use Rattle.run_ending_laws.proofs.Sizes.{fit_at_first, fit_sum}
use Rattle.run_ending_laws.proofs.Uncancelled.{run_cancels_none, uncancelled}

-- ---- runs

handed : (s : Setting) (turns : List Turn) (past : List Entry) → IsRun s turns past → AreHandedIn s.lanes s past
handed s turns past run lane = plain_calls s past lane (run_plain s turns past run)

abbrev served_run : (s : Setting) (turns : List Turn) (past : List Entry) (config : ServerConfig)
    (choices : List Choice) (tree left : FileTree)
    → IsServedPlainly s turns past config choices tree left → PlainRunOf s.lanes s turns past config choices tree left
served_run s turns past config choices tree left p = record {
  run = p.plain.run;
  calm = p.plain.calm;
  given = refl;
  are = handed s turns past p.plain.run;
  serves = p.serves;
  well = p.well;
  plain = p.plain.plain;
}

-- ---- how calls end

pub call_ends : (s : Setting) (turns : List Turn) (past : List Entry) → IsPlainRun s turns past
    → (lane k : ℕ) (c : Call) → call_in s.lanes lane k ≡ Some c
    → (o : Outcome) × ((outcome_at past lane k ≡ Some o) × (may_end c o ≡ true))
call_ends s turns past p lane k c is =
    let ended = outcome_there s.lanes s turns past lane k c p.run refl are is in
    let not_cancelled : ended.0 ≢ outcome.Cancelled =
    λ same. uncancelled is_plain_call s past lane k plain_uncancelled (runs_are_journals s turns past p.run)
    (run_cancels_none s turns past p.calm p.run) all
    (ended.1 ∙ ap (λ (o : Outcome). Some o) same) in
    let d : EndedByPlan s past lane k c ended.0 = call_ended s past lane k c ended.0
    (runs_are_journals s turns past p.run)
    (call_is s.lanes s past lane k (Some c) are is) not_cancelled ended.1 in (
      ended.0,
      (
        ended.1,
        plain_call_ends c _ d.did.left s.facts (own past lane k) d.did.by ended.0
            (each_is is_plain_call (calls_in s.lanes lane) k c (p.plain lane) is) d.did.ends,
      ),
    )
  where
    are : AreHandedIn s.lanes s past
    are = handed s turns past p.run

    all : list_all is_plain_call (lane_calls s past lane) ≡ true
    all = subst (λ (calls : List Call). list_all is_plain_call calls ≡ true) (sym (are lane)) (p.plain lane)

-- ---- which requests come first

all_make : (paths : List (List ℕ)) → MakeAll (map call.Mkdir paths)
all_make [] k c e = absurd cc
all_make (path ∷ paths) zero c e = (path, (let same : c ≡ call.Mkdir path = cc in same))
all_make (path ∷ paths) (suc k) c e = all_make paths k c e

count_calls : (paths : List (List ℕ)) → length (map call.Mkdir paths) ≡ length paths
count_calls [] = refl
count_calls (path ∷ paths) = ap suc (count_calls paths)

goes_alone : (s : Setting) (lane : ℕ) (paths : List (List ℕ)) → list_all is_plain_call (calls_in s.lanes lane) ≡ true
    → calls_in s.lanes lane ≡ map call.Mkdir paths
    → Goes s lane (map call.Mkdir paths)
goes_alone s lane paths plain are = record {
  are = are;
  make = all_make paths;
  home = λ past path none. plain_path s past lane path (still past none);
}
  where
    still : (past : List Entry) → GrantsNone past → list_all is_still (lane_calls s past lane) ≡ true
    still past none =
        let calls : lane_calls s past lane ≡ calls_in s.lanes lane =
        ap (λ (w : List Call). calls_in s.lanes lane ++ w) (none_added past lane none)
        ∙ append-nil (calls_in s.lanes lane) in
        subst (λ (w : List Call). list_all is_still w ≡ true) (sym calls)
        (all_more is_plain_call is_still (calls_in s.lanes lane) plain_is_still plain)

first_made : (s : Setting) (turns : List Turn) (past : List Entry) (paths : List (List ℕ)) → IsPlainRun s turns past
    → MakesFirst s turns paths → AreFirst past (map call.Mkdir paths)
first_made s turns past paths p m =
    directories_come_first s m.lane (map call.Mkdir paths) m.later past
    (goes_alone s m.lane paths (p.plain m.lane) m.calls)
    (subst (λ (w : List Turn). IsRun s w past) (m.order ∙ ap (λ (n : ℕ). times_then n (call_turns m.lane) m.later)
    (sym (count_calls paths))) p.run)

pub come_first : (s : Setting) (turns : List Turn) (past : List Entry) (paths : List (List ℕ)) → IsPlainRun s turns past
    → MakesFirst s turns paths → ComeFirst past paths
come_first s turns past paths p m =
    let f = first_made s turns past paths p m in record {
      first = f.first;
      later = f.later;
      is = f.is;
      made = f.made
          ∙ mkdirs_as paths;
    }

-- ---- what is left

asker_builds : (s : Setting) (past : List Entry) (x : Step) → Asker s.lanes past x → IsBuilding x.request
asker_builds s past x (NoWrite builds none) = builds
asker_builds s past x (AWriter builds w mine) = builds

pub names_stay_so : (s : Setting) (turns : List Turn) (past : List Entry) (config : ServerConfig)
    (choices : List Choice) (tree left : FileTree) (name : Name) (n : Node)
    → IsServedPlainly s turns past config choices tree left → node_at tree name ≡ Some n → node_at left name ≡ Some n
names_stay_so s turns past config choices tree left name n p is =
    subst (λ (t : FileTree). node_at t name ≡ Some n) (sym r.leaves) (steps_keep config tree r.steps name n builds is)
  where
    q : PlainRunOf s.lanes s turns past config choices tree left
    q = served_run s turns past config choices tree left p

    r : RunOf config choices tree past left
    r = run_of config choices tree past left p.serves

    known : AreKnown past (count_sent past) (asked_in r.steps)
    known = AreAll.known (subst (AreAll past (count_sent past) []) (sym r.asks) (all_sent past))

    builds : AllSteps Builds config tree r.steps
    builds = steps_as (λ t x. Asker s.lanes past x) Builds config tree r.steps (λ t x a. asker_builds s past x a)
        (steps_known (Asker s.lanes past) config past (count_sent past) tree r.steps
        (who_builds s.lanes s turns past config choices tree left q) known)

pub sizes_stay : (s : Setting) (turns : List Turn) (past : List Entry) (config : ServerConfig) (choices : List Choice)
    (tree left : FileTree) (claims : NameClaims)
    → IsServedPlainly s turns past config choices tree left → AreClaimed s.lanes claims
    → all_bytes left ≤ all_bytes tree + claims_sum claims
sizes_stay s turns past config choices tree left claims p c =
    subst (λ (t : FileTree). all_bytes t ≤ all_bytes tree + claims_sum claims) (sym r.leaves)
    (fit_sum tree claims (after config tree r.steps)
    (fit_after claims config tree tree r.steps
    (run_builds s.lanes s turns past config choices tree left claims
    (served_run s turns past config choices tree left p) c) (fit_at_first tree claims)))
  where
    r : RunOf config choices tree past left
    r = run_of config choices tree past left p.serves

-- ---- what ends well

writes_so : (s : Setting) (turns : List Turn) (past : List Entry) (config : ServerConfig) (choices : List Choice)
    (tree left : FileTree) (claims : NameClaims) (paths : List (List ℕ))
    (lane k : ℕ) (path content : List ℕ) → (p : IsServedPlainly s turns past config choices tree left)
    → MakesFirst s turns paths → AreClaimed s.lanes claims → RefuseNone choices
    → WritesWell s.lanes tree claims paths lane k path content
    → WritesSo s.lanes past config tree claims (run_of config choices tree past left p.serves).steps lane k path content
writes_so s turns past config choices tree left claims paths lane k path content p m c none w = record {
  is = w.is;
  short = w.short;
  small = w.small;
  room = w.room;
  opens = opens_behind s.lanes s turns past config choices tree left paths lane k path content
      (served_run s turns past config choices tree left p) none
      (first_made s turns past paths p.plain m)
      (steps_as (BuildsWithin claims) Builds config tree (run_of config choices tree past left p.serves).steps
      (λ t x both. both.0)
      (run_builds s.lanes s turns past config choices tree left claims
      (served_run s turns past config choices tree left p) c))
      w.is w.below w.others;
}

pub write_ends : (s : Setting) (turns : List Turn) (past : List Entry) (config : ServerConfig) (choices : List Choice)
    (tree left : FileTree) (claims : NameClaims) (paths : List (List ℕ))
    (lane k : ℕ) (path content : List ℕ) → IsServedPlainly s turns past config choices tree left
    → MakesFirst s turns paths → AreClaimed s.lanes claims → RefuseNone choices
    → WritesWell s.lanes tree claims paths lane k path content → outcome_at past lane k ≡ Some outcome.Done
write_ends s turns past config choices tree left claims paths lane k path content p m c none w =
    run_write_ends s.lanes s turns past config choices tree left claims lane k path content
    (served_run s turns past config choices tree left p) c none
    (writes_so s turns past config choices tree left claims paths lane k path content p m c none w)

pub read_ends : (s : Setting) (turns : List Turn) (past : List Entry) (config : ServerConfig) (choices : List Choice)
    (tree left : FileTree) (claims : NameClaims) (paths : List (List ℕ))
    (lane k n : ℕ) (path content : List ℕ) → IsServedPlainly s turns past config choices tree left
    → MakesFirst s turns paths → AreClaimed s.lanes claims → RefuseNone choices
    → WritesWell s.lanes tree claims paths lane k path content → ReadsWell s lane k n path content
    → outcome_at past lane n ≡ Some (outcome.Bytes content)
read_ends s turns past config choices tree left claims paths lane k n path content p m c none w rd =
    run_read_ends s.lanes s turns past config choices tree left claims lane k n path content
    (served_run s turns past config choices tree left p) c none
    (writes_so s turns past config choices tree left claims paths lane k path content p m c none w) rd

pub read_there : (s : Setting) (turns : List Turn) (past : List Entry) (config : ServerConfig) (choices : List Choice)
    (tree left : FileTree) (claims : NameClaims)
    (lane n : ℕ) (path bytes : List ℕ) → IsServedPlainly s turns past config choices tree left
    → AreClaimed s.lanes claims → RefuseNone choices
    → HasBytes tree (components path) bytes → ReadsThere s claims lane n path bytes → outcome_at past lane n
    ≡ Some (outcome.Bytes bytes)
read_there s turns past config choices tree left claims lane n path bytes p c none has rd =
    run_read_there s turns past config choices tree left claims lane n path bytes
    (served_run s turns past config choices tree left p) c none has rd
