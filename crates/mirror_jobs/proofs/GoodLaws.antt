-- A good file is copied or got if the machine refuses nothing by choice.
use Rattle.std.proofs.Common.{
  ◌≡◌,
  ◌<◌,
  ◌≤◌,
  ◌+◌,
  ◌%◌,
  ℕ,
  Bool,
  true,
  not,
  List,
  [],
  ◌∷◌,
  ◌++◌,
  length,
  take,
  drop,
  Option,
  Some,
  None,
  refl,
  ap,
  sym,
  ◌∙◌,
  subst,
  arith,
}
use Rattle.std.specs.Prelude.{nat_lt, ◌&&◌, map, slice_get}
use Rattle.std.specs.List.{flat_map}
use Rattle.std.proofs.lemmas.Bool.{and_parts}
use Rattle.std.proofs.lemmas.Bool.Decides.{nat_tests}
use Rattle.std.proofs.lemmas.Nat.{mod_below}
use Rattle.sftp_model.specs.Lengths.{offers_limits, read_len_of}
use Rattle.sftp_model.specs.declared.config.Choice.{Choice}
use Rattle.sftp_model.specs.declared.config.ServerConfig.{ServerConfig}
use Rattle.sftp_model.specs.declared.flags.Extensions.{Extensions}
use Rattle.sftp_model.specs.declared.options.SftpOptions.{SftpOptions}
use Rattle.sftp_model.specs.declared.outcome.Outcome.{Outcome}
use Rattle.sftp_model.specs.declared.outcome.Outcome.TheVariants as outcome
use Rattle.machine_model.specs.Changes.{IsWellFormed}
use Rattle.machine_model.specs.Components.{Name, components}
use Rattle.machine_model.specs.FileTree.{FileTree, node_at}
use Rattle.machine_model.specs.FirstTree.{stand_apart}
use Rattle.machine_model.specs.declared.node.Node.{Node}
use Rattle.machine_model.specs.declared.node.Node.TheVariants as node
use Rattle.plan_model.specs.declared.call.Call.{Call}
use Rattle.plan_model.specs.declared.call.Call.TheVariants as call
use Rattle.plan_model.specs.declared.call.Lane.{Lane}
use Rattle.session_model.specs.declared.entry.Entry.{Entry}
use Rattle.session_model.specs.Calls.{Setting}
use Rattle.session_model.specs.Readings.{answer, outcomes_below, outcomes_of}
use Rattle.session_model.specs.Runs.{IsRun}
use Rattle.session_model.specs.Served.{ServesJournal}
use Rattle.session_model.specs.Settings.{limits_told, setting_of}
use Rattle.run_laws.specs.ReadsBack.{call_in}
use Rattle.run_laws.specs.RoundTrips.{outcome_at, passes_length}
use Rattle.run_laws.specs.Steps.{HasBytes, RefuseNone}
use Rattle.run_ending_laws.specs.EndsWell.{ReadsThere}
use Rattle.run_ending_laws.proofs.PlainRunLaws.{read_there}
use Rattle.run_ending_laws.proofs.RunEnds.{lane_under}
use Rattle.mirror_jobs.specs.declared.job.Job.{Job}
use Rattle.mirror_jobs.specs.declared.job.Job.TheVariants as job
use Rattle.mirror_jobs.specs.declared.verdict.Verdict.TheVariants as verdict
use Rattle.mirror_jobs.specs.JobLanes.{calls_of, jobs_of_lane, lanes_of, turns_of}
use Rattle.mirror_jobs.specs.Jobs.{are_ok, name_of}
use Rattle.mirror_jobs.specs.Verdicts.{lane_after, place_after, verdict_of, verdicts_of}
use Rattle.mirror_jobs.specs.GoodJobs.{CopiesGood, bytes_there, good_verdict, is_file, is_good_job}
use Rattle.mirror_jobs.proofs.AloneLaws.{alone}
use Rattle.mirror_jobs.proofs.CopyLaws.{lane_is, ok_apart}
use Rattle.mirror_jobs.proofs.CutLaws.{IsCutAt, cut_at, got_behind}
use Rattle.mirror_jobs.proofs.JobCalls.{claims_of, lanes_claimed, lanes_plain, never_written, unclaimed}
use Rattle.mirror_jobs.proofs.RunParts.{one_taken, outcomes_at, turns_calm, verdict_there}
use Rattle.mirror_jobs.proofs.GoodCopies.{not_true, some_len, good_copied}

-- ---- a file that comes down

-- what is asked of it
record IsGoodDown (tree : FileTree) (path : List ℕ) (bound : ℕ) : Type 0 where
  there : is_file (node_at tree (components path)) ≡ true
  short : not (passes_length path) ≡ true
  over : nat_lt (length (bytes_there tree (node_at tree (components path)))) bound ≡ true

good_down : (tree : FileTree) (jobs : List Job) (path : List ℕ) (bound : ℕ)
    → is_good_job tree jobs (job.Down path bound) ≡ true → IsGoodDown tree path bound
good_down tree jobs path bound e =
    let a : Bool = is_file (node_at tree (components path)) in
    let b : Bool = not (passes_length path) in
    let p = and_parts (a && b) (nat_lt (length (bytes_there tree (node_at tree (components path)))) bound) e in
    let q = and_parts a b p.0 in
    record { there = q.0; short = q.1; over = p.1 }

file_there : (tree : FileTree) (name : Name) → is_file (node_at tree name) ≡ true
    → HasBytes tree name (bytes_there tree (node_at tree name))
file_there tree name e = by_node (node_at tree name) refl e
  where
    by_node : (o : Option Node) → node_at tree name ≡ o → is_file o ≡ true → HasBytes tree name (bytes_there tree o)
    by_node None is e = absurd cc
    by_node (Some node.Directory) is e = absurd cc
    by_node (Some (node.File file)) is e = record { file = file; is = is; bytes_are = refl }

good_got : (width rounds : ℕ) (before behind : List Job) (path : List ℕ) (bound : ℕ) (options : SftpOptions)
    (extensions : Extensions) (past : List Entry)
    (config : ServerConfig) (choices : List Choice) (tree left : FileTree) → 1 ≤ width
    → are_ok (before ++ job.Down path bound ∷ behind) ≡ true
    → IsRun (setting_of (lanes_of width (before ++ job.Down path bound ∷ behind)) options extensions past)
    (turns_of width rounds (before ++ job.Down path bound ∷ behind)) past
    → RefuseNone choices → IsWellFormed tree → ServesJournal config choices tree past left
    → is_good_job tree (before ++ job.Down path bound ∷ behind) (job.Down path bound) ≡ true
    → slice_get (verdicts_of width (before ++ job.Down path bound ∷ behind)
    (outcomes_below past (length (lanes_of width (before ++ job.Down path bound ∷ behind))))) (length before)
    ≡ Some (verdict.Got (bytes_there tree (node_at tree (components path))))
good_got width rounds before behind path bound options extensions past config choices tree left some ok run none well
    serves is_ok =
    verdict_there width [] before behind j (outcomes_below past (length lanes))
    ∙ ap (λ (os : List Outcome). Some (verdict_of j os)) (ap (λ (os : List Outcome). take 1 (drop place os))
    (outcomes_at past (length lanes) lane (lane_under lanes lane place (call.FsRead path bound) read_is))
    ∙ one_taken (outcomes_of past lane) place (outcome.Bytes bytes) got)
  where
    j : Job
    j = job.Down path bound

    jobs : List Job
    jobs = before ++ j ∷ behind

    lanes : List Lane
    lanes = lanes_of width jobs

    s : Setting
    s = setting_of lanes options extensions past

    bytes : List ℕ
    bytes = bytes_there tree (node_at tree (components path))

    lane : ℕ
    lane = lane_after width before

    place : ℕ
    place = place_after width before

    lt : length before % width < width
    lt = mod_below (length before) width (let lt : 0 < width = omega (arith, some) in lt)

    apart : stand_apart (map name_of jobs) ≡ true
    apart = ok_apart jobs ok

    good : IsGoodDown tree path bound
    good = good_down tree jobs path bound is_ok

    read_is : call_in lanes lane place ≡ Some (call.FsRead path bound)
    read_is = ap (λ (w : List Call). slice_get w place) (lane_is width before behind j lt)
        ∙ got_behind (flat_map calls_of (jobs_of_lane width (length before % width) 0 before))
        (flat_map calls_of (jobs_of_lane width (length before % width) (length before + 1) behind))
        (call.FsRead path bound)

    rd : ReadsThere s (claims_of jobs) lane place path bytes
    rd = record {
      bound = bound;
      is = read_is;
      short = not_true (passes_length path) good.short;
      over = (let lt = good.over in grind (arith, nat_tests));
      some = some_len options.max_read_len (read_len_of (limits_told (offers_limits extensions) (answer past 0)));
      room = omega arith;
      alone = alone width before behind j lt apart;
      never = never_written width before behind path bound lt apart;
      unclaimed = unclaimed before behind path bound apart;
    }

    got : outcome_at past lane place ≡ Some (outcome.Bytes bytes)
    got = read_there s (turns_of width rounds jobs) past config choices tree left (claims_of jobs) lane place path bytes
        (record {
          plain = record { run = run; calm = turns_calm width rounds jobs; plain = lanes_plain width jobs };
          serves = serves;
          well = well;
        })
        (lanes_claimed width jobs some ok) none (file_there tree (components path) good.there) rd

-- ---- all files

-- each good file is copied or got
pub good_files : (width rounds : ℕ) (jobs : List Job) (options : SftpOptions) (extensions : Extensions)
    (past : List Entry) (config : ServerConfig) (choices : List Choice)
    (tree left : FileTree) → 1 ≤ width → are_ok jobs ≡ true → IsRun
    (setting_of (lanes_of width jobs) options extensions past) (turns_of width rounds jobs) past
    → IsWellFormed tree → ServesJournal config choices tree past left
    → CopiesGood jobs choices tree (verdicts_of width jobs (outcomes_below past (length (lanes_of width jobs))))
good_files width rounds jobs options extensions past config choices tree left some ok run well serves i
    (job.Down path bound) none there good =
    let c : IsCutAt jobs i (job.Down path bound) = cut_at jobs i (job.Down path bound) there in
    subst (λ (n : ℕ). slice_get (verdicts_of width jobs (outcomes_below past (length (lanes_of width jobs)))) n
    ≡ Some (good_verdict tree (job.Down path bound))) c.at
    (subst (λ (js : List Job). slice_get (verdicts_of width js (outcomes_below past (length (lanes_of width js))))
    (length c.before) ≡ Some (good_verdict tree (job.Down path bound))) (sym c.is)
    (good_got width rounds c.before c.behind path bound options extensions past config choices tree left some
    (subst (λ (js : List Job). are_ok js ≡ true) c.is ok)
    (subst (λ (js : List Job). IsRun (setting_of (lanes_of width js) options extensions past) (turns_of width rounds js)
    past) c.is run) none well serves
    (subst (λ (js : List Job). is_good_job tree js (job.Down path bound) ≡ true) c.is good)))
good_files width rounds jobs options extensions past config choices tree left some ok run well serves i
    (job.Up path content) none there good =
    let c : IsCutAt jobs i (job.Up path content) = cut_at jobs i (job.Up path content) there in
    subst (λ (n : ℕ). slice_get (verdicts_of width jobs (outcomes_below past (length (lanes_of width jobs)))) n
    ≡ Some verdict.Copied) c.at
    (subst (λ (js : List Job). slice_get (verdicts_of width js (outcomes_below past (length (lanes_of width js))))
    (length c.before) ≡ Some verdict.Copied) (sym c.is)
    (good_copied width rounds c.before c.behind path content options extensions past config choices tree left some
    (subst (λ (js : List Job). are_ok js ≡ true) c.is ok)
    (subst (λ (js : List Job). IsRun (setting_of (lanes_of width js) options extensions past) (turns_of width rounds js)
    past) c.is run) none well serves
    (subst (λ (js : List Job). is_good_job tree js (job.Up path content) ≡ true) c.is good)))
