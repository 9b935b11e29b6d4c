-- A good file that goes up is copied if the machine refuses nothing by choice.
use Rattle.std.proofs.Common.{
  ◌≡◌,
  ◌≢◌,
  ◌<◌,
  ◌≤◌,
  ◌+◌,
  ◌-◌,
  ◌%◌,
  ◌==◌,
  ℕ,
  zero,
  suc,
  Bool,
  true,
  false,
  not,
  List,
  [],
  ◌∷◌,
  ◌++◌,
  length,
  take,
  drop,
  Option,
  Some,
  None,
  refl,
  ap,
  sym,
  ◌∙◌,
  arith,
  inl,
  inr,
}
use Rattle.std.specs.Prelude.{◌&&◌, map, nat_le, slice_get, slice_index_or}
use Rattle.std.specs.List.{flat_map, list_all}
use Rattle.std.proofs.lemmas.Bool.{and_parts, cases_lt}
use Rattle.std.proofs.lemmas.Bool.Decides.{nat_tests}
use Rattle.std.proofs.lemmas.List.{length-map}
use Rattle.std.proofs.lemmas.Nat.{mod_below}
use Rattle.sftp_model.specs.Lengths.{offers_limits, read_len_of, session_len}
use Rattle.sftp_model.specs.declared.config.Choice.{Choice}
use Rattle.sftp_model.specs.declared.config.ServerConfig.{ServerConfig}
use Rattle.sftp_model.specs.declared.flags.Extensions.{Extensions}
use Rattle.sftp_model.specs.declared.options.SftpOptions.{SftpOptions}
use Rattle.sftp_model.specs.declared.outcome.Outcome.{Outcome}
use Rattle.sftp_model.specs.declared.outcome.Outcome.TheVariants as outcome
use Rattle.machine_model.specs.Changes.{IsWellFormed}
use Rattle.machine_model.specs.Components.{Name, components, is_long_name, last_of, text_of_name}
use Rattle.machine_model.specs.FileTree.{FileTree, all_bytes, is_directory, node_at}
use Rattle.machine_model.specs.FirstTree.{may_be_named, stand_apart}
use Rattle.machine_model.specs.Limits.{MAX_COMPONENT_LEN, MAX_FILE_LEN, MAX_TOTAL_LEN}
use Rattle.machine_model.specs.declared.node.Node.{Node}
use Rattle.machine_model.specs.declared.node.Node.TheVariants as node
use Rattle.plan_model.proofs.Among.{Among}
use Rattle.plan_model.specs.WholePlans.{to_replace}
use Rattle.plan_model.specs.WindowPlans.{to_read}
use Rattle.plan_model.specs.declared.call.Call.{Call}
use Rattle.plan_model.specs.declared.call.Call.TheVariants as call
use Rattle.plan_model.specs.declared.call.Lane.{Lane}
use Rattle.session_model.specs.declared.entry.Entry.{Entry}
use Rattle.session_model.specs.declared.turn.Turn.{Turn}
use Rattle.session_model.specs.Calls.{Setting, calls_of as lane_calls_of}
use Rattle.session_model.specs.Readings.{answer, outcomes_below, outcomes_of}
use Rattle.session_model.specs.Runs.{IsRun}
use Rattle.session_model.specs.Served.{ServesJournal}
use Rattle.session_model.specs.Settings.{limits_told, setting_of}
use Rattle.run_laws.specs.NameCalls.{all_keep_off, is_of_other}
use Rattle.run_laws.specs.ReadsBack.{IsAlone, call_in, calls_in}
use Rattle.run_laws.specs.RoundTrips.{outcome_at, passes_length}
use Rattle.run_laws.specs.Steps.{RefuseNone}
use Rattle.run_laws.proofs.OffRequests.{told_apart}
use Rattle.sftp_model.specs.Paths.{joined_path}
use Rattle.run_ending_laws.specs.Claims.{AreClaimed}
use Rattle.run_ending_laws.specs.EndsWell.{ReadsWell, WritesWell}
use Rattle.run_ending_laws.specs.FirstMkdirs.{MakesFirst, call_turns, times_then}
use Rattle.run_ending_laws.specs.PlainCalls.{IsServedPlainly}
use Rattle.run_ending_laws.specs.StandsBelow.{MakeOthers, NoDirectory, NoFile, StandsBelow, first_parts}
use Rattle.run_ending_laws.proofs.PathLengths.{mkdir_fits, opens_fit}
use Rattle.run_ending_laws.proofs.PlainRunLaws.{read_ends, write_ends}
use Rattle.run_ending_laws.proofs.RunEnds.{lane_under}
use Rattle.mirror_jobs.specs.declared.directory.Directory.{Directory}
use Rattle.mirror_jobs.specs.declared.job.Job.{Job}
use Rattle.mirror_jobs.specs.declared.job.Job.TheVariants as job
use Rattle.mirror_jobs.specs.declared.verdict.Verdict.{Verdict}
use Rattle.mirror_jobs.specs.declared.verdict.Verdict.TheVariants as verdict
use Rattle.mirror_jobs.specs.JobLanes.{
  calls_of,
  jobs_of_lane,
  lanes_of,
  mkdir_call,
  mkdir_turns,
  repeat_turn,
  round,
  turns_of,
}
use Rattle.mirror_jobs.specs.Jobs.{are_ok, is_bounded, name_of}
use Rattle.mirror_jobs.specs.Parents.{directory, leading_slash, parents, parents_of}
use Rattle.mirror_jobs.specs.Verdicts.{lane_after, place_after, verdict_of, verdicts_of}
use Rattle.mirror_jobs.specs.GoodJobs.{is_file, is_good_job, may_be_made, up_bytes}
use Rattle.mirror_jobs.specs.PlainNames.{is_plain}
use Rattle.mirror_jobs.proofs.AloneLaws.{alone}
use Rattle.mirror_jobs.proofs.CopyLaws.{lane_is, ok_apart}
use Rattle.mirror_jobs.proofs.CutLaws.{got_behind, got_next, lane_beyond, lane_got}
use Rattle.mirror_jobs.proofs.JobCalls.{claims_are, claims_of, lanes_claimed, lanes_plain, later_write_none}
use Rattle.mirror_jobs.proofs.OrderLaws.{above_has, parents_deeper, parents_have, paths_of}
use Rattle.mirror_jobs.proofs.ParentRunLaws.{joined_to_none, led_is}
use Rattle.mirror_jobs.proofs.RunParts.{
  copied_verdict,
  mkdir_calls,
  outcomes_at,
  times_are,
  turns_calm,
  two_taken,
  verdict_there,
}
use Rattle.mirror_jobs.proofs.WrittenLaws.{plain_components}
use Rattle.mirror_jobs.proofs.WrittenLengths.{above_short}

-- ---- a good file

among_all : {A : Type 0} (test : A → Bool) (xs : List A) (x : A) → list_all test xs ≡ true → Among x xs → test x ≡ true
among_all test [] x all h = absurd h
among_all test (y ∷ xs) x all (inl e) = ap test e ∙ (and_parts (test y) (list_all test xs) all).0
among_all test (y ∷ xs) x all (inr h) = among_all test xs x (and_parts (test y) (list_all test xs) all).1 h

take_all_pass : (test : List ℕ → Bool) (n : ℕ) (name : Name) → list_all test name ≡ true → list_all test (take n name)
    ≡ true
take_all_pass test zero name all = refl
take_all_pass test (suc n) [] all = refl
take_all_pass test (suc n) (part ∷ name) all = let both = and_parts (test part) (list_all test name) all in
    rw (both.0, take_all_pass test n name both.1) refl

-- what is asked of it
record IsGood (tree : FileTree) (jobs : List Job) (path content : List ℕ) : Type 0 where
  parents_free : list_all (may_be_made tree) (parents_of (job.Up path content)) ≡ true
  no_directory : not (is_directory (node_at tree (components path))) ≡ true
  short : not (passes_length path) ≡ true
  small : nat_le (length content) MAX_FILE_LEN ≡ true
  room : nat_le (all_bytes tree + up_bytes jobs) MAX_TOTAL_LEN ≡ true

good_parts : (tree : FileTree) (jobs : List Job) (path content : List ℕ) → is_good_job tree jobs (job.Up path content)
    ≡ true → IsGood tree jobs path content
good_parts tree jobs path content e =
    let a : Bool = list_all (may_be_made tree) (parents_of (job.Up path content)) in
    let b : Bool = not (is_directory (node_at tree (components path))) in
    let c : Bool = not (passes_length path) in
    let d : Bool = nat_le (length content) MAX_FILE_LEN in
    let f : Bool = nat_le (all_bytes tree + up_bytes jobs) MAX_TOTAL_LEN in
    let p = and_parts (a && b && c && d) f e in
    let q = and_parts (a && b && c) d p.0 in
    let r = and_parts (a && b) c q.0 in
    let t = and_parts a b r.0 in
    record { parents_free = t.0; no_directory = t.1; short = r.1; small = q.1; room = p.1 }

named_at : (before behind : List Job) (j : Job) → list_all may_be_named (map name_of (before ++ j ∷ behind)) ≡ true
    → may_be_named (name_of j) ≡ true
named_at [] behind j all = (and_parts (may_be_named (name_of j)) (list_all may_be_named (map name_of behind)) all).0
named_at (x ∷ before) behind j all =
    named_at before behind j (and_parts (may_be_named (name_of x))
    (list_all may_be_named (map name_of (before ++ j ∷ behind))) all).1

all_named : (jobs : List Job) → are_ok jobs ≡ true → list_all may_be_named (map name_of jobs) ≡ true
all_named jobs ok =
    (and_parts (list_all is_bounded jobs) (list_all may_be_named (map name_of jobs))
    (and_parts (list_all is_bounded jobs && list_all may_be_named (map name_of jobs)) (stand_apart (map name_of jobs))
    ok).0).1

abbrev is_component : List ℕ → Bool
is_component part = nat_le (length part) MAX_COMPONENT_LEN

part_short : (name : Name) (i : ℕ) → list_all is_component name ≡ true
    → length (slice_index_or name i []) ≤ MAX_COMPONENT_LEN
part_short [] i all = omega arith
part_short (part ∷ name) zero all =
    let le : nat_le (length part) MAX_COMPONENT_LEN ≡ true = (and_parts (is_component part) (list_all is_component name)
    all).0 in grind (arith, nat_tests)
part_short (part ∷ name) (suc i) all = part_short name i (and_parts (is_component part) (list_all is_component name)
    all).1

none_long : (name : Name) → list_all is_component name ≡ true → (i : ℕ) → i < length name
    → is_long_name (first_parts name (suc i)) ≡ false
none_long name all i lt =
    let le : length (last_of (first_parts name (suc i))) ≤ MAX_COMPONENT_LEN =
    part_short (first_parts name (suc i)) (length (first_parts name (suc i)) - 1)
    (take_all_pass is_component (suc i) name all) in grind (arith, nat_tests)

no_file_is : (o : Option Node) → not (is_file o) ≡ true → NoFile o
no_file_is None e = tt
no_file_is (Some node.Directory) e = tt
no_file_is (Some (node.File file)) e = absurd cc

no_directory_is : (o : Option Node) → not (is_directory o) ≡ true → NoDirectory o
no_directory_is None e = tt
no_directory_is (Some node.Directory) e = absurd cc
no_directory_is (Some (node.File file)) e = tt

pub not_true : (b : Bool) → not b ≡ true → b ≡ false
not_true true e = absurd cc
not_true false e = refl

stands_below : (tree : FileTree) (before behind : List Job) (path content : List ℕ)
    → IsGood tree (before ++ job.Up path content ∷ behind) path content
    → may_be_named (components path) ≡ true → StandsBelow tree
    (paths_of (parents (before ++ job.Up path content ∷ behind))) (components path)
stands_below tree before behind path content good named = record {
  some = (let some : (length name == 0) ≡ false = not_true (length name == 0) both.0 in grind (arith, nat_tests));
  short = none_long name both.1;
  deeper = parents_deeper (before ++ j ∷ behind);
  needs = λ i some lt. record {
    path = leading_slash path ++ text_of_name (take i name);
    there = parents_have before behind j (directory (leading_slash path) (take i name)) (there i some lt);
    makes = record {
      fits = mkdir_fits to_read path (leading_slash path ++ text_of_name (take i name)) (above_short path i some lt)
          (not_true (passes_length path) good.short);
      is = denotes i;
    };
  };
  files = files;
  free = no_directory_is (node_at tree name) good.no_directory;
}
  where
    j : Job
    j = job.Up path content

    name : Name
    name = components path

    both : (not (length name == 0) ≡ true) × (list_all is_component name ≡ true)
    both = and_parts (not (length name == 0)) (list_all is_component name) named

    there : (i : ℕ) → 0 < i → i < length name → Among (directory (leading_slash path) (take i name)) (parents_of j)
    there i some lt = above_has (leading_slash path) [] name i some lt

    denotes : (i : ℕ) → components (leading_slash path ++ text_of_name (take i name)) ≡ take i name
    denotes i = led_is path (take i name) (take_all_pass is_plain i name (plain_components path))

    files : (i : ℕ) → i < length name → NoFile (node_at tree (first_parts name i))
    files zero lt = at_root name
      where
        at_root : (name : Name) → NoFile (node_at tree (first_parts name 0))
        at_root [] = tt
        at_root (part ∷ parts) = tt
    files (suc i) lt = no_file_is (node_at tree (first_parts name (suc i)))
        (ap (λ (w : Name). not (is_file (node_at tree w))) (sym (denotes (suc i)))
        ∙ among_all (may_be_made tree) (parents_of j) (directory (leading_slash path) (take (suc i) name))
        good.parents_free (there (suc i) (omega arith) lt))

-- ---- the lanes make other names

kept_off : (name : Name) (ds : List Directory) (k : ℕ) (q : List ℕ) → all_keep_off name [] (map mkdir_call ds) ≡ true
    → slice_get (map mkdir_call ds) k ≡ Some (call.Mkdir q)
    → components q ≢ name
kept_off name [] k q off e = absurd cc
kept_off name (d ∷ ds) zero q off e =
    let both = and_parts (is_of_other name (joined_path [] d.path)) (all_keep_off name [] (map mkdir_call ds)) off in
    let same : d.path ≡ q = cc in
    λ is. told_apart (joined_path [] d.path) name both.0 (ap components (joined_to_none d.path ∙ same) ∙ is)
kept_off name (d ∷ ds) (suc k) q off e =
    let both = and_parts (is_of_other name (joined_path [] d.path)) (all_keep_off name [] (map mkdir_call ds)) off in
    kept_off name ds k q both.1 e

copies_make_none : (jobs : List Job) (k : ℕ) (q : List ℕ) → slice_get (flat_map calls_of jobs) k ≡ Some (call.Mkdir q)
    → ⊥
copies_make_none [] k q e = cc
copies_make_none (job.Up name content ∷ jobs) zero q e = cc
copies_make_none (job.Up name content ∷ jobs) (suc zero) q e = cc
copies_make_none (job.Up name content ∷ jobs) (suc (suc k)) q e = copies_make_none jobs k q e
copies_make_none (job.Down name bound ∷ jobs) zero q e = cc
copies_make_none (job.Down name bound ∷ jobs) (suc k) q e = copies_make_none jobs k q e

make_others : (width : ℕ) (jobs : List Job) (name : Name) (m : ℕ) → IsAlone (lanes_of width jobs) name (suc m)
    → MakeOthers (lanes_of width jobs) name
make_others width jobs name m one zero k q e = kept_off name (parents jobs) k q (one.others 0 (λ same. cc)) e
make_others width jobs name m one (suc l) k q e = absurd (elim (cases_lt l width) [
  | inl low ↦ copies_make_none (jobs_of_lane width l 0 jobs) k q
      (ap (λ (w : List Call). slice_get w k) (sym (ap lane_calls_of (lane_got width jobs l low))) ∙ e)
  | inr high ↦ (let none : slice_get (calls_in (lanes_of width jobs) (suc l)) k ≡ None =
      ap (λ (w : List Call). slice_get w k) (ap lane_calls_of (lane_beyond width jobs l high)) in let both : None
      ≡ Some (call.Mkdir q) = sym none ∙ e in cc)
])

-- ---- the law

pub some_len : (most : Option ℕ) (len : ℕ) → 1 ≤ session_len most len
some_len None len = omega arith
some_len (Some most) len = omega arith

pub good_copied : (width rounds : ℕ) (before behind : List Job) (path content : List ℕ) (options : SftpOptions)
    (extensions : Extensions) (past : List Entry)
    (config : ServerConfig) (choices : List Choice) (tree left : FileTree) → 1 ≤ width
    → are_ok (before ++ job.Up path content ∷ behind) ≡ true
    → IsRun (setting_of (lanes_of width (before ++ job.Up path content ∷ behind)) options extensions past)
    (turns_of width rounds (before ++ job.Up path content ∷ behind)) past
    → RefuseNone choices → IsWellFormed tree → ServesJournal config choices tree past left
    → is_good_job tree (before ++ job.Up path content ∷ behind) (job.Up path content) ≡ true
    → slice_get (verdicts_of width (before ++ job.Up path content ∷ behind)
    (outcomes_below past (length (lanes_of width (before ++ job.Up path content ∷ behind))))) (length before)
    ≡ Some verdict.Copied
good_copied width rounds before behind path content options extensions past config choices tree left some ok run none
    well serves is_ok =
    verdict_there width [] before behind j (outcomes_below past (length lanes))
    ∙ ap (λ (os : List Outcome). Some (verdict_of j os)) (ap (λ (os : List Outcome). take 2 (drop place os))
    (outcomes_at past (length lanes) lane (lane_under lanes lane place (call.FsWrite path content) write_is))
    ∙ two_taken (outcomes_of past lane) place outcome.Done (outcome.Bytes content) done got)
    ∙ ap (λ (v : Verdict). Some v) (copied_verdict path content)
  where
    j : Job
    j = job.Up path content

    jobs : List Job
    jobs = before ++ j ∷ behind

    name : Name
    name = components path

    lanes : List Lane
    lanes = lanes_of width jobs

    s : Setting
    s = setting_of lanes options extensions past

    turns : List Turn
    turns = turns_of width rounds jobs

    paths : List (List ℕ)
    paths = paths_of (parents jobs)

    lane : ℕ
    lane = lane_after width before

    place : ℕ
    place = place_after width before

    lt : length before % width < width
    lt = mod_below (length before) width (let lt : 0 < width = omega (arith, some) in lt)

    apart : stand_apart (map name_of jobs) ≡ true
    apart = ok_apart jobs ok

    good : IsGood tree jobs path content
    good = good_parts tree jobs path content is_ok

    served : IsServedPlainly s turns past config choices tree left
    served = record {
      plain = record { run = run; calm = turns_calm width rounds jobs; plain = lanes_plain width jobs };
      serves = serves;
      well = well;
    }

    makes : MakesFirst s turns paths
    makes = record {
      lane = 0;
      calls = mkdir_calls (parents jobs);
      later = repeat_turn rounds (round width);
      order = times_are (length (parents jobs)) mkdir_turns (repeat_turn rounds (round width))
          ∙ ap (λ (n : ℕ). times_then n (call_turns 0) (repeat_turn rounds (round width)))
          (sym (length-map (parents jobs) (λ (d : Directory). d.path)));
    }

    claimed : AreClaimed lanes (claims_of jobs)
    claimed = lanes_claimed width jobs some ok

    earlier : List Call
    earlier = flat_map calls_of (jobs_of_lane width (length before % width) 0 before)

    later : List Call
    later = flat_map calls_of (jobs_of_lane width (length before % width) (length before + 1) behind)

    -- its two calls
    write_is : call_in lanes lane place ≡ Some (call.FsWrite path content)
    write_is = ap (λ (w : List Call). slice_get w place) (lane_is width before behind j lt)
        ∙ got_behind earlier (call.FsRead path (length content + 1) ∷ later) (call.FsWrite path content)

    read_is : call_in lanes lane (suc place) ≡ Some (call.FsRead path (length content + 1))
    read_is = ap (λ (w : List Call). slice_get w (suc place)) (lane_is width before behind j lt)
        ∙ got_next earlier later (call.FsWrite path content) (call.FsRead path (length content + 1))

    w : WritesWell lanes tree (claims_of jobs) paths lane place path content
    w = record {
      is = write_is;
      short = opens_fit to_read to_replace path (not_true (passes_length path) good.short);
      small = (let le = good.small in grind (arith, nat_tests));
      room = (let le : all_bytes tree + up_bytes jobs ≤ MAX_TOTAL_LEN = (let e = good.room in grind (arith, nat_tests))
          in let same = claims_are jobs in omega (arith, le, same));
      below = stands_below tree before behind path content good (named_at before behind j (all_named jobs ok));
      others = make_others width jobs name (length before % width) (alone width before behind j lt apart);
    }

    rd : ReadsWell s lane place (suc place) path content
    rd = record {
      bound = length content + 1;
      is = read_is;
      after_it = omega arith;
      short = not_true (passes_length path) good.short;
      over = omega arith;
      some = some_len options.max_read_len (read_len_of (limits_told (offers_limits extensions) (answer past 0)));
      room = omega arith;
      last = (later_write_none width before behind path content lt apart).1;
    }

    done : outcome_at past lane place ≡ Some outcome.Done
    done = write_ends s turns past config choices tree left (claims_of jobs) paths lane place path content served makes
        claimed none w

    got : outcome_at past lane (suc place) ≡ Some (outcome.Bytes content)
    got = read_ends s turns past config choices tree left (claims_of jobs) paths lane place (suc place) path content
        served makes claimed none w rd
