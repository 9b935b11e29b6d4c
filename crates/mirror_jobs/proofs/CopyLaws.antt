-- What is said of files that were copied holds of them.
use Rattle.std.proofs.Common.{
  ◌≡◌,
  ◌<◌,
  ◌≤◌,
  ◌+◌,
  ◌%◌,
  ℕ,
  suc,
  Bool,
  true,
  false,
  List,
  [],
  ◌∷◌,
  ◌++◌,
  length,
  take,
  drop,
  Option,
  Some,
  None,
  refl,
  ap,
  sym,
  ◌∙◌,
  subst,
  arith,
}
use Rattle.std.specs.Prelude.{◌&&◌, map, slice_get, slice_index_or}
use Rattle.std.specs.List.{flat_map, list_all}
use Rattle.std.proofs.lemmas.Bool.{and_parts}
use Rattle.std.proofs.lemmas.List.{length-append, take_all}
use Rattle.std.proofs.lemmas.Nat.{mod_below}
use Rattle.sftp_model.specs.declared.config.Choice.{Choice}
use Rattle.sftp_model.specs.declared.config.ServerConfig.{ServerConfig}
use Rattle.sftp_model.specs.declared.error.Error.{Error}
use Rattle.sftp_model.specs.declared.outcome.Outcome.{Outcome}
use Rattle.sftp_model.specs.declared.outcome.Outcome.TheVariants as outcome
use Rattle.machine_model.specs.Components.{components}
use Rattle.machine_model.specs.FileTree.{FileTree}
use Rattle.machine_model.specs.FirstTree.{may_be_named, stand_apart}
use Rattle.plan_model.specs.declared.call.Call.{Call}
use Rattle.plan_model.specs.declared.call.Call.TheVariants as call
use Rattle.session_model.specs.declared.entry.Entry.{Entry}
use Rattle.session_model.specs.Calls.{Setting}
use Rattle.run_laws.specs.Steps.{FeignNoEnd, HasBytes}
use Rattle.run_laws.specs.KeepsFiles.{KeepsFiles}
use Rattle.run_laws.specs.NameCalls.{none_writes}
use Rattle.run_laws.specs.ReadsBack.{calls_in}
use Rattle.mirror_jobs.specs.declared.job.Job.{Job}
use Rattle.mirror_jobs.specs.declared.job.Job.TheVariants as job
use Rattle.mirror_jobs.specs.declared.verdict.Verdict.{Verdict}
use Rattle.mirror_jobs.specs.declared.verdict.Verdict.TheVariants as verdict
use Rattle.mirror_jobs.specs.Jobs.{are_ok, is_bounded, name_of}
use Rattle.mirror_jobs.specs.JobLanes.{calls_of, jobs_of_lane, lanes_of}
use Rattle.mirror_jobs.specs.Verdicts.{first_refusal, gave_up, lane_after, outcomes_after, place_after, verdict_by, verdict_of, verdict_read, verdicts_of}
use Rattle.mirror_jobs.specs.CopiesFiles.{CopiesFiles}
use Rattle.mirror_jobs.proofs.AloneLaws.{alone, lane_calls, none_before, none_behind}
use Rattle.mirror_jobs.proofs.CutLaws.{IsCutAt, cut_at, first_taken, got_behind, take_before, verdict_at}
use Rattle.mirror_jobs.proofs.DealtLaws.{calls_here}

-- ---- what a verdict tells of the outcomes

abbrev is_copied : Verdict → Bool
is_copied verdict.Copied = true
is_copied other = false

abbrev bytes_got : Verdict → Option (List ℕ)
bytes_got (verdict.Got bytes) = Some bytes
bytes_got other = None

-- the write of a file that is copied ended well
record WroteFirst (outcomes : List Outcome) : Type 0 where
  rest : List Outcome
  is : outcomes ≡ outcome.Done ∷ rest

copied_wrote : (name content : List ℕ) (outcomes : List Outcome) → verdict.Copied
    ≡ verdict_of (job.Up name content) outcomes → WroteFirst outcomes
copied_wrote name content outcomes e = by_refusal (first_refusal outcomes) (gave_up outcomes) e
  where
    by_read : (os : List Outcome) → verdict.Copied ≡ verdict_read (job.Up name content) os → WroteFirst os
    by_read (outcome.Done ∷ rest) e = record { rest = rest; is = refl }
    by_read [] e = absurd (let both : true ≡ false = ap is_copied e in cc)
    by_read (o ∷ rest) e = absurd (let both : true ≡ false = ap is_copied e in cc)

    by_refusal : (refusal : Option Error) (up : Bool) → verdict.Copied
        ≡ verdict_by (job.Up name content) refusal up outcomes → WroteFirst outcomes
    by_refusal (Some why) up e = absurd (let both : true ≡ false = ap is_copied e in cc)
    by_refusal None true e = absurd (let both : true ≡ false = ap is_copied e in cc)
    by_refusal None false e = by_read outcomes e

-- the read of a file that was got gave the bytes
record ReadFirst (bytes : List ℕ) (outcomes : List Outcome) : Type 0 where
  rest : List Outcome
  is : outcomes ≡ outcome.Bytes bytes ∷ rest

abbrev inside : List ℕ → Option (List ℕ) → List ℕ
inside other None = other
inside other (Some bytes) = bytes

got_read : (name : List ℕ) (bound : ℕ) (bytes : List ℕ) (outcomes : List Outcome) → verdict.Got bytes
    ≡ verdict_of (job.Down name bound) outcomes → ReadFirst bytes outcomes
got_read name bound bytes outcomes e = by_refusal (first_refusal outcomes) (gave_up outcomes) e
  where
    by_read : (os : List Outcome) → verdict.Got bytes ≡ verdict_read (job.Down name bound) os → ReadFirst bytes os
    by_read (outcome.Bytes got ∷ rest) e = record {
      rest = rest;
      is =
          ap (λ (w : List ℕ). let l : List Outcome = outcome.Bytes w ∷ rest in l)
          (sym (ap (λ (v : Verdict). inside bytes (bytes_got v)) e));
    }
    by_read [] e = absurd (let both : Some bytes ≡ None = ap bytes_got e in cc)
    by_read (o ∷ rest) e = absurd (let both : Some bytes ≡ None = ap bytes_got e in cc)

    by_refusal : (refusal : Option Error) (up : Bool) → verdict.Got bytes
        ≡ verdict_by (job.Down name bound) refusal up outcomes → ReadFirst bytes outcomes
    by_refusal (Some why) up e = absurd (let both : Some bytes ≡ None = ap bytes_got e in cc)
    by_refusal None true e = absurd (let both : Some bytes ≡ None = ap bytes_got e in cc)
    by_refusal None false e = by_read outcomes e

-- ---- one file

-- what is looked at of a list of files that can be copied
pub ok_apart : (jobs : List Job) → are_ok jobs ≡ true → stand_apart (map name_of jobs) ≡ true
ok_apart jobs ok = (and_parts (list_all is_bounded jobs && list_all may_be_named (map name_of jobs))
    (stand_apart (map name_of jobs)) ok).1

-- the calls of its lane, as they stand
pub lane_is : (width : ℕ) (before behind : List Job) (j : Job) → length before % width < width
    → calls_in (lanes_of width (before ++ j ∷ behind)) (suc (length before % width))
    ≡ flat_map calls_of (jobs_of_lane width (length before % width) 0 before)
    ++ (calls_of j ++ flat_map calls_of (jobs_of_lane width (length before % width) (length before + 1) behind))
lane_is width before behind j lt = lane_calls width before behind j lt ∙ calls_here width before behind j

copied_left : (width : ℕ) (before behind : List Job) (name content : List ℕ) (config : ServerConfig)
    (choices : List Choice) (tree left : FileTree) (s : Setting) (past : List Entry) (outcomes : List (List Outcome))
    → length before % width < width → stand_apart (map name_of (before ++ job.Up name content ∷ behind)) ≡ true
    → KeepsFiles (lanes_of width (before ++ job.Up name content ∷ behind)) config choices tree s past left outcomes
    → verdict.Copied ≡ verdict_of (job.Up name content) (outcomes_after width before (job.Up name content) outcomes)
    → HasBytes left (components name) content
copied_left width before behind name content config choices tree left s past outcomes lt apart keeps e =
    keeps.leaves.written (components name) lane place content (alone width before behind j lt apart)
    (record {
      path = name;
      is = ap (λ (w : List Call). slice_get w place) calls ∙ got_behind earlier
          (call.FsRead name (length content + 1) ∷ later) (call.FsWrite name content);
      denotes = refl;
      ends = first_taken (length (calls_of j)) place (slice_index_or outcomes lane []) outcome.Done wrote.rest wrote.is;
      earlier = (let n : length (calls_in (lanes_of width (before ++ j ∷ behind)) lane)
          ≡ length (earlier ++ (calls_of j ++ later)) = ap length calls in
          let a = length-append earlier (calls_of j ++ later) in omega (arith, n, a));
      last = none_later;
    })
  where
    j : Job
    j = job.Up name content

    lane : ℕ
    lane = lane_after width before

    place : ℕ
    place = place_after width before

    earlier : List Call
    earlier = flat_map calls_of (jobs_of_lane width (length before % width) 0 before)

    later : List Call
    later = flat_map calls_of (jobs_of_lane width (length before % width) (length before + 1) behind)

    calls : calls_in (lanes_of width (before ++ j ∷ behind)) lane ≡ earlier ++ (calls_of j ++ later)
    calls = lane_is width before behind j lt

    wrote : WroteFirst (outcomes_after width before j outcomes)
    wrote = copied_wrote name content (outcomes_after width before j outcomes) e

    all : List Call
    all = calls_in (lanes_of width (before ++ j ∷ behind)) lane

    behind_it : drop (suc place) (earlier ++ (calls_of j ++ later)) ≡ call.FsRead name (length content + 1) ∷ later
    behind_it = dropped earlier
      where
        dropped : (xs : List Call) → drop (suc (length xs)) (xs ++ (calls_of j ++ later))
            ≡ call.FsRead name (length content + 1) ∷ later
        dropped [] = refl
        dropped (x ∷ xs) = dropped xs

    none_later : none_writes (components name) (drop (suc place) (take (length all) all)) ≡ true
    none_later =
        subst (λ (w : List Call). none_writes (components name) w ≡ true)
        (sym (ap (drop (suc place)) (take_all (length all) all (omega arith) ∙ calls) ∙ behind_it))
        (none_behind width before behind j apart)

got_at_first : (width : ℕ) (before behind : List Job) (name : List ℕ) (bound : ℕ) (bytes : List ℕ)
    (config : ServerConfig) (choices : List Choice) (tree left : FileTree) (s : Setting) (past : List Entry)
    (outcomes : List (List Outcome))
    → length before % width < width → stand_apart (map name_of (before ++ job.Down name bound ∷ behind)) ≡ true
    → FeignNoEnd choices
    → KeepsFiles (lanes_of width (before ++ job.Down name bound ∷ behind)) config choices tree s past left outcomes
    → verdict.Got bytes ≡ verdict_of (job.Down name bound) (outcomes_after width before (job.Down name bound) outcomes)
    → HasBytes tree (components name) bytes
got_at_first width before behind name bound bytes config choices tree left s past outcomes lt apart honest keeps e =
    keeps.reads_back.got_there (components name) lane place bytes honest (alone width before behind j lt apart)
    (subst (λ (w : List Call). none_writes (components name) w ≡ true)
    (sym (ap (take place) calls ∙ take_before earlier (calls_of j ++ later)))
    (none_before width before behind j apart))
    (record {
      path = name;
      bound = bound;
      is = ap (λ (w : List Call). slice_get w place) calls ∙ got_behind earlier later (call.FsRead name bound);
      denotes = refl;
      ends = first_taken (length (calls_of j)) place (slice_index_or outcomes lane []) (outcome.Bytes bytes) read.rest
          read.is;
    })
  where
    j : Job
    j = job.Down name bound

    lane : ℕ
    lane = lane_after width before

    place : ℕ
    place = place_after width before

    earlier : List Call
    earlier = flat_map calls_of (jobs_of_lane width (length before % width) 0 before)

    later : List Call
    later = flat_map calls_of (jobs_of_lane width (length before % width) (length before + 1) behind)

    calls : calls_in (lanes_of width (before ++ j ∷ behind)) lane ≡ earlier ++ (calls_of j ++ later)
    calls = lane_is width before behind j lt

    read : ReadFirst bytes (outcomes_after width before j outcomes)
    read = got_read name bound bytes (outcomes_after width before j outcomes) e

-- ---- all files

-- a file and what is said of it
record IsSaid (width : ℕ) (jobs : List Job) (j : Job) (v : Verdict) (outcomes : List (List Outcome)) : Type 0 where
  before : List Job
  behind : List Job
  is : jobs ≡ before ++ j ∷ behind
  said : v ≡ verdict_of j (outcomes_after width before j outcomes)

said_at : (width : ℕ) (jobs : List Job) (i : ℕ) (j : Job) (v : Verdict) (outcomes : List (List Outcome))
    → slice_get jobs i ≡ Some j → slice_get (verdicts_of width jobs outcomes) i ≡ Some v
    → IsSaid width jobs j v outcomes
said_at width jobs i j v outcomes there said =
    let c : IsCutAt jobs i j = cut_at jobs i j there in
    record {
      before = c.before;
      behind = c.behind;
      is = c.is;
      said = verdict_at width [] c.before c.behind j outcomes v
          (ap (λ (n : ℕ). slice_get (verdicts_of width (c.before ++ j ∷ c.behind) outcomes) n) c.at
          ∙ (ap (λ (w : List Job). slice_get (verdicts_of width w outcomes) i) (sym c.is) ∙ said));
    }

pub copies_files : (width : ℕ) (jobs : List Job) (config : ServerConfig) (choices : List Choice) (tree left : FileTree)
    (s : Setting) (past : List Entry) (outcomes : List (List Outcome)) → 1 ≤ width → are_ok jobs ≡ true
    → KeepsFiles (lanes_of width jobs) config choices tree s past left outcomes
    → CopiesFiles jobs choices tree left (verdicts_of width jobs outcomes)
copies_files width jobs config choices tree left s past outcomes some ok keeps =
    record {
      copied = λ i name content there said.
          (let d = said_at width jobs i (job.Up name content) verdict.Copied outcomes there said in
          copied_left width d.before d.behind name content config choices tree left s past outcomes
          (below (length d.before)) (subst (λ (w : List Job). stand_apart (map name_of w) ≡ true) d.is
          (ok_apart jobs ok))
          (subst (λ (w : List Job). KeepsFiles (lanes_of width w) config choices tree s past left outcomes) d.is keeps)
          d.said);
      got = λ i name bound bytes honest there said.
          (let d = said_at width jobs i (job.Down name bound) (verdict.Got bytes) outcomes there said in
          got_at_first width d.before d.behind name bound bytes config choices tree left s past outcomes
          (below (length d.before)) (subst (λ (w : List Job). stand_apart (map name_of w) ≡ true) d.is
          (ok_apart jobs ok)) honest
          (subst (λ (w : List Job). KeepsFiles (lanes_of width w) config choices tree s past left outcomes) d.is keeps)
          d.said);
    }
  where
    below : (n : ℕ) → n % width < width
    below n = mod_below n width (let lt : 0 < width = omega (arith, some) in lt)
