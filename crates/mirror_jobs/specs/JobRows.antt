-- Worked lists of files: their lanes and turns, and the result of each file by its outcomes.
use Rattle.std.specs.Prelude.{◌≡◌, true, false, List, [], ◌∷◌, ◌++◌, codes, map, refl}
use Rattle.sftp_model.specs.declared.error.Error.TheVariants as error
use Rattle.sftp_model.specs.declared.outcome.Outcome.{Outcome}
use Rattle.sftp_model.specs.declared.outcome.Outcome.TheVariants as outcome
use Rattle.machine_model.specs.Components.{components}
use Rattle.plan_model.specs.declared.call.Call.TheVariants as call
use Rattle.session_model.specs.declared.turn.Turn.TheVariants as turn
use Rattle.mirror_jobs.specs.Jobs.{are_ok}
use Rattle.mirror_jobs.specs.JobLanes.{lanes_of, turns_of}
use Rattle.mirror_jobs.specs.Parents.{parents}
use Rattle.mirror_jobs.specs.Verdicts.{verdict_lines, verdict_of, verdicts_of}
use Rattle.mirror_jobs.specs.declared.job.Job.{Job}
use Rattle.mirror_jobs.specs.declared.job.Job.TheVariants as job
use Rattle.mirror_jobs.specs.declared.verdict.Verdict.TheVariants as verdict

-- ---- An upload and a download

abbrev pub both_ways : List Job
both_ways = job.Up (codes "a") (1 ∷ 2 ∷ 3 ∷ []) ∷ job.Down (codes "b") 9 ∷ []

pub both_ok : are_ok both_ways ≡ true
unfolding components
both_ok = refl

pub both_lanes : lanes_of 2 both_ways
    ≡ record { calls = [] }
    ∷ record { calls = call.FsWrite (codes "a") (1 ∷ 2 ∷ 3 ∷ []) ∷ call.FsRead (codes "a") 4 ∷ [] }
    ∷ record { calls = call.FsRead (codes "b") 9 ∷ [] }
    ∷ []
unfolding components
both_lanes = refl

-- In one lane the two follow one another.
pub one_lane : lanes_of 1 both_ways
    ≡ record { calls = [] }
    ∷ record {
      calls = call.FsWrite (codes "a") (1 ∷ 2 ∷ 3 ∷ []) ∷ call.FsRead (codes "a") 4 ∷ call.FsRead (codes "b") 9
          ∷ [];
    }
    ∷ []
unfolding components
one_lane = refl

abbrev pub both_outcomes : List (List Outcome)
both_outcomes = [] ∷ (outcome.Done ∷ outcome.Bytes (1 ∷ 2 ∷ 3 ∷ []) ∷ []) ∷ (outcome.Bytes (2 ∷ 3 ∷ []) ∷ []) ∷ []

pub both_verdicts : verdicts_of 2 both_ways both_outcomes ≡ verdict.Copied ∷ verdict.Got (2 ∷ 3 ∷ []) ∷ []
both_verdicts = refl

pub both_text : verdict_lines both_ways (verdicts_of 2 both_ways both_outcomes) ≡ codes "copied 61 3"
    ++ 10 ∷ codes "got 62 0203" ++ 10 ∷ []
both_text = refl

-- The results with one lane.
pub one_verdicts : verdicts_of 1 both_ways ([] ∷ (outcome.Done ∷ outcome.Bytes (1 ∷ 2 ∷ 3 ∷ []) ∷ outcome.GivenUp ∷ [])
    ∷ []) ≡ verdict.Copied ∷ verdict.GivenUp ∷ []
one_verdicts = refl

-- ---- A refusal

-- The write is refused. The read after it is refused too, for another reason.
pub refused : verdict_of (job.Up (codes "a") (1 ∷ [])) (outcome.Refused (error.SftpError 3 [] []) ∷ outcome.Refused
    (error.SftpError 2 [] []) ∷ []) ≡ verdict.Refused (error.SftpError 3 [] [])
refused = refl

pub refused_text : verdict_lines (job.Up (codes "a") (1 ∷ []) ∷ []) (verdict.Refused (error.SftpError 3 [] []) ∷ [])
    ≡ codes "refused 61 sftp 3" ++ 10 ∷ []
refused_text = refl

-- ---- The bytes read back differ from those written

pub differs : verdict_of (job.Up (codes "a") (1 ∷ [])) (outcome.Done ∷ outcome.Bytes (1 ∷ 2 ∷ []) ∷ [])
    ≡ verdict.Differs
differs = refl

-- ---- Directories

abbrev pub within_x : List Job
within_x = job.Up (codes "x/y") (1 ∷ []) ∷ []

pub within_lanes : lanes_of 1 within_x
    ≡ record { calls = call.Mkdir (codes "x") ∷ [] }
    ∷ record { calls = call.FsWrite (codes "x/y") (1 ∷ []) ∷ call.FsRead (codes "x/y") 2 ∷ [] }
    ∷ []
unfolding components
within_lanes = refl

pub within_turns : turns_of 1 1 within_x ≡ turn.Step 0 ∷ turn.Flush ∷ turn.Take ∷ turn.Step 0 ∷ turn.Step 1 ∷ turn.Flush
    ∷ turn.Take ∷ []
unfolding components
within_turns = refl

-- Each path occurs once, those of fewer components first, and then by bytes. A leading slash is kept.
pub in_order : map (λ d. d.path) (parents (job.Up (codes "/b/c/f") [] ∷ job.Up (codes "b/a/f") [] ∷ job.Up
    (codes "./b/c/g") [] ∷ job.Down (codes "e/f") 1 ∷ []))
    ≡ codes "/b" ∷ codes "b" ∷ codes "/b/c" ∷ codes "b/a" ∷ codes "b/c" ∷ []
unfolding components
in_order = refl

-- ---- Lists of files that can't be copied together

pub one_within : are_ok (job.Up (codes "a") [] ∷ job.Down (codes "/a/b") 1 ∷ []) ≡ false
unfolding components
one_within = refl

pub the_root : are_ok (job.Down (codes "/") 1 ∷ []) ≡ false
unfolding components
the_root = refl

pub no_bound : are_ok (job.Down (codes "a") 0 ∷ []) ≡ false
unfolding components
no_bound = refl
