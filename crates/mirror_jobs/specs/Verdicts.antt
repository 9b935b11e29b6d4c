-- believed
-- The results of files that were copied, by the outcomes of the calls.
use Rattle.std.specs.Prelude.{
  ℕ,
  suc,
  ◌%◌,
  Bool,
  true,
  false,
  List,
  [],
  ◌∷◌,
  ◌++◌,
  codes,
  length,
  take,
  drop,
  Option,
  Some,
  None,
  slice_index_or,
  if◌then◌else◌,
}
use Rattle.std.specs.List.{flat_map}
use Rattle.std.specs.Str.{bytes_eq}
use Rattle.sftp_model.specs.declared.error.Error.{Error}
use Rattle.sftp_model.specs.declared.outcome.Outcome.{Outcome}
use Rattle.sftp_model.specs.declared.outcome.Outcome.TheVariants as outcome
use Rattle.script_text.specs.Texts.{hex_word, line, number_text, refusal_text}
use Rattle.mirror_jobs.specs.JobLanes.{calls_of, jobs_of_lane}
use Rattle.mirror_jobs.specs.Jobs.{path_of}
use Rattle.mirror_jobs.specs.declared.job.Job.{Job}
use Rattle.mirror_jobs.specs.declared.job.Job.TheVariants as job
use Rattle.mirror_jobs.specs.declared.verdict.Verdict.{Verdict}
use Rattle.mirror_jobs.specs.declared.verdict.Verdict.TheVariants as verdict

-- ---- One file, by the outcomes of its calls

-- The first refusal.
abbrev pub first_refusal : List Outcome → Option Error
first_refusal [] = None
first_refusal (outcome.Refused why ∷ outcomes) = Some why
first_refusal (o ∷ outcomes) = first_refusal outcomes

-- True if a call reached its bound.
abbrev pub gave_up : List Outcome → Bool
gave_up [] = false
gave_up (outcome.GivenUp ∷ outcomes) = true
gave_up (o ∷ outcomes) = gave_up outcomes

-- The result if no call was refused and none reached its bound. An upload was written, and these bytes were read back.
-- A download has these bytes. Its calls have no other outcomes then.
abbrev pub verdict_read : Job → List Outcome → Verdict
verdict_read (job.Up name content) (outcome.Done ∷ outcome.Bytes bytes ∷ later) =
    if bytes_eq bytes content then verdict.Copied else verdict.Differs
verdict_read (job.Up name content) other = verdict.Differs
verdict_read (job.Down name bound) (outcome.Bytes bytes ∷ later) = verdict.Got bytes
verdict_read (job.Down name bound) other = verdict.GivenUp

abbrev pub verdict_by : Job → Option Error → Bool → List Outcome → Verdict
verdict_by j (Some why) up outcomes = verdict.Refused why
verdict_by j None true outcomes = verdict.GivenUp
verdict_by j None false outcomes = verdict_read j outcomes

-- The result of a file.
abbrev pub verdict_of : Job → List Outcome → Verdict
verdict_of j outcomes = verdict_by j (first_refusal outcomes) (gave_up outcomes) outcomes

-- ---- All files, by the outcomes of the lanes

-- The lane of the file after these.
abbrev pub lane_after : ℕ → List Job → ℕ
lane_after width before = suc (length before % width)

-- The number of its first call there.
abbrev pub place_after : ℕ → List Job → ℕ
place_after width before = length (flat_map calls_of (jobs_of_lane width (length before % width) 0 before))

-- The outcomes of its calls.
abbrev pub outcomes_after : ℕ → List Job → Job → List (List Outcome) → List Outcome
outcomes_after width before j outcomes = take (length (calls_of j))
    (drop (place_after width before) (slice_index_or outcomes (lane_after width before) []))

-- The results of the files after these.
abbrev pub verdicts_after : ℕ → List Job → List Job → List (List Outcome) → List Verdict
verdicts_after width before [] outcomes = []
verdicts_after width before (j ∷ jobs) outcomes =
    verdict_of j (outcomes_after width before j outcomes) ∷ verdicts_after width (before ++ j ∷ []) jobs outcomes

-- The result of each file.
abbrev pub verdicts_of : ℕ → List Job → List (List Outcome) → List Verdict
verdicts_of width jobs outcomes = verdicts_after width [] jobs outcomes

-- ---- Text

-- The words of a file's result. Its path is as it was given.
abbrev pub verdict_text : Job → Verdict → List ℕ
verdict_text j (verdict.Refused why) = codes "refused " ++ hex_word (path_of j) ++ refusal_text why
verdict_text j verdict.GivenUp = codes "givenup " ++ hex_word (path_of j)
verdict_text j verdict.Differs = codes "differs " ++ hex_word (path_of j)
verdict_text (job.Up name content) verdict.Copied =
    codes "copied " ++ hex_word name ++ codes " " ++ number_text (length content)
verdict_text (job.Down name bound) verdict.Copied = codes "copied " ++ hex_word name
verdict_text j (verdict.Got bytes) = codes "got " ++ hex_word (path_of j) ++ codes " " ++ hex_word bytes

-- A line for each file.
abbrev pub verdict_lines : List Job → List Verdict → List ℕ
verdict_lines [] verdicts = []
verdict_lines (j ∷ jobs) [] = []
verdict_lines (j ∷ jobs) (v ∷ verdicts) = line (verdict_text j v) ++ verdict_lines jobs verdicts
