-- believed
-- The lanes that copy files, and the turns under which they run.
use Rattle.std.specs.Prelude.{
  ℕ,
  zero,
  suc,
  ◌+◌,
  ◌%◌,
  ◌==◌,
  List,
  [],
  ◌∷◌,
  ◌++◌,
  length,
  map,
  replicate,
  if◌then◌else◌,
}
use Rattle.std.specs.List.{flat_map}
use Rattle.plan_model.specs.declared.call.Call.{Call}
use Rattle.plan_model.specs.declared.call.Call.TheVariants as call
use Rattle.plan_model.specs.declared.call.Lane.{Lane}
use Rattle.session_model.specs.declared.turn.Turn.{Turn}
use Rattle.session_model.specs.declared.turn.Turn.TheVariants as turn
use Rattle.mirror_jobs.specs.Parents.{parents}
use Rattle.mirror_jobs.specs.declared.directory.Directory.{Directory}
use Rattle.mirror_jobs.specs.declared.job.Job.{Job}
use Rattle.mirror_jobs.specs.declared.job.Job.TheVariants as job

-- ---- Calls

-- The calls that copy a file. An upload is written and then read back, with a bound that its bytes don't reach.
abbrev pub calls_of : Job → List Call
calls_of (job.Up name content) = call.FsWrite name content ∷ call.FsRead name (length content + 1) ∷ []
calls_of (job.Down name bound) = call.FsRead name bound ∷ []

-- The call that creates a directory.
abbrev pub mkdir_call : Directory → Call
mkdir_call d = call.Mkdir d.path

-- ---- Lanes

-- The jobs among these that lane k of `width` lanes has, if the first of them has number n. They are dealt out in turn.
abbrev pub jobs_of_lane : ℕ → ℕ → ℕ → List Job → List Job
jobs_of_lane width k n [] = []
jobs_of_lane width k n (j ∷ jobs) = if n % width == k then j ∷ jobs_of_lane width k (n + 1) jobs else
    jobs_of_lane width k (n + 1) jobs

-- The lane that creates directories.
abbrev pub mkdir_lane : List Job → Lane
mkdir_lane jobs = record { calls = map mkdir_call (parents jobs) }

-- Lane k of those that copy.
abbrev pub copy_lane : ℕ → List Job → ℕ → Lane
copy_lane width jobs k = record { calls = flat_map calls_of (jobs_of_lane width k 0 jobs) }

-- n of these lanes from lane k on.
abbrev pub copy_lanes : ℕ → List Job → ℕ → ℕ → List Lane
copy_lanes width jobs k zero = []
copy_lanes width jobs k (suc n) = copy_lane width jobs k ∷ copy_lanes width jobs (k + 1) n

-- A lane that creates directories, and `width` lanes that copy.
abbrev pub lanes_of : ℕ → List Job → List Lane
lanes_of width jobs = mkdir_lane jobs ∷ copy_lanes width jobs 0 width

-- ---- Turns

-- A directory is asked for, and its reply is taken.
abbrev pub mkdir_turns : List Turn
mkdir_turns = turn.Step 0 ∷ turn.Flush ∷ turn.Take ∷ turn.Step 0 ∷ []

-- A step of each of n lanes from this one on.
abbrev pub steps_from : ℕ → ℕ → List Turn
steps_from lane zero = []
steps_from lane (suc n) = turn.Step lane ∷ steps_from (lane + 1) n

-- A step of each lane that copies, a flush, and the same number of replies.
abbrev pub round : ℕ → List Turn
round width = steps_from 1 width ++ turn.Flush ∷ replicate width turn.Take

-- The turns, repeated n times.
abbrev pub repeat_turn : ℕ → List Turn → List Turn
repeat_turn zero turns = []
repeat_turn (suc n) turns = turns ++ repeat_turn n turns

-- The directories are created one by one, and then files are copied in this many rounds.
abbrev pub turns_for : ℕ → ℕ → ℕ → List Turn
turns_for directories width rounds = repeat_turn directories mkdir_turns ++ repeat_turn rounds (round width)

-- The turns under which these files are copied.
abbrev pub turns_of : ℕ → ℕ → List Job → List Turn
turns_of width rounds jobs = turns_for (length (parents jobs)) width rounds
