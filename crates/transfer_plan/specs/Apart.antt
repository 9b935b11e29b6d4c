-- believed, except has_path, task_among, has_twins, has_part, FilesAreApart
-- The files that are copied to paths of their own.
use Rattle.std.specs.Prelude.{◌≡◌, ◌&&◌, ◌||◌, ℕ, Bool, false, not, List, [], ◌∷◌, ◌++◌, if◌then◌else◌}
use Rattle.std.specs.List.{list_any}
use Rattle.std.specs.Str.{bytes_eq}
use Rattle.transfer_plan.specs.Jobs.{is_file}
use Rattle.transfer_plan.specs.Cuts.{part_of}
use Rattle.transfer_plan.specs.declared.found.Found.{Found}
use Rattle.transfer_plan.specs.declared.task.Task.{Task}
use Rattle.transfer_plan.specs.declared.task.Task.TheVariants as task

abbrev pub has_path : List (List ℕ) → List ℕ → Bool
has_path paths path = list_any (bytes_eq path) paths

-- True if one of these files has the path, which is a function of the file's target.
abbrev pub is_among : (List ℕ → List ℕ) → List Found → List ℕ → Bool
is_among path_of jobs path = list_any (λ f. is_file f.task && bytes_eq path (path_of f.target)) jobs

-- True if one of these files is copied to the path.
abbrev pub is_target : List Found → List ℕ → Bool
is_target jobs path = is_among (λ target. target) jobs path

-- True if one of these files has its part at the path in this run. It is written there until all its bytes are there.
abbrev pub is_part : List Found → List ℕ → List ℕ → Bool
is_part jobs run path = is_among (λ target. part_of target run) jobs path

-- The task for a job, by the paths of all parts, the targets of the files before it, and the paths of their parts. A
-- file is refused if its target is one of the former two, or its part is one of the last.
abbrev pub task_among : List (List ℕ) → List (List ℕ) → List (List ℕ) → List ℕ → Found → Task
task_among parts taken started run found =
    if not (is_file found.task) then found.task
    else if has_path parts found.target then task.RefusePart
    else if has_path taken found.target then task.RefuseTwice
    else if has_path started (part_of found.target run) then task.RefusePart
    else found.task

-- The task for one of all jobs, which comes after the jobs of `before`. A file is refused if its path is the part of a
-- file, or the target of one before it, or if its part has the path of the part of one before it.
abbrev pub task_apart : List Found → List ℕ → List Found → Found → Task
task_apart all run before found =
    if not (is_file found.task) then found.task
    else if is_part all run found.target then task.RefusePart
    else if is_target before found.target then task.RefuseTwice
    else if is_part before run (part_of found.target run) then task.RefusePart
    else found.task

abbrev pub found_apart : List Found → List ℕ → List Found → Found → Found
found_apart all run before found = record found { task = task_apart all run before found }

-- The jobs that come after these.
abbrev pub apart_behind : List Found → List ℕ → List Found → List Found → List Found
apart_behind all run before [] = []
apart_behind all run before (found ∷ later) =
    found_apart all run before found ∷ apart_behind all run (before ++ found ∷ []) later

-- All jobs. Some files among them are refused; everything else is unchanged.
abbrev pub kept_apart : List Found → List ℕ → List Found
kept_apart jobs run = apart_behind jobs run [] jobs

-- True if two files have one path.
abbrev pub has_twins : (List ℕ → List ℕ) → List Found → Bool
has_twins path_of [] = false
has_twins path_of (found ∷ later) =
    (is_file found.task && is_among path_of later (path_of found.target)) || has_twins path_of later

-- True if a file is copied to the path of a part.
abbrev pub has_part : List Found → List ℕ → Bool
has_part jobs run = list_any (λ f. is_file f.task && is_part jobs run f.target) jobs

-- In this run each file is copied to a path of its own, and has its part at a path of its own. No file is copied to the
-- path of a part.
pub record FilesAreApart (jobs : List Found) (run : List ℕ) : Type 0 where
  pub targets : has_twins (λ target. target) jobs ≡ false
  pub own_parts : has_twins (λ target. part_of target run) jobs ≡ false
  pub parts : has_part jobs run ≡ false
