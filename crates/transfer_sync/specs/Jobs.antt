-- believed
-- The jobs that carry out a plan.
use Rattle.std.specs.Prelude.{Bool, true, false, not, ℕ, List, [], ◌∷◌, ◌++◌, reverse, Option, Some, None, if◌then◌else◌}
use Rattle.sftp_model.specs.Frames.{no_attributes}
use Rattle.sftp_model.specs.declared.file_attrs.FileAttrs.{FileAttrs}
use Rattle.transfer_plan.specs.Entries.{root_found}
use Rattle.transfer_plan.specs.Names.{path_in}
use Rattle.transfer_plan.specs.declared.found.Found.{Found}
use Rattle.transfer_plan.specs.declared.task.Task.{Task}
use Rattle.transfer_plan.specs.declared.task.Task.TheVariants as task
use Rattle.transfer_sync.specs.Entries.{entry_of_path}
use Rattle.transfer_sync.specs.declared.action.Action.{Action}
use Rattle.transfer_sync.specs.declared.action.Step.{Step}
use Rattle.transfer_sync.specs.declared.action.Step.TheVariants.{
  RemoveFile,
  RemoveDirectory,
  MakeDirectory,
  CopyFile,
  MakeLink,
  SetAttributes,
}
use Rattle.transfer_sync.specs.declared.entry.Entry.{Entry}
use Rattle.transfer_sync.specs.declared.jobs.Phase.{Phase}
use Rattle.transfer_sync.specs.declared.jobs.Phase.TheVariants.{Main, Touch}
use Rattle.transfer_sync.specs.declared.jobs.Roots.{Roots}

-- True if the step sets permissions and times.
abbrev pub is_touch : Step → Bool
is_touch RemoveFile = false
is_touch RemoveDirectory = false
is_touch MakeDirectory = false
is_touch CopyFile = false
is_touch (MakeLink text) = false
is_touch SetAttributes = true

-- True if the step is done in the phase: permissions and times of entries that exist are set after everything else.
abbrev pub is_in_phase : Phase → Step → Bool
is_in_phase Main step = not (is_touch step)
is_in_phase Touch step = is_touch step

-- The task of the job for a step.
abbrev pub task_of : Step → Task
task_of RemoveFile = task.RemoveFile
task_of RemoveDirectory = task.RemoveFolder
task_of MakeDirectory = task.MakeFolder
task_of CopyFile = task.CopyFile
task_of (MakeLink text) = task.CopyLink
task_of SetAttributes = task.SetAttributes

-- The depth of an entry of the source; 1 if the source has none.
abbrev pub depth_of : Option Entry → ℕ
depth_of None = 1
depth_of (Some e) = e.depth

-- The file attributes of an entry of the source; none is known if the source has no entry.
abbrev pub attributes_of : Option Entry → FileAttrs
attributes_of None = no_attributes
attributes_of (Some e) = e.attrs

-- The job for an action, by its path in the source and its path in the target. It has the file attributes that the walk
-- of the source found.
abbrev pub job_of : Roots → List Entry → Action → Found
job_of roots source a =
    record {
      task = task_of a.step;
      depth = depth_of (entry_of_path source a.path);
      source = path_in roots.from a.path;
      target = path_in roots.to a.path;
      attrs = attributes_of (entry_of_path source a.path);
    }

-- The job for an action that is done in the phase, and none for others.
abbrev pub job_where : Roots → List Entry → Phase → Action → List Found
job_where roots source phase a = if is_in_phase phase a.step then job_of roots source a ∷ [] else []

-- The jobs of the phase, in the order of the actions.
abbrev pub jobs_of : Roots → List Entry → Phase → List Action → List Found
jobs_of roots source phase [] = []
jobs_of roots source phase (a ∷ later) = job_where roots source phase a ++ jobs_of roots source phase later

-- The directory of the target is created before everything else, if nothing has its path.
abbrev pub first_job : Roots → List Found
first_job roots = if roots.is_new then root_found roots.from roots.to roots.attrs ∷ [] else []

-- The jobs of the main phase.
abbrev pub main_jobs : Roots → List Entry → List Action → List Found
main_jobs roots source actions = first_job roots ++ jobs_of roots source Main actions

-- The jobs that set permissions and times, the last action's first.
abbrev pub touch_jobs : Roots → List Entry → List Action → List Found
touch_jobs roots source actions = reverse (jobs_of roots source Touch actions)
