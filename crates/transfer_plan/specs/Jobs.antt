-- believed, except WorksOne, MayWorkOne, all_work, AreAllDone
-- The jobs of a transfer, one after another.
use Rattle.std.specs.Prelude.{
  ◌≡◌,
  ◌==◌,
  ◌&&◌,
  ◌||◌,
  ℕ,
  Bool,
  true,
  false,
  not,
  List,
  [],
  ◌∷◌,
  ◌++◌,
  reverse,
  if◌then◌else◌,
}
use Rattle.std.specs.List.{list_any, starts_with}
use Rattle.transfer_plan.specs.Names.{path_in}
use Rattle.transfer_plan.specs.declared.carry.TaskKind.{TaskKind}
use Rattle.transfer_plan.specs.declared.carry.TaskKind.TheVariants as kind
use Rattle.transfer_plan.specs.declared.hand.JobVerdict.{JobVerdict}
use Rattle.transfer_plan.specs.declared.hand.JobVerdict.TheVariants.{Done, Stop}
use Rattle.transfer_plan.specs.declared.found.Found.{Found}
use Rattle.transfer_plan.specs.declared.task.Task.{Task}
use Rattle.transfer_plan.specs.declared.task.Task.TheVariants as task

-- An event of a transfer. Files were copied, many at once. A job was done or not; for a file, the result of its copy
-- was reported. A directory was given its permissions and times, or not. Or a job was skipped.
pub data JobAct : Type 0 where
  Copied : List Found → JobAct
  Worked : Found → JobVerdict → JobAct
  Kept : Found → JobVerdict → JobAct
  Skipped : Found → JobAct

-- The history after a list of events, one after another.
abbrev pub all_worked : {H : Type 0} → (JobAct → H → H) → List JobAct → H → H
all_worked done [] history = history
all_worked done (act ∷ acts) history = all_worked done acts (done act history)

-- ---- The tally

-- A flag that is true if all jobs were done; a flag that is true if no other job can be done; and the directories that
-- were not created, each with a slash at its end.
pub record TallyValue : Type 0 where
  pub all_done : Bool
  pub stopped : Bool
  pub unmade : List (List ℕ)

-- The tally of no job.
abbrev pub no_job : TallyValue
no_job = record { all_done = true; stopped = false; unmade = [] }

abbrev pub is_done : JobVerdict → Bool
is_done Done = true
is_done other = false

abbrev pub is_stop : JobVerdict → Bool
is_stop Stop = true
is_stop other = false

abbrev pub is_folder : Task → Bool
is_folder task.MakeFolder = true
is_folder other = false

abbrev pub is_file : Task → Bool
is_file task.CopyFile = true
is_file other = false

abbrev pub is_link : Task → Bool
is_link task.CopyLink = true
is_link other = false

-- The directories that were not created, after the verdict on another job.
abbrev pub with_unmade : Found → JobVerdict → List (List ℕ) → List (List ℕ)
with_unmade found verdict unmade =
    if is_folder found.task && not (is_done verdict) then unmade ++ path_in found.target [] ∷ [] else unmade

abbrev pub after_job : JobAct → TallyValue → TallyValue
after_job (Copied files) t = t
after_job (Worked found verdict) t =
    record {
      all_done = t.all_done && is_done verdict;
      stopped = t.stopped || is_stop verdict;
      unmade = with_unmade found verdict t.unmade;
    }
after_job (Kept found verdict) t =
    record {
      all_done = t.all_done && is_done verdict;
      stopped = t.stopped || is_stop verdict;
      unmade = t.unmade;
    }
after_job (Skipped found) t = record t { all_done = false }

-- ---- The next job

-- True if it lies in a directory that was not created.
abbrev pub is_skipped : TallyValue → Found → Bool
is_skipped t found = list_any (λ folder. starts_with ◌==◌ found.target folder) t.unmade

-- True if the directory was not created, or lies in one that was not.
abbrev pub is_unmade : TallyValue → Found → Bool
is_unmade t found = list_any (λ folder. starts_with ◌==◌ (path_in found.target []) folder) t.unmade

-- True if the task is of the kind. Files and symbolic links have a kind of their own each. Everything else is of the
-- kind in which directories are created.
abbrev pub is_of : TaskKind → Task → Bool
is_of kind.Folders task = not (is_file task) && not (is_link task)
is_of kind.Files task = is_file task
is_of kind.Links task = is_link task

-- True if the job is of the kind and the transfer has not stopped.
abbrev pub of_kind : TaskKind → TallyValue → Found → Bool
of_kind kind t found = is_of kind found.task && not t.stopped

-- The files that lie in no directory that was not created.
abbrev pub files_in : TallyValue → List Found → List Found
files_in t [] = []
files_in t (found ∷ later) =
    if is_file found.task && not (is_skipped t found) then found ∷ files_in t later else files_in t later

-- True if it is a directory that was created, so it is given its permissions and times.
abbrev pub to_keep : TallyValue → Found → Bool
to_keep t found = is_folder found.task && not t.stopped && not (is_unmade t found)

-- The job is skipped exactly if it lies in a directory that was not created.
abbrev pub IsJob : TallyValue → Found → JobAct → Type 0
IsJob t found (Copied files) = ⊥
IsJob t found (Worked other verdict) = (other ≡ found) × (is_skipped t found ≡ false)
IsJob t found (Kept other verdict) = ⊥
IsJob t found (Skipped other) = (other ≡ found) × (is_skipped t found ≡ true)

-- A directory is given its permissions and times, or not.
abbrev pub IsKeep : TallyValue → Found → JobAct → Type 0
IsKeep t found (Copied files) = ⊥
IsKeep t found (Worked other verdict) = ⊥
IsKeep t found (Kept other verdict) = other ≡ found
IsKeep t found (Skipped other) = ⊥

-- The first of two facts if the test is true, otherwise the second.
abbrev pub FactBy : Bool → Type 0 → Type 0 → Type 0
FactBy true A B = A
FactBy false A B = B

-- The events are one for each of these jobs that is of the kind, in their order.
abbrev pub AreActs : (TallyValue → Found → Bool) → (TallyValue → Found → JobAct → Type 0) → List Found → TallyValue
    → List JobAct → TallyValue → Type 0
AreActs kind Is [] t acts new = (acts ≡ []) × (new ≡ t)
AreActs kind Is (found ∷ later) t acts new = FactBy (kind t found)
    ((act : JobAct) × (rest : List JobAct) × (acts ≡ act ∷ rest) × Is t found act
    × AreActs kind Is later (after_job act t) rest new)
    (AreActs kind Is later t acts new)

-- One job was done or skipped, and recorded in the tally.
abbrev pub WorksOne : {H : Type 0} → (JobAct → H → H) → (TallyValue → Found → JobAct → Type 0) → Found → TallyValue
    → TallyValue → H → H → Type 0
WorksOne done Is found old new before after = (act : JobAct) × Is old found act × (new ≡ after_job act old)
    × (after ≡ done act before)

-- The job was done or skipped if it is of the kind; otherwise nothing was done.
abbrev pub MayWorkOne : {H : Type 0} → (JobAct → H → H) → (TallyValue → Found → Bool)
    → (TallyValue → Found → JobAct → Type 0) → Found → TallyValue → TallyValue → H → H → Type 0
MayWorkOne done kind Is found old new before after = FactBy (kind old found)
    (WorksOne done Is found old new before after) ((new ≡ old) × (after ≡ before))

-- The jobs of a kind were done or skipped, and nothing else.
abbrev pub HasActed : {H : Type 0} → (JobAct → H → H) → (TallyValue → Found → Bool)
    → (TallyValue → Found → JobAct → Type 0) → List Found → TallyValue → TallyValue → H → H → Type 0
HasActed done kind Is jobs old new before after = (acts : List JobAct) × AreActs kind Is jobs old acts new
    × (after ≡ all_worked done acts before)

-- The files that lie in no directory that was not created were copied. Nothing was done if the transfer has stopped.
abbrev pub HasCopied : {H : Type 0} → (JobAct → H → H) → List Found → TallyValue → H → H → Type 0
HasCopied done jobs t before after =
    FactBy t.stopped (after ≡ before) (after ≡ done (Copied (files_in t jobs)) before)

-- Directories are given their permissions and times, the last one first, if that is asked for.
abbrev pub HasKept : {H : Type 0} → (JobAct → H → H) → Bool → List Found → TallyValue → TallyValue → H → H → Type 0
HasKept done false jobs old new before after = (new ≡ old) × (after ≡ before)
HasKept done true jobs old new before after = HasActed done to_keep IsKeep (reverse jobs) old new before after

-- Directories were created. Then files were copied, and the result of each was reported. Then symbolic links were
-- created, and then directories were given their permissions and times.
pub record CarriesOut {H : Type 0} (done : JobAct → H → H) (keeps : Bool) (jobs : List Found) (before after : H)
    (new : TallyValue) : Type 0 where
  pub made : TallyValue
  pub told : TallyValue
  pub linked : TallyValue
  pub with_folders : H
  pub with_copies : H
  pub with_files : H
  pub with_links : H
  pub makes : HasActed done (of_kind kind.Folders) IsJob jobs no_job made before with_folders
  pub copies : HasCopied done jobs made with_folders with_copies
  pub tells : HasActed done (of_kind kind.Files) IsJob jobs made told with_copies with_files
  pub links : HasActed done (of_kind kind.Links) IsJob jobs told linked with_files with_links
  pub keeps_all : HasKept done keeps jobs linked new with_links after

-- ---- A transfer that did all jobs

-- Each of these jobs was carried out and done.
abbrev pub all_work : TaskKind → List Found → List JobAct
all_work kind [] = []
all_work kind (found ∷ later) =
    if is_of kind found.task then Worked found Done ∷ all_work kind later else all_work kind later

-- Each directory was created, then all files were copied, each with success, and then each symbolic link was created.
-- After that, only directories were given their permissions and times.
abbrev pub AreAllDone : {H : Type 0} → (JobAct → H → H) → List Found → H → H → Type 0
AreAllDone done jobs before after = (kept : List JobAct)
    × (after ≡ all_worked done (all_work kind.Folders jobs ++ (Copied (files_in no_job jobs)
    ∷ (all_work kind.Files jobs ++ (all_work kind.Links jobs ++ kept)))) before)
