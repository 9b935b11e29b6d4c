-- believed
-- Files that are certain to be copied or read, if the server refuses nothing by choice.
use Rattle.std.specs.Prelude.{
  ◌≡◌,
  ℕ,
  ◌+◌,
  Bool,
  true,
  false,
  not,
  ◌&&◌,
  List,
  [],
  ◌∷◌,
  length,
  Option,
  Some,
  None,
  nat_le,
  nat_lt,
  slice_get,
}
use Rattle.std.specs.List.{list_all}
use Rattle.sftp_model.specs.declared.config.Choice.{Choice}
use Rattle.machine_model.specs.Components.{components}
use Rattle.machine_model.specs.FileTree.{FileTree, all_bytes, bytes_of, is_directory, node_at}
use Rattle.machine_model.specs.Limits.{MAX_FILE_LEN, MAX_TOTAL_LEN}
use Rattle.machine_model.specs.declared.node.Node.{Node}
use Rattle.machine_model.specs.declared.node.Node.TheVariants as node
use Rattle.run_laws.specs.RoundTrips.{passes_length}
use Rattle.run_laws.specs.Steps.{RefuseNone}
use Rattle.mirror_jobs.specs.Parents.{parents_of}
use Rattle.mirror_jobs.specs.declared.directory.Directory.{Directory}
use Rattle.mirror_jobs.specs.declared.job.Job.{Job}
use Rattle.mirror_jobs.specs.declared.job.Job.TheVariants as job
use Rattle.mirror_jobs.specs.declared.verdict.Verdict.{Verdict}
use Rattle.mirror_jobs.specs.declared.verdict.Verdict.TheVariants as verdict
use Rattle.mirror_jobs.specs.CopiesFiles.{CopiesFiles}

-- The total size of all uploads in bytes.
abbrev pub up_bytes : List Job → ℕ
up_bytes [] = 0
up_bytes (job.Up name content ∷ jobs) = length content + up_bytes jobs
up_bytes (job.Down name bound ∷ jobs) = up_bytes jobs

-- True if there is a file.
abbrev pub is_file : Option Node → Bool
is_file None = false
is_file (Some node.Directory) = false
is_file (Some (node.File file)) = true

-- Its bytes; none if there is no file.
abbrev pub bytes_there : FileTree → Option Node → List ℕ
bytes_there tree None = []
bytes_there tree (Some node.Directory) = []
bytes_there tree (Some (node.File file)) = bytes_of tree file

-- True if the directory exists or may be created: no file has its name.
abbrev pub may_be_made : FileTree → Directory → Bool
may_be_made tree d = not (is_file (node_at tree (components d.path)))

-- True if a file among these is good, over a server that has this tree. A good upload has directories that exist or may
-- be created, a name that no directory has, and a path that fits in a frame. There is room for its bytes, and for those
-- of all uploads together with all bytes of the server. A good download exists, its path fits in a frame, and it has
-- fewer bytes than the bound.
abbrev pub is_good_job : FileTree → List Job → Job → Bool
is_good_job tree jobs (job.Up name content) =
    list_all (may_be_made tree) (parents_of (job.Up name content))
    && not (is_directory (node_at tree (components name)))
    && not (passes_length name)
    && nat_le (length content) MAX_FILE_LEN
    && nat_le (all_bytes tree + up_bytes jobs) MAX_TOTAL_LEN
is_good_job tree jobs (job.Down name bound) =
    is_file (node_at tree (components name))
    && not (passes_length name)
    && nat_lt (length (bytes_there tree (node_at tree (components name)))) bound

-- The result reported for it: it is copied, or these bytes are read.
abbrev pub good_verdict : FileTree → Job → Verdict
good_verdict tree (job.Up name content) = verdict.Copied
good_verdict tree (job.Down name bound) = verdict.Got (bytes_there tree (node_at tree (components name)))

-- If the machine refuses nothing by choice, this is reported for each good file.
abbrev pub CopiesGood : List Job → List Choice → FileTree → List Verdict → Type 0
CopiesGood jobs choices tree verdicts = (i : ℕ) (j : Job) → RefuseNone choices → slice_get jobs i ≡ Some j
    → is_good_job tree jobs j ≡ true → slice_get verdicts i ≡ Some (good_verdict tree j)

-- The effect of copying over a file machine: the reports on files are true, and good files are copied or read.
pub record CopiesWell (jobs : List Job) (choices : List Choice) (tree left : FileTree) (verdicts : List Verdict) :
    Type 0 where
  pub files : CopiesFiles jobs choices tree left verdicts
  pub good : CopiesGood jobs choices tree verdicts
