-- believed: root_found
-- The task for an entry of a directory.
use Rattle.std.specs.Prelude.{◌+◌, ◌&&◌, ℕ, Bool, not, List, nat_lt, if◌then◌else◌}
use Rattle.std.specs.Str.{is_utf8}
use Rattle.sftp_model.specs.declared.file_attrs.FileAttrs.{FileAttrs}
use Rattle.transfer_plan.specs.Names.{is_entry_name, path_in}
use Rattle.transfer_plan.specs.declared.found.Found.{Found}
use Rattle.transfer_plan.specs.declared.task.EntryKind.{EntryKind}
use Rattle.transfer_plan.specs.declared.task.EntryKind.TheVariants as kind
use Rattle.transfer_plan.specs.declared.task.Task.{Task}
use Rattle.transfer_plan.specs.declared.task.Task.TheVariants as task

-- The greatest depth of nested directories below the root.
abbrev pub MAX_DEPTH : ℕ
MAX_DEPTH = 64

-- The task for an entry with a usable name, in a directory at this depth below the root.
abbrev pub task_at : ℕ → EntryKind → Task
task_at depth kind.File = task.CopyFile
task_at depth kind.Folder = if nat_lt depth MAX_DEPTH then task.MakeFolder else task.RefuseDepth
task_at depth kind.Link = task.CopyLink
task_at depth kind.Other = task.PassOver

-- A name is refused if it is no component or has more than 255 bytes. A name that isn't UTF-8 is refused if names must
-- be UTF-8.
abbrev pub task_of : Bool → ℕ → List ℕ → EntryKind → Task
task_of texts depth name kind =
    if not (is_entry_name name) then task.RefuseName
    else if texts && not (is_utf8 name) then task.RefuseText
    else task_at depth kind

-- The path that an entry is copied to: a path in the target directory, or the target directory itself if the name is
-- refused.
abbrev pub target_in : List ℕ → List ℕ → List ℕ
target_in folder name = if is_entry_name name then path_in folder name else folder

-- An entry of a directory, as the walk records it.
abbrev pub entry_found : Bool → Found → List ℕ → EntryKind → FileAttrs → Found
entry_found texts folder name kind attrs =
    record {
      task = task_of texts folder.depth name kind;
      depth = folder.depth + 1;
      source = path_in folder.source name;
      target = target_in folder.target name;
      attrs = attrs;
    }

-- The directory in which a walk starts.
abbrev pub root_found : List ℕ → List ℕ → FileAttrs → Found
root_found source target attrs =
    record { task = task.MakeFolder; depth = 0; source = source; target = target; attrs = attrs }
