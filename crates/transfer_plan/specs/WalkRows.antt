-- Worked entries.
use Rattle.std.specs.Prelude.{◌≡◌, false, [], ◌∷◌, ◌++◌, codes, replicate, refl}
use Rattle.sftp_model.specs.Frames.{no_attributes}
use Rattle.transfer_plan.specs.Names.{is_component}
use Rattle.transfer_plan.specs.Entries.{entry_found, root_found, task_of}
use Rattle.transfer_plan.specs.declared.task.EntryKind.TheVariants as kind
use Rattle.transfer_plan.specs.declared.task.Task.TheVariants as task

-- A file of the directory `a` that is copied to `b`.
pub file_found : entry_found false (root_found (codes "a") (codes "b") no_attributes) (codes "x") kind.File
    no_attributes
    ≡ record { task = task.CopyFile; depth = 1; source = codes "a/x"; target = codes "b/x"; attrs = no_attributes }
unfolding is_component
file_found = refl

-- An entry that leads out of its directory is refused, and has no target of its own.
pub up_found : entry_found false (root_found (codes "a") (codes "b") no_attributes) (codes "../x") kind.File
    no_attributes
    ≡ record { task = task.RefuseName; depth = 1; source = codes "a/../x"; target = codes "b"; attrs = no_attributes }
unfolding is_component
up_found = refl

-- No file system takes a name of 256 bytes.
pub greatest_name : task_of false 0 (replicate 255 120) kind.File ≡ task.CopyFile
unfolding is_component
greatest_name = refl

pub long_name : entry_found false (root_found (codes "a") (codes "b") no_attributes) (replicate 256 120) kind.Folder
    no_attributes
    ≡ record {
      task = task.RefuseName;
      depth = 1;
      source = codes "a/" ++ replicate 256 120;
      target = codes "b";
      attrs = no_attributes;
    }
unfolding is_component
long_name = refl

-- A device is skipped.
pub device_found : task_of false 0 (codes "null") kind.Other ≡ task.PassOver
unfolding is_component
device_found = refl

-- The 65th of nested directories is refused; a file in the 64th is not.
pub deep_folder : task_of false 64 (codes "x") kind.Folder ≡ task.RefuseDepth
unfolding is_component
deep_folder = refl

pub deep_file : task_of false 64 (codes "x") kind.File ≡ task.CopyFile
unfolding is_component
deep_file = refl

-- Bytes beyond ASCII are accepted if a name needn't be UTF-8.
pub any_bytes : task_of false 0 (255 ∷ []) kind.File ≡ task.CopyFile
unfolding is_component
any_bytes = refl
