-- Worked examples of the tree's replies to requests that move a name, each beside a case that nearly is one.
use Rattle.std.specs.Prelude.{◌≡◌, List, [], ◌∷◌, codes, refl, replicate, ◌+◌}
use Rattle.sftp_model.specs.declared.request.Request.TheVariants as request
use Rattle.machine_model.specs.declared.node.Node.TheVariants as node
use Rattle.sftp_model.specs.Numbers.{
  SSH_FX_FAILURE,
  SSH_FX_NO_SUCH_FILE,
  SSH_FX_OK,
  SSH_FX_OP_UNSUPPORTED,
  FSYNC,
  EXPAND_PATH,
  COPY_DATA,
}
use Rattle.sftp_model.specs.Answers.{status}
use Rattle.machine_model.specs.Components.{Name, components}
use Rattle.machine_model.specs.FileTree.{FileTree}
use Rattle.machine_model.specs.HandleRequests.{held_by}
use Rattle.machine_model.specs.RowWords.{by, choice, config, d, example, example_files, f, g, with_open, for_reading}
use Rattle.machine_model.specs.TreeAnswers.{apply}
use Rattle.machine_model.specs.declared.node.Node.{Node}

abbrev named : List (Name × Node) → FileTree
named names = record { names = names; files = example_files; handles = [] }

-- ---- RENAME

pub renames : by example (request.Rename (codes "g") (codes "d/g"))
    ≡ (
      status SSH_FX_OK,
      named ((d, node.Directory) ∷ (f, node.File 0) ∷ (codes "d" ∷ codes "g" ∷ [], node.File 1) ∷
          []),
    )
unfolding components
renames = refl

-- A directory moves with everything beneath it.
pub renames_directory : by example (request.Rename (codes "d") (codes "e"))
    ≡ (
      status SSH_FX_OK,
      named ((codes "e" ∷ [], node.Directory) ∷ (codes "e" ∷ codes "f" ∷ [], node.File 0) ∷
          (g, node.File 1) ∷ []),
    )
unfolding components
renames_directory = refl

pub renames_missing : by example (request.Rename (codes "h") (codes "g")) ≡ (status SSH_FX_NO_SUCH_FILE, example)
unfolding components
renames_missing = refl

pub renames_there : by example (request.Rename (codes "g") (codes "d/f")) ≡ (status SSH_FX_FAILURE, example)
unfolding components
renames_there = refl

pub renames_itself : by example (request.Rename (codes "g") (codes "g")) ≡ (status SSH_FX_FAILURE, example)
unfolding components
renames_itself = refl

pub renames_beneath_itself : by example (request.Rename (codes "d") (codes "d/e")) ≡ (status SSH_FX_FAILURE, example)
unfolding components
renames_beneath_itself = refl

pub renames_file_beneath_itself : by example (request.Rename (codes "g") (codes "g/x"))
    ≡ (status SSH_FX_FAILURE, example)
unfolding components
renames_file_beneath_itself = refl

pub renames_without_parent : by example (request.Rename (codes "g") (codes "e/g"))
    ≡ (status SSH_FX_NO_SUCH_FILE, example)
unfolding components
renames_without_parent = refl

pub renames_long : by example (request.Rename (codes "g") (replicate 256 97)) ≡ (status SSH_FX_FAILURE, example)
unfolding components
renames_long = refl

pub renames_root : by example (request.Rename (codes "/") (codes "h")) ≡ (status SSH_FX_FAILURE, example)
unfolding components
renames_root = refl

-- ---- `posix-rename`

pub replaces : by example (request.PosixRename (codes "g") (codes "d/f"))
    ≡ (
      status SSH_FX_OK,
      record {
        names = (d, node.Directory) ∷ (f, node.File 1) ∷ [];
        files = [] ∷ codes "xy" ∷ [];
        handles = [];
      },
    )
unfolding components
replaces = refl

-- The file that was replaced continues to exist while it is open.
pub replaces_open : by (with_open ((7 ∷ [], held_by for_reading 0) ∷ []))
    (request.PosixRename (codes "g") (codes "d/f"))
    ≡ (
      status SSH_FX_OK,
      record {
        names = (d, node.Directory) ∷ (f, node.File 1) ∷ [];
        files = example_files;
        handles =
            (7 ∷ [], held_by for_reading 0) ∷ [];
      },
    )
unfolding components
replaces_open = refl

pub replaces_itself : by example (request.PosixRename (codes "g") (codes "./g")) ≡ (status SSH_FX_OK, example)
unfolding components
replaces_itself = refl

pub replaces_root : by example (request.PosixRename (codes "/") []) ≡ (status SSH_FX_OK, example)
unfolding components
replaces_root = refl

pub replaces_missing_itself : by example (request.PosixRename (codes "h") (codes "h"))
    ≡ (status SSH_FX_NO_SUCH_FILE, example)
unfolding components
replaces_missing_itself = refl

pub replaces_directory : by (named ((d, node.Directory) ∷ (g, node.File 1) ∷ []))
    (request.PosixRename (codes "g") (codes "d")) ≡ (
      status SSH_FX_FAILURE,
      named ((d, node.Directory) ∷ (g, node.File 1) ∷ []),
    )
unfolding components
replaces_directory = refl

pub directory_replaces : by (named ((d, node.Directory) ∷ (g, node.File 1) ∷ []))
    (request.PosixRename (codes "d") (codes "g")) ≡ (
      status SSH_FX_FAILURE,
      named ((d, node.Directory) ∷ (g, node.File 1) ∷ []),
    )
unfolding components
directory_replaces = refl

pub replaces_above : by example (request.PosixRename (codes "d/f") (codes "d")) ≡ (status SSH_FX_FAILURE, example)
unfolding components
replaces_above = refl

pub replaces_below : by example (request.PosixRename (codes "d") (codes "d/f")) ≡ (status SSH_FX_FAILURE, example)
unfolding components
replaces_below = refl

pub replaces_new : by example (request.PosixRename (codes "d") (codes "e"))
    ≡ (
      status SSH_FX_OK,
      named ((codes "e" ∷ [], node.Directory) ∷ (codes "e" ∷ codes "f" ∷ [], node.File 0) ∷
          (g, node.File 1) ∷ []),
    )
unfolding components
replaces_new = refl

pub replaces_without_parent : by example (request.PosixRename (codes "g") (codes "e/g"))
    ≡ (status SSH_FX_NO_SUCH_FILE, example)
unfolding components
replaces_without_parent = refl

pub replaces_long : by example (request.PosixRename (codes "g") (replicate 256 97)) ≡ (status SSH_FX_FAILURE, example)
unfolding components
replaces_long = refl

pub replaces_unoffered : apply example (config (FSYNC + EXPAND_PATH + COPY_DATA))
    (request.PosixRename (codes "g") (codes "h")) (choice 0 0) [] ≡ (status SSH_FX_OP_UNSUPPORTED, example)
unfolding components
replaces_unoffered = refl
