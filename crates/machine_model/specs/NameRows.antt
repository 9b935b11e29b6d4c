-- Worked examples of the tree's replies to requests on names, each beside a case that nearly is one.
use Rattle.std.specs.Prelude.{◌≡◌, List, [], ◌∷◌, ◌++◌, codes, refl, replicate, ◌+◌}
use Rattle.sftp_model.specs.declared.request.Request.TheVariants as request
use Rattle.sftp_model.specs.declared.reply.Reply.TheVariants as reply
use Rattle.machine_model.specs.declared.node.Node.TheVariants as node
use Rattle.machine_model.specs.declared.opened.Opened.TheVariants as opened
use Rattle.ssh_encoding.specs.Writing.{uint32, string}
use Rattle.sftp_model.specs.Frames.{no_attributes, reply_body, attributes}
use Rattle.sftp_model.specs.Numbers.{
  SSH_FX_EOF,
  SSH_FX_FAILURE,
  SSH_FX_NO_SUCH_FILE,
  SSH_FX_OK,
  SSH_FX_OP_UNSUPPORTED,
  POSIX_RENAME,
  FSYNC,
  COPY_DATA,
}
use Rattle.sftp_model.specs.Answers.{status}
use Rattle.machine_model.specs.Components.{Name, components}
use Rattle.machine_model.specs.FileTree.{FileTree}
use Rattle.machine_model.specs.HandleRequests.{held_by}
use Rattle.machine_model.specs.RowWords.{
  by,
  choice,
  config,
  d,
  entry,
  example,
  example_files,
  example_names,
  f,
  g,
  of_directory,
  sized,
  with_open,
  for_reading,
}
use Rattle.machine_model.specs.TreeAnswers.{apply}
use Rattle.machine_model.specs.declared.node.Node.{Node}
use Rattle.machine_model.specs.declared.opened.Opened.{Opened}

abbrev named : List (Name × Node) → FileTree
named names = record { names = names; files = example_files; handles = [] }

-- ---- STAT, LSTAT and SETSTAT

pub stats : by example (request.Stat (codes "d/f")) ≡ (reply.Attrs (sized 5), example)
unfolding components
stats = refl

pub stats_directory : by example (request.Lstat (codes "d/")) ≡ (reply.Attrs of_directory, example)
unfolding components
stats_directory = refl

pub stats_root : by example (request.Stat []) ≡ (reply.Attrs of_directory, example)
unfolding components
stats_root = refl

pub stats_missing : by example (request.Stat (codes "f")) ≡ (status SSH_FX_NO_SUCH_FILE, example)
unfolding components
stats_missing = refl

pub stats_beneath_file : by example (request.Stat (codes "g/x")) ≡ (status SSH_FX_NO_SUCH_FILE, example)
unfolding components
stats_beneath_file = refl

pub setstats : by example (request.Setstat (codes "g") (sized 1))
    ≡ (status SSH_FX_OK, record { names = example_names; files = codes "hello" ∷ codes "x" ∷ []; handles = [] })
unfolding components
setstats = refl

pub setstats_directory : by example (request.Setstat (codes "d") (sized 0)) ≡ (status SSH_FX_FAILURE, example)
unfolding components
setstats_directory = refl

pub setstats_none : by example (request.Setstat (codes "d") of_directory) ≡ (status SSH_FX_OK, example)
unfolding components
setstats_none = refl

pub setstats_missing : by example (request.Setstat (codes "h") of_directory) ≡ (status SSH_FX_NO_SUCH_FILE, example)
unfolding components
setstats_missing = refl

pub setstats_over : by example (request.Setstat (codes "g") (sized 16777217)) ≡ (status SSH_FX_FAILURE, example)
unfolding components
setstats_over = refl

-- ---- REMOVE

pub removes : by example (request.Remove (codes "g")) ≡ (
  status SSH_FX_OK,
  record { names = (d, node.Directory) ∷ (f, node.File 0) ∷ []; files = codes "hello" ∷ [] ∷ []; handles = [] },
)
unfolding components
removes = refl

-- The file continues to exist while it is open.
pub removes_open : by (with_open ((7 ∷ [], held_by for_reading 1) ∷ [])) (request.Remove (codes "g"))
    ≡ (
      status SSH_FX_OK,
      record {
        names = (d, node.Directory) ∷ (f, node.File 0) ∷ [];
        files = example_files;
        handles =
            (7 ∷ [], held_by for_reading 1) ∷ [];
      },
    )
unfolding components
removes_open = refl

pub removes_directory : by example (request.Remove (codes "d")) ≡ (status SSH_FX_FAILURE, example)
unfolding components
removes_directory = refl

pub removes_missing : by example (request.Remove (codes "h")) ≡ (status SSH_FX_NO_SUCH_FILE, example)
unfolding components
removes_missing = refl

-- ---- MKDIR and RMDIR

pub makes : by example (request.Mkdir (codes "d/e") of_directory)
    ≡ (
      status SSH_FX_OK,
      named ((d, node.Directory) ∷ (f, node.File 0) ∷ (g, node.File 1) ∷
          (codes "d" ∷ codes "e" ∷ [], node.Directory) ∷ []),
    )
unfolding components
makes = refl

pub makes_there : by example (request.Mkdir (codes "g") no_attributes) ≡ (status SSH_FX_FAILURE, example)
unfolding components
makes_there = refl

pub makes_root : by example (request.Mkdir (codes "/..") no_attributes) ≡ (status SSH_FX_FAILURE, example)
unfolding components
makes_root = refl

pub makes_without_parent : by example (request.Mkdir (codes "e/h") no_attributes)
    ≡ (status SSH_FX_NO_SUCH_FILE, example)
unfolding components
makes_without_parent = refl

pub makes_beneath_file : by example (request.Mkdir (codes "d/f/h") no_attributes)
    ≡ (status SSH_FX_NO_SUCH_FILE, example)
unfolding components
makes_beneath_file = refl

pub makes_long : by example (request.Mkdir (codes "d/" ++ replicate 256 97) no_attributes)
    ≡ (status SSH_FX_FAILURE, example)
unfolding components
makes_long = refl

pub takes_away : by (named ((d, node.Directory) ∷ (g, node.File 1) ∷ [])) (request.Rmdir (codes "d"))
    ≡ (status SSH_FX_OK, named ((g, node.File 1) ∷ []))
unfolding components
takes_away = refl

pub takes_away_full : by example (request.Rmdir (codes "d")) ≡ (status SSH_FX_FAILURE, example)
unfolding components
takes_away_full = refl

pub takes_away_file : by example (request.Rmdir (codes "g")) ≡ (status SSH_FX_FAILURE, example)
unfolding components
takes_away_file = refl

pub takes_away_missing : by example (request.Rmdir (codes "h")) ≡ (status SSH_FX_NO_SUCH_FILE, example)
unfolding components
takes_away_missing = refl

-- The root stays, even if it is empty.
pub takes_away_root : by (named []) (request.Rmdir (codes "/")) ≡ (status SSH_FX_FAILURE, named [])
unfolding components
takes_away_root = refl

-- ---- OPENDIR and READDIR

pub opens_directory : by example (request.Opendir (codes "/"))
    ≡ (
      reply.Handle (9 ∷ []),
      with_open ((
        9 ∷ [],
        opened.Directory
            (entry (codes "d") of_directory ∷ entry (codes "g") (sized 2) ∷ []),
      ) ∷ []),
    )
unfolding components
opens_directory = refl

-- In the order of the last components, and none from deeper levels.
pub opens_in_order : (by (named ((g, node.File 1) ∷ (codes "a" ∷ [], node.Directory) ∷ (f, node.File 0) ∷
    (codes "ab" ∷ [], node.Directory) ∷ (d, node.Directory) ∷ [])) (request.Opendir [])).1.handles
    ≡ (
      9 ∷ [],
      opened.Directory (entry (codes "a") of_directory ∷ entry (codes "ab") of_directory ∷ entry (codes "d")
          of_directory ∷ entry (codes "g") (sized 2) ∷ []),
    ) ∷ []
unfolding components
opens_in_order = refl

pub opens_file : by example (request.Opendir (codes "g")) ≡ (status SSH_FX_FAILURE, example)
unfolding components
opens_file = refl

pub opens_missing : by example (request.Opendir (codes "h")) ≡ (status SSH_FX_NO_SUCH_FILE, example)
unfolding components
opens_missing = refl

abbrev listing : List Opened → FileTree
listing [] = example
listing (o ∷ os) = with_open ((6 ∷ [], held_by for_reading 0) ∷ (7 ∷ [], o) ∷ [])

abbrev left : FileTree
left = listing (opened.Directory (entry (codes "a") (sized 1) ∷ entry (codes "b") (sized 2) ∷ entry (codes "c")
    (sized 3) ∷ []) ∷ [])

pub lists : by left (request.Readdir (7 ∷ []))
    ≡ (
      reply.Names (entry (codes "a") (sized 1) ∷ entry (codes "b") (sized 2) ∷ entry (codes "c") (sized 3) ∷ []),
      listing (opened.Directory [] ∷ []),
    )
lists = refl

pub lists_capped : apply left (config 0) (request.Readdir (7 ∷ [])) (choice 0 2) []
    ≡ (
      reply.Names (entry (codes "a") (sized 1) ∷ entry (codes "b") (sized 2) ∷ []),
      listing (opened.Directory (entry (codes "c") (sized 3) ∷ []) ∷ []),
    )
lists_capped = refl

pub lists_to_end : by (listing (opened.Directory [] ∷ [])) (request.Readdir (7 ∷ []))
    ≡ (status SSH_FX_EOF, listing (opened.Directory [] ∷ []))
lists_to_end = refl

pub lists_file : by left (request.Readdir (6 ∷ [])) ≡ (status SSH_FX_FAILURE, left)
lists_file = refl

-- ---- REALPATH and `expand-path`

pub real : by example (request.Realpath (codes "x/..//z/")) ≡
    (reply.Names (entry (codes "/z") no_attributes ∷ []), example)
unfolding components uint32 string reply_body attributes
real = refl

pub real_root : by example (request.Realpath []) ≡ (reply.Names (entry (codes "/") no_attributes ∷ []), example)
unfolding components uint32 string reply_body attributes
real_root = refl

pub expands : by example (request.ExpandPath (codes "d/f")) ≡
    (reply.Names (entry (codes "/d/f") no_attributes ∷ []), example)
unfolding components uint32 string reply_body attributes
expands = refl

pub expands_unoffered : apply example (config (POSIX_RENAME + FSYNC + COPY_DATA)) (request.ExpandPath (codes "d/f"))
    (choice 0 0) [] ≡ (status SSH_FX_OP_UNSUPPORTED, example)
unfolding components
expands_unoffered = refl
