-- Worked examples of the tree's replies to OPEN, each beside a case that nearly is one.
use Rattle.std.specs.Prelude.{◌≡◌, [], ◌∷◌, ◌++◌, codes, refl, replicate}
use Rattle.sftp_model.specs.declared.reply.Reply.TheVariants as reply
use Rattle.machine_model.specs.declared.node.Node.TheVariants as node
use Rattle.sftp_model.specs.Numbers.{SSH_FX_FAILURE, SSH_FX_NO_SUCH_FILE}
use Rattle.sftp_model.specs.Answers.{status}
use Rattle.machine_model.specs.Components.{components}
use Rattle.machine_model.specs.HandleRequests.{held_by}
use Rattle.machine_model.specs.RowWords.{
  by,
  d,
  example,
  example_names,
  f,
  g,
  open_file,
  with_open,
  for_reading,
  creating,
  truncating,
  replacing,
  exclusive,
  creating_new,
}

-- ---- OPEN

pub opens : by example (open_file (codes "/d/f") for_reading)
    ≡ (reply.Handle (9 ∷ []), with_open ((9 ∷ [], held_by for_reading 0) ∷ []))
unfolding components
opens = refl

pub opens_directory : by example (open_file (codes "d") for_reading) ≡ (status SSH_FX_FAILURE, example)
unfolding components
opens_directory = refl

pub opens_root : by example (open_file (codes "/") replacing) ≡ (status SSH_FX_FAILURE, example)
unfolding components
opens_root = refl

pub opens_missing : by example (open_file (codes "h") for_reading) ≡ (status SSH_FX_NO_SUCH_FILE, example)
unfolding components
opens_missing = refl

pub creates : by example (open_file (codes "d/h") creating) ≡ (
  reply.Handle (9 ∷ []),
  record {
    names = (d, node.Directory) ∷ (f, node.File 0) ∷ (g, node.File 1) ∷ (codes "d" ∷ codes "h" ∷ [], node.File 2) ∷ [];
    files = codes "hello" ∷ codes "xy" ∷ [] ∷ [];
    handles = (9 ∷ [], held_by creating 2) ∷ [];
  },
)
unfolding components
creates = refl

-- An existing file keeps its bytes without TRUNC.
pub creates_there : by example (open_file (codes "g") creating)
    ≡ (reply.Handle (9 ∷ []), with_open ((9 ∷ [], held_by creating 1) ∷ []))
unfolding components
creates_there = refl

pub creates_exclusive_there : by example (open_file (codes "g") creating_new) ≡ (status SSH_FX_FAILURE, example)
unfolding components
creates_exclusive_there = refl

-- EXCL without CREAT has no effect.
pub exclusive_there : by example (open_file (codes "g") exclusive)
    ≡ (reply.Handle (9 ∷ []), with_open ((9 ∷ [], held_by exclusive 1) ∷ []))
unfolding components
exclusive_there = refl

pub truncates : by example (open_file (codes "g") truncating)
    ≡ (
      reply.Handle (9 ∷ []),
      record {
        names = example_names;
        files = codes "hello" ∷ [] ∷ [];
        handles =
            (9 ∷ [], held_by truncating 1) ∷ [];
      },
    )
unfolding components
truncates = refl

-- TRUNC without CREAT creates no file.
pub truncates_missing : by example (open_file (codes "h") truncating) ≡ (status SSH_FX_NO_SUCH_FILE, example)
unfolding components
truncates_missing = refl

pub creates_without_parent : by example (open_file (codes "e/h") creating) ≡ (status SSH_FX_NO_SUCH_FILE, example)
unfolding components
creates_without_parent = refl

pub creates_beneath_file : by example (open_file (codes "g/h") creating) ≡ (status SSH_FX_NO_SUCH_FILE, example)
unfolding components
creates_beneath_file = refl

pub creates_long : by example (open_file (replicate 256 97) creating) ≡ (status SSH_FX_FAILURE, example)
unfolding components
creates_long = refl

-- The parent is checked first.
pub creates_long_without_parent : by example (open_file (codes "e/" ++ replicate 256 97) creating)
    ≡ (status SSH_FX_NO_SUCH_FILE, example)
unfolding components
creates_long_without_parent = refl

-- A long name that is not to be created is missing.
pub opens_long : by example (open_file (replicate 256 97) for_reading) ≡ (status SSH_FX_NO_SUCH_FILE, example)
unfolding components
opens_long = refl
