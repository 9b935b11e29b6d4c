-- Worked examples of the tree's replies to CLOSE, READ, WRITE and other requests with a handle, each beside a case that
-- nearly is one.
use Rattle.std.specs.Prelude.{ℕ, ◌≡◌, List, [], ◌∷◌, ◌++◌, codes, refl, ◌+◌}
use Rattle.sftp_model.specs.declared.request.Request.TheVariants as request
use Rattle.sftp_model.specs.declared.reply.Reply.TheVariants as reply
use Rattle.machine_model.specs.declared.node.Node.TheVariants as node
use Rattle.machine_model.specs.declared.opened.Opened.TheVariants as opened
use Rattle.sftp_model.specs.Frames.{no_attributes}
use Rattle.sftp_model.specs.Numbers.{
  SSH_FX_EOF,
  SSH_FX_FAILURE,
  SSH_FX_OK,
  SSH_FX_OP_UNSUPPORTED,
  SSH_FX_PERMISSION_DENIED,
  POSIX_RENAME,
  FSYNC,
  EXPAND_PATH,
  COPY_DATA,
}
use Rattle.sftp_model.specs.Answers.{status}
use Rattle.machine_model.specs.FileTree.{FileTree}
use Rattle.machine_model.specs.HandleRequests.{held_by}
use Rattle.machine_model.specs.RowWords.{
  by,
  choice,
  config,
  d,
  example,
  example_names,
  of_directory,
  sized,
  with_open,
  for_reading,
  for_writing,
  for_both,
  appending,
}
use Rattle.machine_model.specs.TreeAnswers.{apply}

-- ---- CLOSE

pub closes : by (with_open ((7 ∷ [], held_by for_reading 0) ∷ (8 ∷ [], held_by for_writing 1) ∷ []))
    (request.Close (7 ∷ [])) ≡ (status SSH_FX_OK, with_open ((8 ∷ [], held_by for_writing 1) ∷ []))
closes = refl

pub closes_directory : by (with_open ((7 ∷ [], opened.Directory []) ∷ [])) (request.Close (7 ∷ []))
    ≡ (status SSH_FX_OK, example)
closes_directory = refl

pub closes_unknown : by (with_open ((7 ∷ [], held_by for_reading 0) ∷ [])) (request.Close (8 ∷ []))
    ≡ (status SSH_FX_FAILURE, with_open ((7 ∷ [], held_by for_reading 0) ∷ []))
closes_unknown = refl

-- A file that existed only by a handle is dropped with its last handle.
abbrev nameless : FileTree
nameless = record {
  names = (d, node.Directory) ∷ [];
  files = codes "hello" ∷ [];
  handles =
      (7 ∷ [], held_by for_reading 0) ∷ (8 ∷ [], held_by for_writing 0) ∷ [];
}

pub closes_one_of_two : by nameless (request.Close (7 ∷ []))
    ≡ (
      status SSH_FX_OK,
      record {
        names = (d, node.Directory) ∷ [];
        files = codes "hello" ∷ [];
        handles =
            (8 ∷ [], held_by for_writing 0) ∷ [];
      },
    )
closes_one_of_two = refl

pub closes_last : by (record {
  names = (d, node.Directory) ∷ [];
  files = codes "hello" ∷ [];
  handles =
      (8 ∷ [], held_by for_writing 0) ∷ [];
}) (request.Close (8 ∷ []))
    ≡ (status SSH_FX_OK, record { names = (d, node.Directory) ∷ []; files = [] ∷ []; handles = [] })
closes_last = refl

-- ---- READ

abbrev reading : FileTree
reading = with_open ((7 ∷ [], held_by for_reading 0) ∷ (8 ∷ [], held_by for_writing 1) ∷ (6 ∷ [], opened.Directory []) ∷
    [])

pub reads : by reading (request.Read (7 ∷ []) 1 3) ≡ (reply.Content (codes "ell"), reading)
reads = refl

pub reads_less : by reading (request.Read (7 ∷ []) 3 5) ≡ (reply.Content (codes "lo"), reading)
reads_less = refl

pub reads_capped : apply reading (config 0) (request.Read (7 ∷ []) 0 5) (choice 0 2) []
    ≡ (reply.Content (codes "he"), reading)
reads_capped = refl

pub reads_at_end : by reading (request.Read (7 ∷ []) 5 1) ≡ (status SSH_FX_EOF, reading)
reads_at_end = refl

pub reads_nothing : by reading (request.Read (7 ∷ []) 5 0) ≡ (status SSH_FX_FAILURE, reading)
reads_nothing = refl

pub reads_written : by reading (request.Read (8 ∷ []) 0 0) ≡ (status SSH_FX_PERMISSION_DENIED, reading)
reads_written = refl

pub reads_unknown : by reading (request.Read (9 ∷ []) 0 5) ≡ (status SSH_FX_FAILURE, reading)
reads_unknown = refl

pub reads_directory : by reading (request.Read (6 ∷ []) 0 5) ≡ (status SSH_FX_FAILURE, reading)
reads_directory = refl

pub is_refused : apply reading (config 0) (request.Read (7 ∷ []) 0 5) (choice 3 2) []
    ≡ (status SSH_FX_PERMISSION_DENIED, reading)
is_refused = refl

-- ---- WRITE

abbrev writing : FileTree
writing = with_open ((7 ∷ [], held_by for_writing 1) ∷ (8 ∷ [], held_by appending 1) ∷ (6 ∷ [], held_by for_reading 1) ∷
    [])

abbrev written : List ℕ → FileTree
written bytes = record {
  names = example_names;
  files = codes "hello" ∷ bytes ∷ [];
  handles =
      (7 ∷ [], held_by for_writing 1) ∷ (8 ∷ [], held_by appending 1) ∷ (6 ∷ [], held_by for_reading 1) ∷ [];
}

pub writes_over : by writing (request.Write (7 ∷ []) 0 (codes "A")) ≡ (status SSH_FX_OK, written (codes "Ay"))
writes_over = refl

pub writes_past : by writing (request.Write (7 ∷ []) 1 (codes "ABC")) ≡ (status SSH_FX_OK, written (codes "xABC"))
writes_past = refl

pub writes_gap : by writing (request.Write (7 ∷ []) 4 (codes "A"))
    ≡ (status SSH_FX_OK, written (codes "xy" ++ 0 ∷ 0 ∷ codes "A"))
writes_gap = refl

-- A piece of no bytes fills the gap too.
pub writes_nothing : by writing (request.Write (7 ∷ []) 3 []) ≡ (status SSH_FX_OK, written (codes "xy" ++ 0 ∷ []))
writes_nothing = refl

pub appends : by writing (request.Write (8 ∷ []) 0 (codes "A")) ≡ (status SSH_FX_OK, written (codes "xyA"))
appends = refl

pub writes_read : by writing (request.Write (6 ∷ []) 0 (codes "A")) ≡ (status SSH_FX_PERMISSION_DENIED, writing)
writes_read = refl

pub writes_unknown : by writing (request.Write (9 ∷ []) 0 (codes "A")) ≡ (status SSH_FX_FAILURE, writing)
writes_unknown = refl

-- The greatest offset, which is over the limit of one file.
pub writes_far : by writing (request.Write (7 ∷ []) 18446744073709551614 (codes "A")) ≡ (status SSH_FX_FAILURE, writing)
writes_far = refl

pub writes_over_limit : by writing (request.Write (7 ∷ []) 16777216 (codes "A")) ≡ (status SSH_FX_FAILURE, writing)
writes_over_limit = refl

-- If the file was opened to append, the offset counts for nothing.
pub appends_far : by writing (request.Write (8 ∷ []) 18446744073709551614 (codes "A"))
    ≡ (status SSH_FX_OK, written (codes "xyA"))
appends_far = refl

-- ---- FSTAT and FSETSTAT

abbrev held : FileTree
held = with_open ((7 ∷ [], held_by for_writing 1) ∷ (8 ∷ [], held_by for_reading 0) ∷ (6 ∷ [], opened.Directory []) ∷
    [])

abbrev cut : List ℕ → FileTree
cut bytes = record {
  names = example_names;
  files = codes "hello" ∷ bytes ∷ [];
  handles =
      (7 ∷ [], held_by for_writing 1) ∷ (8 ∷ [], held_by for_reading 0) ∷ (6 ∷ [], opened.Directory []) ∷ [];
}

pub fstats : by held (request.Fstat (7 ∷ [])) ≡ (reply.Attrs (sized 2), held)
fstats = refl

pub fstats_directory : by held (request.Fstat (6 ∷ [])) ≡ (reply.Attrs of_directory, held)
fstats_directory = refl

pub fstats_unknown : by held (request.Fstat (9 ∷ [])) ≡ (status SSH_FX_FAILURE, held)
fstats_unknown = refl

pub fsetstats : by held (request.Fsetstat (7 ∷ []) (sized 1)) ≡ (status SSH_FX_OK, cut (codes "x"))
fsetstats = refl

pub fsetstats_more : by held (request.Fsetstat (7 ∷ []) (sized 4)) ≡ (status SSH_FX_OK, cut (codes "xy" ++ 0 ∷ 0 ∷ []))
fsetstats_more = refl

pub fsetstats_read : by held (request.Fsetstat (8 ∷ []) (sized 1)) ≡ (status SSH_FX_PERMISSION_DENIED, held)
fsetstats_read = refl

-- Without a size, only the handle is checked.
pub fsetstats_none : by held (request.Fsetstat (8 ∷ []) no_attributes) ≡ (status SSH_FX_OK, held)
fsetstats_none = refl

pub fsetstats_directory : by held (request.Fsetstat (6 ∷ []) no_attributes) ≡ (status SSH_FX_FAILURE, held)
fsetstats_directory = refl

pub fsetstats_over : by held (request.Fsetstat (7 ∷ []) (sized 16777217)) ≡ (status SSH_FX_FAILURE, held)
fsetstats_over = refl

-- ---- `fsync` and `copy-data`

pub fsyncs : by held (request.Fsync (8 ∷ [])) ≡ (status SSH_FX_OK, held)
fsyncs = refl

pub fsyncs_directory : by held (request.Fsync (6 ∷ [])) ≡ (status SSH_FX_FAILURE, held)
fsyncs_directory = refl

pub fsyncs_unoffered : apply held (config (POSIX_RENAME + EXPAND_PATH + COPY_DATA)) (request.Fsync (8 ∷ []))
    (choice 0 0) [] ≡ (status SSH_FX_OP_UNSUPPORTED, held)
fsyncs_unoffered = refl

pub copies : by held (request.CopyData (8 ∷ []) 1 3 (7 ∷ []) 1) ≡ (status SSH_FX_OK, cut (codes "xell"))
copies = refl

pub copies_to_end : by held (request.CopyData (8 ∷ []) 1 0 (7 ∷ []) 0) ≡ (status SSH_FX_OK, cut (codes "ello"))
copies_to_end = refl

-- A copy of no bytes fills the gap.
pub copies_nothing : by held (request.CopyData (8 ∷ []) 5 0 (7 ∷ []) 3) ≡ (status SSH_FX_OK, cut (codes "xy" ++ 0 ∷ []))
copies_nothing = refl

pub copies_written : by held (request.CopyData (7 ∷ []) 0 0 (7 ∷ []) 0) ≡ (status SSH_FX_PERMISSION_DENIED, held)
copies_written = refl

pub copies_to_read : by held (request.CopyData (8 ∷ []) 0 0 (8 ∷ []) 0) ≡ (status SSH_FX_PERMISSION_DENIED, held)
copies_to_read = refl

pub copies_from_directory : by held (request.CopyData (6 ∷ []) 0 0 (7 ∷ []) 0) ≡ (status SSH_FX_FAILURE, held)
copies_from_directory = refl

pub copies_over : by held (request.CopyData (8 ∷ []) 0 1 (7 ∷ []) 16777216) ≡ (status SSH_FX_FAILURE, held)
copies_over = refl

pub copies_unoffered : apply held (config (POSIX_RENAME + FSYNC + EXPAND_PATH))
    (request.CopyData (9 ∷ []) 0 0 (7 ∷ []) 0) (choice 0 0) [] ≡ (status SSH_FX_OP_UNSUPPORTED, held)
copies_unoffered = refl

-- A file is read and written by one handle: the bytes that were taken first are written.
abbrev both : List ℕ → FileTree
both bytes = record {
  names = example_names;
  files = bytes ∷ codes "xy" ∷ [];
  handles =
      (7 ∷ [], held_by for_both 0) ∷ [];
}

pub copies_within : by (both (codes "hello")) (request.CopyData (7 ∷ []) 0 3 (7 ∷ []) 1)
    ≡ (status SSH_FX_OK, both (codes "hhelo"))
copies_within = refl

-- ---- The other requests

pub links : by example (request.Symlink (codes "g") (codes "h")) ≡ (status SSH_FX_OP_UNSUPPORTED, example)
links = refl

pub hard_links : by example (request.Hardlink (codes "g") (codes "h")) ≡ (status SSH_FX_OP_UNSUPPORTED, example)
hard_links = refl

pub no_limits : by example request.LimitsQuery ≡ (status SSH_FX_OP_UNSUPPORTED, example)
no_limits = refl
