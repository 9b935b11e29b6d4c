-- The change of a request, and the parts of its answer.
use Rattle.std.specs.Prelude.{◌≡◌, ◌<◌, ◌+◌, ◌^◌, ℕ, Bool, true, false, List, [], length}
use Rattle.sftp_model.specs.declared.reply.Reply.{Reply}
use Rattle.machine_model.specs.declared.node.Node.TheVariants as node
use Rattle.sftp_model.specs.Answers.{is_handle}
use Rattle.machine_model.specs.HandleRequests.{Answer}
use Rattle.machine_model.specs.FileTree.{
  FileTree,
  bytes_of,
  written_at,
  resized_bytes,
  with_bytes,
  with_name,
  with_file,
  without_name,
  with_renamed,
  with_handle,
  without_handle,
  after_loss,
}
use Rattle.machine_tree.specs.Numbers.{given_pairs}
use Rattle.machine_answers.specs.declared.change.Change.{Change}
use Rattle.machine_answers.specs.declared.change.Change.TheVariants as change

-- The tree after a change; `handle` is the granted one.
abbrev pub tree_after_change : FileTree → List ℕ → Change → FileTree
tree_after_change tree handle change.Unchanged = tree
tree_after_change tree handle (change.Written file offset piece) =
    with_bytes tree file (written_at (bytes_of tree file) offset piece)
tree_after_change tree handle (change.Resized file size) = with_bytes tree file
    (resized_bytes size (bytes_of tree file))
tree_after_change tree handle (change.Granted o) = with_handle tree handle o
tree_after_change tree handle (change.Truncated file o) = with_handle (with_bytes tree file []) handle o
tree_after_change tree handle (change.Created name o) = with_handle (with_file tree name) handle o
tree_after_change tree handle (change.ClosedDirectory h) = without_handle tree h
tree_after_change tree handle (change.ClosedFile h file) = after_loss (without_handle tree h) file
tree_after_change tree handle (change.Listed h n) = record tree { handles = given_pairs tree.handles h n }
tree_after_change tree handle (change.MadeDirectory name) = with_name tree name node.Directory
tree_after_change tree handle (change.RemovedDirectory name) = without_name tree name
tree_after_change tree handle (change.RemovedFile name file) = after_loss (without_name tree name) file
tree_after_change tree handle (change.Renamed old to) = with_renamed tree old to
tree_after_change tree handle (change.Replaced old to gone) =
    after_loss (with_renamed (without_name tree to) old to) gone

-- True if the change grants the handle.
abbrev pub is_grant : Change → Bool
is_grant (change.Granted o) = true
is_grant (change.Truncated file o) = true
is_grant (change.Created name o) = true
is_grant other = false

-- The end of a piece fits in a number.
abbrev pub FitsChange : Change → Type 0
FitsChange (change.Written file offset piece) = offset + length piece < 2 ^ 63
FitsChange other = Unit {0}

-- A reply with a change makes the answer: the same reply, and the tree after the change.
pub record LeadsToAnswer (tree : FileTree) (handle : List ℕ) (said : Reply × Change) (x : Answer) : Type 0 where
  pub reply : said.0 ≡ x.0
  pub left : tree_after_change tree handle said.1 ≡ x.1
  pub grants : is_grant said.1 ≡ is_handle x.0
  pub fits : FitsChange said.1
