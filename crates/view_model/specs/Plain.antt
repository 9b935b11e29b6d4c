-- believed
-- The answers to operations and the files that they leave without a cache, from a server's files and directories alone.
use Rattle.std.specs.Prelude.{
  ℕ,
  zero,
  suc,
  ◌+◌,
  ◌==◌,
  List,
  [],
  ◌∷◌,
  length,
  take,
  drop,
  Option,
  Some,
  None,
  max,
  if◌then◌else◌,
}
use Rattle.sftp_model.specs.Numbers.{SSH_FX_FAILURE, SSH_FX_NO_SUCH_FILE, SSH_FXF_CREAT, SSH_FXF_WRITE}
use Rattle.sftp_model.specs.declared.reply.Reply.{Reply}
use Rattle.sftp_model.specs.declared.reply.Reply.TheVariants as reply
use Rattle.machine_model.specs.Components.{Name, components}
use Rattle.machine_model.specs.FileTree.{FileTree, bytes_of, is_over, node_at, written_at, size_of, with_bytes}
use Rattle.machine_model.specs.HandleRequests.{after_open}
use Rattle.machine_model.specs.declared.node.Node.{Node}
use Rattle.machine_model.specs.declared.node.Node.TheVariants as node
use Rattle.view_model.specs.ViewOps.{passes_length}
use Rattle.view_model.specs.declared.answer.Answer.{Answer}
use Rattle.view_model.specs.declared.answer.Answer.TheVariants as answer
use Rattle.view_model.specs.declared.op.ViewOp.{ViewOp}
use Rattle.view_model.specs.declared.op.ViewOp.TheVariants as op

-- An answer, and the files and directories that are left.
abbrev pub Given : Type 0
Given = Answer × FileTree

-- ---- get

-- The bytes of a file from an offset on, or the refusal of the OPEN.
abbrev pub bytes_from : FileTree → ℕ → ℕ → Option Node → Answer
bytes_from tree offset len None = answer.Refused SSH_FX_NO_SUCH_FILE
bytes_from tree offset len (Some node.Directory) = answer.Refused SSH_FX_FAILURE
bytes_from tree offset len (Some (node.File file)) = answer.Got (take len (drop offset (bytes_of tree file)))

-- ---- put

-- Bytes in pieces of this length, of which the last may be shorter. There are at most `most` pieces.
abbrev pub pieces : ℕ → ℕ → List ℕ → List (List ℕ)
pieces zero len bytes = []
pieces (suc most) len [] = []
pieces (suc most) len (b ∷ bytes) = take len (b ∷ bytes) ∷ pieces most len (drop len (b ∷ bytes))

-- Pieces written one after another from an offset on, up to the first that a limit refuses.
abbrev pub put_pieces : FileTree → ℕ → ℕ → List (List ℕ) → Given
put_pieces tree file offset [] = (answer.Put, tree)
put_pieces tree file offset (piece ∷ more) =
    if is_over tree file (max (size_of tree file) (offset + length piece)) then (answer.Refused SSH_FX_FAILURE, tree)
    else put_pieces (with_bytes tree file (written_at (bytes_of tree file) offset piece)) file (offset + length piece)
    more

-- The flags of an OPEN that creates a missing file, and writes to it.
abbrev pub to_put : ℕ
to_put = SSH_FXF_WRITE + SSH_FXF_CREAT

-- After the OPEN, the file that has the name then is written.
abbrev pub put_node : FileTree → ℕ → List (List ℕ) → Option Node → Given
put_node tree offset parts (Some (node.File file)) = put_pieces tree file offset parts
put_node tree offset parts other = (answer.Refused SSH_FX_FAILURE, tree)

-- The result by the reply to the OPEN. The open handles are the same as before.
abbrev pub put_opened : FileTree → Name → ℕ → List (List ℕ) → Reply × FileTree → Given
put_opened tree name offset parts (reply.Status code message language, left) = (answer.Refused code, tree)
put_opened tree name offset parts (other, left) = put_node (record left { handles = tree.handles }) offset parts
    (node_at left name)

-- ---- Operations

-- One operation, if a WRITE carries at most `write_len` bytes.
abbrev pub plain_op : ℕ → ViewOp → FileTree → Given
plain_op write_len (op.Get path offset len) tree =
    if len == 0 then (answer.Got [], tree)
    else if passes_length path then (answer.TooLong, tree)
    else (bytes_from tree offset len (node_at tree (components path)), tree)
plain_op write_len (op.Put path offset content) tree =
    if passes_length path then (answer.TooLong, tree)
    else put_opened tree (components path) offset (pieces (length content) write_len content)
    (after_open tree [] to_put (components path) (node_at tree (components path)))

-- An answer before others.
abbrev pub with_answer : Answer → List Answer × FileTree → List Answer × FileTree
with_answer a given = (a ∷ given.0, given.1)

-- All answers, and the files and directories left at the end.
abbrev pub plain : ℕ → List ViewOp → FileTree → List Answer × FileTree
plain write_len [] tree = ([], tree)
plain write_len (o ∷ ops) tree =
    with_answer (plain_op write_len o tree).0 (plain write_len ops (plain_op write_len o tree).1)
