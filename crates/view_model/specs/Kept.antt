-- believed
-- The blocks that are kept, the hits and the misses, by the files of the server alone.
use Rattle.std.specs.Prelude.{
  ℕ,
  zero,
  suc,
  ◌+◌,
  ◌-◌,
  ◌*◌,
  ◌==◌,
  List,
  [],
  ◌∷◌,
  Option,
  Some,
  is_some,
  min,
  nat_lt,
  if◌then◌else◌,
}
use Rattle.std.specs.Map.{lookup}
use Rattle.machine_model.specs.Components.{Name, components}
use Rattle.machine_model.specs.FileTree.{FileTree, node_at, size_of}
use Rattle.machine_model.specs.declared.node.Node.{Node}
use Rattle.machine_model.specs.declared.node.Node.TheVariants as node
use Rattle.view_model.specs.Blocks.{
  Kept,
  block_count,
  without_blocks_of,
  first_block,
  count_hit,
  count_miss,
  missed_with,
  nothing_kept,
}
use Rattle.view_model.specs.Keys.{key_of, same_key}
use Rattle.view_model.specs.Plain.{plain_op}
use Rattle.view_model.specs.ViewOps.{passes_length}
use Rattle.view_model.specs.declared.key.BlockKey.{BlockKey}
use Rattle.view_model.specs.declared.op.ViewOp.{ViewOp}
use Rattle.view_model.specs.declared.op.ViewOp.TheVariants as op

-- Only the keys count.
abbrev pub Keys : Type 0
Keys = Kept (Unit {0})

-- The length of a block of a file in bytes.
abbrev pub block_len : FileTree → ℕ → ℕ → ℕ → ℕ
block_len tree block file n = min block (size_of tree file - n * block)

-- A block of a file is used.
abbrev pub key_used : ℕ → BlockKey → Keys → Keys
key_used capacity key keys =
    if is_some (lookup (same_key key) keys.entries) then count_hit key keys else missed_with capacity key tt keys

-- m blocks of a file from the n-th on are used, up to one that isn't whole.
abbrev pub keys_used : FileTree → ℕ → ℕ → Name → ℕ → ℕ → ℕ → Keys → Keys
keys_used tree block capacity name file n zero keys = keys
keys_used tree block capacity name file n (suc m) keys =
    if nat_lt (block_len tree block file n) block then key_used capacity (key_of name n) keys
    else keys_used tree block capacity name file (n + 1) m (key_used capacity (key_of name n) keys)

-- If there is no file, the first block is refused.
abbrev pub keys_got : FileTree → ℕ → ℕ → Name → ℕ → ℕ → Option Node → Keys → Keys
keys_got tree block capacity name n m (Some (node.File file)) keys = keys_used tree block capacity name file n m keys
keys_got tree block capacity name n m other keys = count_miss keys

-- The blocks after one operation.
abbrev pub kept_op : ℕ → ℕ → ViewOp → FileTree → Keys → Keys
kept_op block capacity (op.Get path offset len) tree keys =
    if len == 0 then keys
    else if passes_length path then keys
    else keys_got tree block capacity (components path) (first_block block offset) (block_count block offset len)
    (node_at tree (components path)) keys
kept_op block capacity (op.Put path offset content) tree keys =
    if passes_length path then keys else without_blocks_of (components path) keys

-- The blocks after all operations, if a WRITE carries at most `write_len` bytes.
abbrev pub kept_from : ℕ → ℕ → ℕ → List ViewOp → FileTree → Keys → Keys
kept_from block capacity write_len [] tree keys = keys
kept_from block capacity write_len (o ∷ ops) tree keys =
    kept_from block capacity write_len ops (plain_op write_len o tree).1 (kept_op block capacity o tree keys)

abbrev pub kept_keys : ℕ → ℕ → ℕ → List ViewOp → FileTree → Keys
kept_keys block capacity write_len ops tree = kept_from block capacity write_len ops tree nothing_kept
