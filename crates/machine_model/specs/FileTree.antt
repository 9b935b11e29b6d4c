-- believed
-- The files and directories of a server in memory, and the handles that are open.
use Rattle.std.specs.Prelude.{
  ℕ,
  ◌+◌,
  ◌-◌,
  ◌==◌,
  Bool,
  true,
  false,
  ◌||◌,
  List,
  [],
  ◌∷◌,
  ◌++◌,
  length,
  take,
  drop,
  map,
  replicate,
  Option,
  Some,
  None,
  nat_lt,
  if◌then◌else◌,
  slice_index_or,
  slice_set,
}
use Rattle.std.specs.List.{list_any, sum_by}
use Rattle.std.specs.Str.{bytes_eq}
use Rattle.sftp_model.specs.declared.file_attrs.FileAttrs.{FileAttrs}
use Rattle.sftp_model.specs.declared.reply.NameEntry.{NameEntry}
use Rattle.machine_model.specs.declared.node.Node.TheVariants as node
use Rattle.machine_model.specs.declared.opened.Opened.TheVariants as opened
use Rattle.machine_model.specs.Components.{Name, moved_name, same_name}
use Rattle.machine_model.specs.Limits.{DIRECTORY_PERMISSIONS, MAX_FILE_LEN, MAX_TOTAL_LEN}
use Rattle.machine_model.specs.declared.node.Node.{Node}
use Rattle.machine_model.specs.declared.opened.Held.{Held}
use Rattle.machine_model.specs.declared.opened.Opened.{Opened}

-- Names with their files and directories, except the root, which is always a directory; the bytes of files by their
-- numbers; and handles with the files and directories that they have open.
--
-- A file keeps its number permanently. A file that neither a name nor a handle has is empty.
pub record FileTree : Type 0 where
  pub names : List (Name × Node)
  pub files : List (List ℕ)
  pub handles : List (List ℕ × Opened)

-- ---- Lists of pairs

-- The value at a key.
abbrev pub value_at_key : {K V : Type 0} → (K → K → Bool) → List (K × V) → K → Option V
value_at_key same [] key = None
value_at_key same (pair ∷ pairs) key = if same pair.0 key then Some pair.1 else value_at_key same pairs key

-- The pairs except the first with a key.
abbrev pub without_key : {K V : Type 0} → (K → K → Bool) → List (K × V) → K → List (K × V)
without_key same [] key = []
without_key same (pair ∷ pairs) key = if same pair.0 key then pairs else pair ∷ without_key same pairs key

-- The pairs, in which the first with a key has a new value.
abbrev pub with_value_at : {K V : Type 0} → (K → K → Bool) → List (K × V) → K → V → List (K × V)
with_value_at same [] key value = []
with_value_at same (pair ∷ pairs) key value = if same pair.0 key then (key, value) ∷ pairs else
    pair ∷ with_value_at same pairs key value

-- ---- Contents

-- The file or directory of a name.
abbrev pub node_at : FileTree → Name → Option Node
node_at tree [] = Some node.Directory
node_at tree (part ∷ parts) = value_at_key same_name tree.names (part ∷ parts)

-- The file or directory that a handle has open.
abbrev pub opened_at : FileTree → List ℕ → Option Opened
opened_at tree handle = value_at_key bytes_eq tree.handles handle

-- The file that is open, if one is.
abbrev pub file_of : Option Opened → Option Held
file_of None = None
file_of (Some (opened.File held)) = Some held
file_of (Some (opened.Directory entries)) = None

-- The entries that are still to be listed, if a directory is open.
abbrev pub entries_of : Option Opened → Option (List NameEntry)
entries_of None = None
entries_of (Some (opened.File held)) = None
entries_of (Some (opened.Directory entries)) = Some entries

-- True if a directory exists.
abbrev pub is_directory : Option Node → Bool
is_directory None = false
is_directory (Some node.Directory) = true
is_directory (Some (node.File file)) = false

-- The bytes of a file.
abbrev pub bytes_of : FileTree → ℕ → List ℕ
bytes_of tree file = slice_index_or tree.files file []

-- The number of bytes of a file.
abbrev pub size_of : FileTree → ℕ → ℕ
size_of tree file = length (bytes_of tree file)

-- The attributes that are reported: of a file only its size, of a directory only its permissions.
abbrev pub attributes_of : FileTree → Node → FileAttrs
attributes_of tree node.Directory = record {
  size = None;
  id = None;
  permissions = Some DIRECTORY_PERMISSIONS;
  time =
      None;
}
attributes_of tree (node.File file) = record {
  size = Some (size_of tree file);
  id = None;
  permissions = None;
  time =
      None;
}

-- ---- Sizes

-- The number of bytes of all files, including those that exist only by a handle.
abbrev pub all_bytes : FileTree → ℕ
all_bytes tree = sum_by length tree.files

-- True if the file may not have this size: it passes the limit of one file, or with the others the limit of all.
abbrev pub is_over : FileTree → ℕ → ℕ → Bool
is_over tree file size = nat_lt MAX_FILE_LEN size || nat_lt MAX_TOTAL_LEN (all_bytes tree - size_of tree file + size)

-- Bytes that were truncated or filled with zeros.
abbrev pub resized_bytes : ℕ → List ℕ → List ℕ
resized_bytes size bytes = take size bytes ++ replicate (size - length bytes) 0

-- Bytes with a piece written at an offset; zeros fill a gap.
abbrev pub written_at : List ℕ → ℕ → List ℕ → List ℕ
written_at bytes offset piece = resized_bytes offset bytes ++ piece ++ drop (offset + length piece) bytes

-- ---- Effects of a request

-- The tree with new bytes in a file.
abbrev pub with_bytes : FileTree → ℕ → List ℕ → FileTree
with_bytes tree file bytes = record tree { files = slice_set tree.files file bytes }

-- The tree with another name.
abbrev pub with_name : FileTree → Name → Node → FileTree
with_name tree name n = record tree { names = tree.names ++ (name, n) ∷ [] }

-- The tree with another empty file, under a name.
abbrev pub with_file : FileTree → Name → FileTree
with_file tree name = record tree {
  names = tree.names ++ (name, node.File (length tree.files)) ∷ [];
  files = tree.files
      ++ [] ∷ [];
}

-- The tree without a name.
abbrev pub without_name : FileTree → Name → FileTree
without_name tree name = record tree { names = without_key same_name tree.names name }

-- The tree in which the old name, and all names within it, are moved.
abbrev pub with_renamed : FileTree → Name → Name → FileTree
with_renamed tree old to = record tree { names = map (λ pair. (moved_name old to pair.0, pair.1)) tree.names }

-- The tree with another handle.
abbrev pub with_handle : FileTree → List ℕ → Opened → FileTree
with_handle tree handle o = record tree { handles = tree.handles ++ (handle, o) ∷ [] }

-- The tree without a handle.
abbrev pub without_handle : FileTree → List ℕ → FileTree
without_handle tree handle = record tree { handles = without_key bytes_eq tree.handles handle }

-- ---- Files exist while a name or a handle has them

-- True if a name has the file.
abbrev pub names_file : ℕ → Node → Bool
names_file file node.Directory = false
names_file file (node.File n) = n == file

-- True if a handle has the file.
abbrev pub opens_file : ℕ → Opened → Bool
opens_file file (opened.File held) = held.file == file
opens_file file (opened.Directory entries) = false

-- True if a name or a handle has the file.
abbrev pub is_file_in_use : FileTree → ℕ → Bool
is_file_in_use tree file = list_any (λ pair. names_file file pair.1) tree.names
    || list_any (λ pair. opens_file file pair.1) tree.handles

-- The file's bytes are dropped if no name and no handle has it any longer.
abbrev pub after_loss : FileTree → ℕ → FileTree
after_loss tree file = if is_file_in_use tree file then tree else with_bytes tree file []
