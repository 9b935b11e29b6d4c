-- believed
-- Trees of files, and how actions change them.
use Rattle.std.specs.Prelude.{
  ◌≡◌,
  ◌≢◌,
  ◌⊎◌,
  ℕ,
  Bool,
  true,
  false,
  List,
  [],
  ◌∷◌,
  Some,
  None,
  if◌then◌else◌,
}
use Rattle.std.specs.Str.{bytes_eq}
use Rattle.transfer_sync.specs.Entries.{entry_of_path, has_open_directory}
use Rattle.transfer_sync.specs.Paths.{directory_of}
use Rattle.transfer_sync.specs.declared.action.Action.{Action}
use Rattle.transfer_sync.specs.declared.action.Step.{Step}
use Rattle.transfer_sync.specs.declared.action.Step.TheVariants.{
  RemoveFile,
  RemoveDirectory,
  MakeDirectory,
  CopyFile,
  MakeLink,
  SetAttributes,
}
use Rattle.transfer_sync.specs.declared.entry.Entry.{Entry}
use Rattle.transfer_sync.specs.declared.entry.Kind.{Kind}
use Rattle.transfer_sync.specs.declared.entry.Kind.TheVariants.{File, Directory, Link, Other}

-- What a path has: nothing, a directory, a file with its bytes, a symbolic link with its text, or something else.
pub data Node : Type 0 where
  Nothing : Node
  DirectoryNode : Node
  FileNode : List ℕ → Node
  LinkNode : List ℕ → Node
  OtherNode : Node

-- What each path below a root has. The empty path is the root.
abbrev pub Tree : Type 0
Tree = List ℕ → Node

-- The bytes of the files, by their paths.
abbrev pub BytesByPath : Type 0
BytesByPath = List ℕ → List ℕ

-- The node of an entry; a file has these bytes.
abbrev pub node_of : List ℕ → Kind → Node
node_of bytes (File facts) = FileNode bytes
node_of bytes (Directory mode) = DirectoryNode
node_of bytes (Link text) = LinkNode text
node_of bytes Other = OtherNode

-- The tree is as a walk found it: each entry is at its path, and a directory whose entries are listed has no others.
-- An excluded directory may contain anything. Whatever exists is in a directory.
pub record IsTreeOf (entries : List Entry) (contents : BytesByPath) (tree : Tree) : Type 0 where
  pub root : tree [] ≡ DirectoryNode
  pub in_directory : (path : List ℕ) → (tree (directory_of path) ≡ DirectoryNode) ⊎ (tree path ≡ Nothing)
  pub listed : (path : List ℕ) (e : Entry) → entry_of_path entries path ≡ Some e
      → tree path ≡ node_of (contents path) e.kind
  pub unlisted : (path : List ℕ) → entry_of_path entries path ≡ None → path ≢ []
      → has_open_directory entries (directory_of path) ≡ true
      → tree path ≡ Nothing

-- ---- What an action does

-- What the path of an action has afterwards, if the file of the source has these bytes.
abbrev pub after_step : List ℕ → Step → Node → Node
after_step bytes RemoveFile old = Nothing
after_step bytes RemoveDirectory old = Nothing
after_step bytes MakeDirectory old = DirectoryNode
after_step bytes CopyFile old = FileNode bytes
after_step bytes (MakeLink text) old = LinkNode text
after_step bytes SetAttributes old = old

-- The tree after an action, which changes what its path has and nothing else.
abbrev pub tree_after : BytesByPath → Action → Tree → Tree
tree_after contents a tree =
    λ path. if bytes_eq path a.path then after_step (contents path) a.step (tree path) else tree path

-- The tree after these actions.
abbrev pub tree_after_all : BytesByPath → List Action → Tree → Tree
tree_after_all contents [] tree = tree
tree_after_all contents (a ∷ later) tree = tree_after_all contents later (tree_after contents a tree)

-- ---- When an action can be carried out

-- True if something exists that is no directory.
abbrev pub is_no_directory : Node → Bool
is_no_directory Nothing = false
is_no_directory DirectoryNode = false
is_no_directory (FileNode bytes) = true
is_no_directory (LinkNode text) = true
is_no_directory OtherNode = true

-- True if a file can be copied there.
abbrev pub may_have_file : Node → Bool
may_have_file Nothing = true
may_have_file DirectoryNode = false
may_have_file (FileNode bytes) = true
may_have_file (LinkNode text) = false
may_have_file OtherNode = false

-- True if a symbolic link can be created there.
abbrev pub may_have_link : Node → Bool
may_have_link Nothing = true
may_have_link DirectoryNode = false
may_have_link (FileNode bytes) = false
may_have_link (LinkNode text) = true
may_have_link OtherNode = false

-- True if permissions and times can be set.
abbrev pub has_attributes : Node → Bool
has_attributes Nothing = false
has_attributes DirectoryNode = true
has_attributes (FileNode bytes) = true
has_attributes (LinkNode text) = false
has_attributes OtherNode = false

-- The action can be carried out: what is removed exists, and a directory that is removed is empty. What is created is
-- in a directory that exists, and nothing is at its path, or a file or a link that it replaces.
abbrev pub CanApply : Tree → List ℕ → Step → Type 0
CanApply tree path RemoveFile = is_no_directory (tree path) ≡ true
CanApply tree path RemoveDirectory =
    (tree path ≡ DirectoryNode) × ((other : List ℕ) → directory_of other ≡ path → tree other ≡ Nothing)
CanApply tree path MakeDirectory = (tree (directory_of path) ≡ DirectoryNode) × (tree path ≡ Nothing)
CanApply tree path CopyFile = (tree (directory_of path) ≡ DirectoryNode) × (may_have_file (tree path) ≡ true)
CanApply tree path (MakeLink text) = (tree (directory_of path) ≡ DirectoryNode) × (may_have_link (tree path) ≡ true)
CanApply tree path SetAttributes = has_attributes (tree path) ≡ true

-- Each action can be carried out after those before it.
abbrev pub CanApplyAll : BytesByPath → List Action → Tree → Type 0
CanApplyAll contents [] tree = Unit {0}
CanApplyAll contents (a ∷ later) tree =
    CanApply tree a.path a.step × CanApplyAll contents later (tree_after contents a tree)
