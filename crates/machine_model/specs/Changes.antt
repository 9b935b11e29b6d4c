-- believed: IsWellFormed
-- The changes that a request may make to a tree.
use Rattle.std.specs.Prelude.{◌≡◌, ◌≢◌, ◌<◌, ℕ, ◌⊎◌, Bool, true, false, ◌||◌, List, [], length, Some, None, drop, ◌≤◌}
use Rattle.sftp_model.specs.declared.reply.NameEntry.{NameEntry}
use Rattle.sftp_model.specs.declared.reply.Reply.TheVariants as reply
use Rattle.sftp_model.specs.declared.request.Request.{Request}
use Rattle.sftp_model.specs.declared.request.Request.TheVariants as request
use Rattle.machine_model.specs.declared.node.Node.TheVariants as node
use Rattle.machine_model.specs.declared.opened.Opened.TheVariants as opened
use Rattle.sftp_model.specs.Answers.{is_handle}
use Rattle.machine_model.specs.Components.{Name, components, is_long_name, is_within, parent_of}
use Rattle.machine_model.specs.FileTree.{
  FileTree,
  after_loss,
  entries_of,
  file_of,
  is_directory,
  node_at,
  opened_at,
  with_bytes,
  with_file,
  with_handle,
  with_name,
  with_renamed,
  without_handle,
  without_name,
}
use Rattle.machine_model.specs.HandleRequests.{Answer, creates, held_by, truncates}
use Rattle.machine_model.specs.Limits.{MAX_FILE_LEN}
use Rattle.machine_model.specs.NameRequests.{entries_at, has_child, with_entries}
use Rattle.machine_model.specs.Pairs.{HasEntry}
use Rattle.machine_model.specs.declared.node.Node.{Node}
use Rattle.machine_model.specs.declared.opened.Held.{Held}
use Rattle.machine_model.specs.declared.opened.Opened.{Opened}

-- ---- The names, files and handles of a request

-- True for the flags of an OPEN with CREAT or TRUNC.
abbrev pub makes_or_empties : ℕ → Bool
makes_or_empties flags = creates flags || truncates flags

-- The request asks to open the name.
abbrev pub AsksToOpen : Request → Name → Type 0
AsksToOpen (request.OpenFile path flags attrs) name = components path ≡ name
AsksToOpen other name = ⊥

-- The request may create or remove the name's file or directory, or truncate or resize its file.
abbrev pub DenotesName : Request → Name → Type 0
DenotesName (request.OpenFile path flags attrs) name = (makes_or_empties flags.0 ≡ true) × (components path ≡ name)
DenotesName (request.Setstat path attrs) name = components path ≡ name
DenotesName (request.Remove path) name = components path ≡ name
DenotesName (request.Mkdir path attrs) name = components path ≡ name
DenotesName (request.Rmdir path) name = components path ≡ name
DenotesName other name = ⊥

-- The request may move one name to the other.
abbrev pub MovesName : Request → Name → Name → Type 0
MovesName (request.Rename from into) old to = (components from ≡ old) × (components into ≡ to)
MovesName (request.PosixRename from into) old to = (components from ≡ old) × (components into ≡ to)
MovesName other old to = ⊥

-- The handle has the file.
abbrev pub IsOpenOn : FileTree → List ℕ → ℕ → Type 0
IsOpenOn tree handle file = (held : Held) × ((file_of (opened_at tree handle) ≡ Some held) × (held.file ≡ file))

-- The request may write to the file by a handle.
abbrev pub WritesTo : FileTree → Request → ℕ → Type 0
WritesTo tree (request.Write handle offset content) file = IsOpenOn tree handle file
WritesTo tree (request.Fsetstat handle attrs) file = IsOpenOn tree handle file
WritesTo tree (request.CopyData from from_offset len to to_offset) file = IsOpenOn tree to file
WritesTo tree other file = ⊥

-- The request closes the handle.
abbrev pub ClosesHandle : Request → List ℕ → Type 0
ClosesHandle (request.Close handle) h = handle ≡ h
ClosesHandle other h = ⊥

-- The request takes further entries of the handle.
abbrev pub ListsEntries : Request → List ℕ → Type 0
ListsEntries (request.Readdir handle) h = handle ≡ h
ListsEntries other h = ⊥

-- ---- Trees

-- Each file has its number, and at most one name has it.
pub record IsWellFormed (tree : FileTree) : Type 0 where
  pub named : (name : Name) (file : ℕ) → HasEntry tree.names (name, node.File file) → file < length tree.files
  pub held : (handle : List ℕ) (held : Held) → HasEntry tree.handles (handle, opened.File held)
      → held.file < length tree.files
  pub alone : (a b : Name) (file : ℕ) → HasEntry tree.names (a, node.File file)
      → HasEntry tree.names (b, node.File file) → a ≡ b

-- The handle has the file open.
abbrev pub HasOpen : FileTree → List ℕ → ℕ → Type 0
HasOpen tree handle file = (held : Held) × (HasEntry tree.handles (handle, opened.File held) × (held.file ≡ file))

-- ---- Changes

-- The changes that a request may make.
pub data Change : Type 0 where
  Unchanged : Change
  Rewritten : ℕ → List ℕ → Change
  Granted : Opened → Change
  Truncated : ℕ → Opened → Change
  Created : Name → Opened → Change
  ClosedDirectory : List ℕ → Change
  ClosedFile : List ℕ → ℕ → Change
  Listed : List ℕ → List NameEntry → Change
  MadeDirectory : Name → Change
  RemovedDirectory : Name → Change
  RemovedFile : Name → ℕ → Change
  Renamed : Name → Name → Change
  Replaced : Name → Name → ℕ → Change

-- The tree after a change; `handle` is the granted one.
abbrev pub tree_after_change : FileTree → List ℕ → Change → FileTree
tree_after_change tree handle Unchanged = tree
tree_after_change tree handle (Rewritten file bytes) = with_bytes tree file bytes
tree_after_change tree handle (Granted o) = with_handle tree handle o
tree_after_change tree handle (Truncated file o) = with_handle (with_bytes tree file []) handle o
tree_after_change tree handle (Created name o) = with_handle (with_file tree name) handle o
tree_after_change tree handle (ClosedDirectory h) = without_handle tree h
tree_after_change tree handle (ClosedFile h file) = after_loss (without_handle tree h) file
tree_after_change tree handle (Listed h entries) = with_entries tree h entries
tree_after_change tree handle (MadeDirectory name) = with_name tree name node.Directory
tree_after_change tree handle (RemovedDirectory name) = without_name tree name
tree_after_change tree handle (RemovedFile name file) = after_loss (without_name tree name) file
tree_after_change tree handle (Renamed old to) = with_renamed tree old to
tree_after_change tree handle (Replaced old to gone) = after_loss (with_renamed (without_name tree to) old to) gone

-- A file that is opened has this number.
abbrev pub OpensFile : ℕ → Opened → Type 0
OpensFile file (opened.File held) = held.file ≡ file
OpensFile file (opened.Directory entries) = ⊥

-- A file that is opened is one that the name has.
abbrev pub OpensNamed : FileTree → Request → Opened → Type 0
OpensNamed tree r (opened.File held) = (name : Name) × (AsksToOpen r name
    × (node_at tree name ≡ Some (node.File held.file)))
OpensNamed tree r (opened.Directory entries) = Unit {0}

-- An OPEN has the file open as its flags say.
abbrev pub OpensAs : Request → Held → Type 0
OpensAs (request.OpenFile path flags attrs) held = opened.File held ≡ held_by flags.0 held.file
OpensAs other held = ⊥

-- A directory is opened, or a file that is open as the request's flags say.
abbrev pub OpensAsked : Request → Opened → Type 0
OpensAsked r (opened.File held) = OpensAs r held
OpensAsked r (opened.Directory entries) = Unit {0}

-- The file is one that the request writes to, or that a name has which the request denotes.
abbrev pub ReachesFile : FileTree → Request → ℕ → Type 0
ReachesFile tree r file = WritesTo tree r file ⊎ ((name : Name) ×
    (DenotesName r name × (node_at tree name ≡ Some (node.File file))))

-- The request may lead to the change.
abbrev pub MayLead : FileTree → Request → Change → Type 0
MayLead tree r Unchanged = Unit {0}
MayLead tree r (Rewritten file bytes) = ReachesFile tree r file
MayLead tree r (Granted o) = OpensNamed tree r o × OpensAsked r o
MayLead tree r (Truncated file o) = ReachesFile tree r file × OpensFile file o × OpensNamed tree r o × OpensAsked r o
MayLead tree r (Created name o) = DenotesName r name × (node_at tree name ≡ None) × OpensFile (length tree.files) o
    × OpensAsked r o
MayLead tree r (ClosedDirectory h) = ClosesHandle r h
MayLead tree r (ClosedFile h file) = ClosesHandle r h
MayLead tree r (Listed h entries) = (old : List NameEntry) × (entries_of (opened_at tree h) ≡ Some old)
    × ListsEntries r h
MayLead tree r (MadeDirectory name) = DenotesName r name
MayLead tree r (RemovedDirectory name) = DenotesName r name
MayLead tree r (RemovedFile name file) = DenotesName r name
MayLead tree r (Renamed old to) = MovesName r old to
MayLead tree r (Replaced old to gone) = MovesName r old to

-- ---- Conditions of changes

-- A new name does not exist, its parent is a directory, and its last component is not long.
abbrev pub MayStand : FileTree → Name → Type 0
MayStand tree name = (node_at tree name ≡ None) × (is_directory (node_at tree (parent_of name)) ≡ true)
    × (is_long_name name ≡ false)

-- A directory that is removed exists, is not the root, and is empty.
abbrev pub MayGo : FileTree → Name → Type 0
MayGo tree name = (node_at tree name ≡ Some node.Directory) × (name ≢ []) × (has_child tree name ≡ false)

-- A name that is moved exists, and the new one is not within it.
abbrev pub MayMove : FileTree → Name → Name → Type 0
MayMove tree old to = (n : Node) × (node_at tree old ≡ Some n) × (is_within old to ≡ false)

-- A file replaces another file, and neither name is within the other.
abbrev pub MayReplace : FileTree → Name → Name → ℕ → Type 0
MayReplace tree old to gone = (file : ℕ) × (node_at tree old ≡ Some (node.File file))
    × (node_at tree to ≡ Some (node.File gone)) × (is_within old to ≡ false) × (is_within to old ≡ false)

-- A directory that is opened is opened with the entries of some name.
abbrev pub HasEntries : FileTree → Opened → Type 0
HasEntries tree (opened.File held) = Unit {0}
HasEntries tree (opened.Directory entries) = (name : Name) × (entries ≡ entries_at tree name)

-- The conditions that were checked before a change.
abbrev pub WasChecked : FileTree → Change → Type 0
WasChecked tree (Rewritten file bytes) = length bytes ≤ MAX_FILE_LEN
WasChecked tree (Granted o) = HasEntries tree o
WasChecked tree (Truncated file o) = HasEntries tree o
WasChecked tree (Created name o) = MayStand tree name × HasEntries tree o
WasChecked tree (Listed h entries) = (old : List NameEntry) × (k : ℕ) × (entries_of (opened_at tree h) ≡ Some old)
    × (entries ≡ drop k old)
WasChecked tree (MadeDirectory name) = MayStand tree name
WasChecked tree (RemovedDirectory name) = MayGo tree name
WasChecked tree (RemovedFile name file) = node_at tree name ≡ Some (node.File file)
WasChecked tree (Renamed old to) = MayMove tree old to × MayStand tree to
WasChecked tree (Replaced old to gone) = MayReplace tree old to gone
WasChecked tree other = Unit {0}

-- True if the change grants the handle.
abbrev pub is_grant : Change → Bool
is_grant (Granted o) = true
is_grant (Truncated file o) = true
is_grant (Created name o) = true
is_grant other = false

-- A reply that leaves the tree of one of the changes. It is a HANDLE, with the granted handle, if the change grants it.
pub record LeavesChanged (tree : FileTree) (r : Request) (handle : List ℕ) (x : Answer) : Type 0 where
  pub change : Change
  pub may : MayLead tree r change
  pub checked : WasChecked tree change
  pub is : x.1 ≡ tree_after_change tree handle change
  pub said : is_handle x.0 ≡ is_grant change
  pub named : is_handle x.0 ≡ true → x.0 ≡ reply.Handle handle
