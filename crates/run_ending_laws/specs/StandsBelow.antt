-- Names whose directories are created.
use Rattle.std.specs.Prelude.{◌≡◌, ◌≢◌, ◌<◌, ◌≤◌, ℕ, suc, false, List, [], ◌∷◌, length, take, Option, Some, None}
use Rattle.machine_model.specs.Components.{Name, components, is_long_name}
use Rattle.machine_model.specs.FileTree.{FileTree, node_at}
use Rattle.machine_model.specs.declared.node.Node.{Node}
use Rattle.machine_model.specs.declared.node.Node.TheVariants as node
use Rattle.plan_model.proofs.Among.{Among}
use Rattle.sftp_model.specs.Frames.{is_too_long}
use Rattle.plan_model.specs.declared.call.Call.TheVariants as call
use Rattle.plan_model.specs.declared.call.Lane.{Lane}
use Rattle.run_laws.specs.ReadsBack.{call_in}
use Rattle.run_ending_laws.specs.FirstMkdirs.{mkdir_of}

-- ---- The file or directory of a name

-- No directory exists.
abbrev pub NoDirectory : Option Node → Type 0
NoDirectory None = Unit {0}
NoDirectory (Some node.Directory) = ⊥
NoDirectory (Some (node.File file)) = Unit {0}

-- No file exists.
abbrev pub NoFile : Option Node → Type 0
NoFile None = Unit {0}
NoFile (Some node.Directory) = Unit {0}
NoFile (Some (node.File file)) = ⊥

-- ---- The directories above a name

-- The first i components of a name.
abbrev pub first_parts : Name → ℕ → Name
first_parts name i = take i name

-- No name above it is a file.
abbrev pub NoneFiles : FileTree → Name → Type 0
NoneFiles tree name = (i : ℕ) → i < length name → NoFile (node_at tree (first_parts name i))

-- No component of it is long.
abbrev pub NoneLong : Name → Type 0
NoneLong name = (i : ℕ) → i < length name → is_long_name (first_parts name (suc i)) ≡ false

-- The MKDIR of a path may be asked, and it creates the directory.
pub record MakesDirectory (path : List ℕ) (name : Name) (i : ℕ) : Type 0 where
  pub fits : is_too_long (mkdir_of path) ≡ false
  pub is : components path ≡ first_parts name i

-- The directory of the first i components is still to be created, by one of these paths.
pub record IsToMake (paths : List (List ℕ)) (name : Name) (i : ℕ) : Type 0 where
  pub path : List ℕ
  pub there : Among path paths
  pub makes : MakesDirectory path name i

-- The directories below the k-th are still to be created.
abbrev pub AreToMake : List (List ℕ) → Name → ℕ → Type 0
AreToMake paths name k = (i : ℕ) → k < i → i < length name → IsToMake paths name i

-- Each of these directories lies no deeper than those after it.
abbrev pub AreDeeper : List (List ℕ) → Type 0
AreDeeper [] = Unit {0}
AreDeeper (path ∷ paths) = ((other : List ℕ) → Among other paths → length (components path) ≤ length (components other))
    × AreDeeper paths

-- A name that no directory has, and above which no file exists. These MKDIRs create the directories above it.
pub record StandsBelow (tree : FileTree) (paths : List (List ℕ)) (name : Name) : Type 0 where
  pub some : 0 < length name
  pub short : NoneLong name
  pub deeper : AreDeeper paths
  pub needs : AreToMake paths name 0
  pub files : NoneFiles tree name
  pub free : NoDirectory (node_at tree name)

-- The lanes' MKDIRs are of other names.
abbrev pub MakeOthers : List Lane → Name → Type 0
MakeOthers lanes name = (lane k : ℕ) (path : List ℕ) → call_in lanes lane k ≡ Some (call.Mkdir path)
    → components path ≢ name
