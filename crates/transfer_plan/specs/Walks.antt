-- The entries that a walk has found so far.
use Rattle.std.specs.Prelude.{
  ◌≡◌,
  ◌≢◌,
  ◌<◌,
  ◌≤◌,
  ℕ,
  Bool,
  true,
  false,
  List,
  [],
  ◌∷◌,
  ◌++◌,
  length,
  Option,
  Some,
  None,
  Result,
  Ok,
  Err,
}
use Rattle.std.specs.List.{slice_get}
use Rattle.sftp_model.specs.declared.file_attrs.FileAttrs.{FileAttrs}
use Rattle.transfer_plan.specs.Names.{StaysIn}
use Rattle.transfer_plan.specs.Entries.{MAX_DEPTH, entry_found}
use Rattle.transfer_plan.specs.declared.found.Found.{Found}
use Rattle.transfer_plan.specs.declared.task.EntryKind.{EntryKind}
use Rattle.transfer_plan.specs.declared.task.Task.TheVariants as task
use Rattle.transfer_plan.specs.declared.walk.WalkError.{WalkError}
use Rattle.transfer_plan.specs.declared.walk.WalkError.TheVariants as error

-- The most entries that a walk may have, including its root.
abbrev pub MAX_ENTRIES : ℕ
MAX_ENTRIES = 1000000

-- The entries found, in order; the place of the directory whose entries are being added; and a flag that is true if
-- names must be UTF-8.
pub record WalkValue : Type 0 where
  pub found : List Found
  pub at : ℕ
  pub texts : Bool

-- It is an entry of a directory that was found before it.
pub record IsEntryOf (texts : Bool) (found : List Found) (place : ℕ) (entry : Found) : Type 0 where
  pub at : ℕ
  pub folder : Found
  pub name : List ℕ
  pub kind : EntryKind
  pub attrs : FileAttrs
  pub before : at < place
  pub stands : slice_get found at ≡ Some folder
  pub is_folder : folder.task ≡ task.MakeFolder
  pub is : entry ≡ entry_found texts folder name kind attrs

-- Each target stays in the target of the root, and each entry except the root is an entry of a directory before it. One
-- of the directories is being listed.
pub record IsWalk (w : WalkValue) : Type 0 where
  pub root : Found
  pub first : slice_get w.found 0 ≡ Some root
  pub stays : (place : ℕ) (entry : Found) → slice_get w.found place ≡ Some entry → StaysIn root.target entry.target
  pub entries : (place : ℕ) (entry : Found) → 0 < place → slice_get w.found place ≡ Some entry
      → IsEntryOf w.texts w.found place entry
  pub shallow : (place : ℕ) (entry : Found) → slice_get w.found place ≡ Some entry → entry.task ≡ task.MakeFolder
      → entry.depth ≤ MAX_DEPTH
  pub within : w.at < length w.found
  pub folder : Found
  pub listed : slice_get w.found w.at ≡ Some folder
  pub is_folder : folder.task ≡ task.MakeFolder

-- No entry between these two places is a directory.
abbrev pub NoFolder : List Found → ℕ → ℕ → Type 0
NoFolder found from to = (place : ℕ) (f : Found) → from < place → place < to → slice_get found place ≡ Some f
    → f.task ≢ task.MakeFolder

-- The walk after an entry of the listed directory was added.
abbrev pub with_entry : WalkValue → Found → WalkValue
with_entry w entry = record w { found = w.found ++ entry ∷ [] }

-- The entry is added once, after all others. If it is refused, nothing changes.
abbrev pub AddsEntry : List ℕ → EntryKind → FileAttrs → WalkValue → WalkValue → Result (Unit {0}) WalkError → Type 0
AddsEntry name kind attrs old new (Ok u) = (folder : Found) × (slice_get old.found old.at ≡ Some folder)
    × (new ≡ with_entry old (entry_found old.texts folder name kind attrs))
AddsEntry name kind attrs old new (Err error.TooMany) = (MAX_ENTRIES ≤ length old.found) × (new ≡ old)
AddsEntry name kind attrs old new (Err error.OutOfMemory) = new ≡ old

-- The walk at its start.
abbrev pub begun_walk : Found → Bool → WalkValue
begun_walk root texts = record { found = root ∷ []; at = 0; texts = texts }

-- The place of the first directory after a place.
abbrev pub IsNextFolder : List Found → ℕ → Option ℕ → Type 0
IsNextFolder found at (Some next) = (folder : Found) × (at < next) × (slice_get found next ≡ Some folder)
    × (folder.task ≡ task.MakeFolder)
    × NoFolder found at next
IsNextFolder found at None = NoFolder found at (length found)

-- The walk continues with the next directory after the listed one; if there is none, nothing changes.
abbrev pub GoesToNext : WalkValue → WalkValue → Bool → Type 0
GoesToNext old new true = (new ≡ record old { at = new.at }) × IsNextFolder old.found old.at (Some new.at)
GoesToNext old new false = (new ≡ old) × IsNextFolder old.found old.at None
