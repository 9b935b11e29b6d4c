-- Which handles have a file after a request: those that had it, and one that an OPEN of a name of it was granted.
use Rattle.std.proofs.Common.{◌≡◌, ◌≢◌, ℕ, ◌<◌, Bool, true, false, List, [], ◌∷◌, ◌++◌, length, Some, ap, subst, arith, inl, inr}
use Rattle.std.specs.Str.{bytes_eq}
use Rattle.sftp_model.specs.declared.config.Choice.{Choice}
use Rattle.sftp_model.specs.declared.config.ServerConfig.{ServerConfig}
use Rattle.sftp_model.specs.declared.request.Request.{Request}
use Rattle.machine_model.specs.declared.node.Node.TheVariants as node
use Rattle.machine_model.specs.declared.opened.Opened.TheVariants as opened
use Rattle.machine_model.proofs.ChangeLaws.{apply_leaves}
use Rattle.machine_model.proofs.LossLaws.{loss_handles, name_has}
use Rattle.machine_model.proofs.PairLaws.{has_push, has_replaced, has_without}
use Rattle.machine_model.specs.Changes.{
  AsksToOpen,
  Change,
  ClosedDirectory,
  ClosedFile,
  Created,
  Granted,
  IsWellFormed,
  Listed,
  MadeDirectory,
  MayLead,
  OpensFile,
  OpensNamed,
  RemovedDirectory,
  RemovedFile,
  Renamed,
  Replaced,
  Rewritten,
  Truncated,
  Unchanged,
  tree_after_change,
  HasOpen,
}
use Rattle.machine_model.specs.Components.{Name}
use Rattle.machine_model.specs.FileTree.{FileTree, node_at, with_renamed, without_handle, without_name}
use Rattle.machine_model.specs.Pairs.{HasEntry}
use Rattle.machine_model.specs.TreeAnswers.{apply}
use Rattle.machine_model.specs.declared.opened.Held.{Held}
use Rattle.machine_model.specs.declared.opened.Opened.{Opened}

-- what is pushed has another file than the name's
abbrev NotFile : ℕ → Opened → Type 0
NotFile file (opened.File held) = held.file ≢ file
NotFile file (opened.Directory entries) = Unit {0}

pushed : (tree : FileTree) (handle : List ℕ) (o : Opened) (h : List ℕ) (file : ℕ) → NotFile file o → (held : Held)
    → HasEntry (tree.handles ++ (handle, o) ∷ []) (h, opened.File held) → held.file ≡ file → HasOpen tree h file
pushed tree handle o h file not held has same = elim (has_push tree.handles (handle, o) (h, opened.File held) has) [
  | inl old ↦ (held, (old, same))
  | inr e ↦ absurd (let other : NotFile file (opened.File held) =
      subst (NotFile file) (ap (λ (w : List ℕ × Opened). w.1) e) not in other same)
]

named_not : (tree : FileTree) (r : Request) (name : Name) (file : ℕ) (o : Opened) → IsWellFormed tree
    → (AsksToOpen r name → ⊥) → node_at tree name ≡ Some (node.File file) → OpensNamed tree r o → NotFile file o
named_not tree r name file (opened.File held) sound avoids e opens = λ same.
    avoids (subst (AsksToOpen r) (sound.alone opens.0 name file
    (subst (λ (k : ℕ). HasEntry tree.names (opens.0, node.File k)) same
    (name_has tree opens.0 held.file opens.1.1)) (name_has tree name file e)) opens.1.0)
named_not tree r name file (opened.Directory entries) sound avoids e opens = tt

new_not : (tree : FileTree) (file : ℕ) (o : Opened) → file < length tree.files → OpensFile (length tree.files) o
    → NotFile file o
new_not tree file (opened.File held) lt is = λ same. (let e : held.file ≡ length tree.files = is in
    omega (arith, e, same, lt))
new_not tree file (opened.Directory entries) lt is = tt

abbrev opened_value : Opened → Bool
opened_value (opened.File held) = true
opened_value (opened.Directory entries) = false

opens_by : (tree : FileTree) (r : Request) (handle : List ℕ) (name : Name) (file : ℕ) (c : Change) (h : List ℕ)
    → IsWellFormed tree → (AsksToOpen r name → ⊥) → node_at tree name ≡ Some (node.File file) → MayLead tree r c
    → HasOpen (tree_after_change tree handle c) h file → HasOpen tree h file
opens_by tree r handle name file Unchanged h sound avoids e may o = o
opens_by tree r handle name file (Rewritten other bytes) h sound avoids e may o = o
opens_by tree r handle name file (Granted new) h sound avoids e may o =
    pushed tree handle new h file (named_not tree r name file new sound avoids e may.0) o.0 o.1.0 o.1.1
opens_by tree r handle name file (Truncated other new) h sound avoids e may o =
    pushed tree handle new h file (named_not tree r name file new sound avoids e may.2) o.0 o.1.0 o.1.1
opens_by tree r handle name file (Created other new) h sound avoids e may o =
    pushed tree handle new h file (new_not tree file new (sound.named name file (name_has tree name file e)) may.2) o.0
    o.1.0 o.1.1
opens_by tree r handle name file (ClosedDirectory gone) h sound avoids e may o =
    (o.0, (has_without bytes_eq tree.handles gone (h, opened.File o.0) o.1.0, o.1.1))
opens_by tree r handle name file (ClosedFile gone other) h sound avoids e may o = (
  o.0,
  (
    has_without bytes_eq tree.handles gone (h, opened.File o.0)
        (subst (λ (w : List (List ℕ × Opened)). HasEntry w (h, opened.File o.0))
        (loss_handles (without_handle tree gone) other) o.1.0),
    o.1.1,
  ),
)
opens_by tree r handle name file (Listed at entries) h sound avoids e may o =
    elim (has_replaced bytes_eq tree.handles at (opened.Directory entries) (h, opened.File o.0) o.1.0) [
      | inl old ↦ (o.0, (old, o.1.1))
      | inr is ↦ absurd (let no : true ≡ false = ap opened_value is in cc)
    ]
opens_by tree r handle name file (MadeDirectory other) h sound avoids e may o = o
opens_by tree r handle name file (RemovedDirectory other) h sound avoids e may o = o
opens_by tree r handle name file (RemovedFile other gone) h sound avoids e may o = (
  o.0,
  (
    subst (λ (w : List (List ℕ × Opened)). HasEntry w (h, opened.File o.0))
        (loss_handles (without_name tree other) gone) o.1.0,
    o.1.1,
  ),
)
opens_by tree r handle name file (Renamed old to) h sound avoids e may o = o
opens_by tree r handle name file (Replaced old to gone) h sound avoids e may o = (
  o.0,
  (
    subst (λ (w : List (List ℕ × Opened)). HasEntry w (h, opened.File o.0))
        (loss_handles (with_renamed (without_name tree to) old to) gone) o.1.0,
    o.1.1,
  ),
)

-- a request that doesn't ask to open a name opens its file by no further handle
pub none_opens : (tree : FileTree) (config : ServerConfig) (r : Request) (choice : Choice) (handle : List ℕ)
    (name : Name) (file : ℕ) (h : List ℕ) → IsWellFormed tree → (AsksToOpen r name → ⊥) → node_at tree name
    ≡ Some (node.File file)
    → HasOpen (apply tree config r choice handle).1 h file → HasOpen tree h file
none_opens tree config r choice handle name file h sound avoids e o =
    let l = apply_leaves tree config r choice handle in
    opens_by tree r handle name file l.change h sound avoids e l.may (subst (λ (w : FileTree). HasOpen w h file) l.is o)
