-- A request that spares a name leaves what the name has, and the bytes of its file.
use Rattle.std.proofs.Common.{◌≡◌, ◌≢◌, ℕ, Bool, true, false, List, [], ◌∷◌, length, Some, if◌then◌else◌, refl, ap, sym, ◌∙◌, subst, inl, inr}
use Rattle.std.proofs.lemmas.Bool.{both_ways, eq-eqb, or_left}
use Rattle.std.proofs.lemmas.Bool.Decides.{eqb_tells}
use Rattle.std.proofs.lemmas.List.{append-nil, get_or-set_other, get_or_append_left}
use Rattle.sftp_model.specs.declared.config.Choice.{Choice}
use Rattle.sftp_model.specs.declared.config.ServerConfig.{ServerConfig}
use Rattle.sftp_model.specs.declared.request.Request.{Request}
use Rattle.machine_model.specs.declared.node.Node.{Node}
use Rattle.machine_model.specs.declared.node.Node.TheVariants as node
use Rattle.machine_model.proofs.ChangeLaws.{apply_leaves}
use Rattle.machine_model.proofs.LossLaws.{found_at, loss_names, name_has}
use Rattle.machine_model.proofs.NameLaws.{names_tell}
use Rattle.machine_model.proofs.PairLaws.{differs, found_has, found_moved, found_push_other, found_without_other, has_any}
use Rattle.machine_model.proofs.WithinLaws.{within_join}
use Rattle.machine_model.specs.Changes.{
  Change,
  ClosedDirectory,
  ClosedFile,
  Created,
  DenotesName,
  Granted,
  IsWellFormed,
  Listed,
  MadeDirectory,
  MayLead,
  MovesName,
  ReachesFile,
  RemovedDirectory,
  RemovedFile,
  Renamed,
  Replaced,
  Rewritten,
  Truncated,
  Unchanged,
  WritesTo,
  tree_after_change,
}
use Rattle.machine_model.specs.Components.{Name, is_within, moved_name, same_name}
use Rattle.machine_model.specs.FileTree.{
  FileTree,
  after_loss,
  bytes_of,
  value_at_key,
  is_file_in_use,
  names_file,
  node_at,
  with_bytes,
  with_renamed,
  without_handle,
  without_name,
}
use Rattle.machine_model.specs.Pairs.{HasEntry}
use Rattle.machine_model.specs.TreeAnswers.{apply}
use Rattle.run_laws.specs.Sparing.{AvoidsName, SparesName}
use Rattle.run_laws.proofs.PathLaws.{moves_others}

-- ---- what a name has

pub at_found : (tree now : FileTree) (name : Name) → value_at_key same_name now.names name
    ≡ value_at_key same_name tree.names name → node_at now name ≡ node_at tree name
at_found tree now [] e = refl
at_found tree now (part ∷ parts) e = e

-- a name that is told apart from one that the request denotes
apart : (r : Request) (name other : Name) → AvoidsName name r → DenotesName r other → other ≢ name
apart r name other avoids d e = avoids.denotes (subst (DenotesName r) e d)

itself : (name : Name) → is_within name name ≡ false → ⊥
itself name e = both_ways (is_within name name) e (subst (λ (w : Name). is_within name w ≡ true) (append-nil name)
    (within_join name []))

replaced_found : (tree : FileTree) (r : Request) (name old to : Name) → AvoidsName name r → MovesName r old to
    → value_at_key same_name (with_renamed (without_name tree to) old to).names name
    ≡ value_at_key same_name tree.names name
replaced_found tree r name old to avoids d =
    let apart_two = avoids.moves old to d in
    found_moved same_name (moved_name old to) (without_name tree to).names name
    (λ k. moves_others old to name k apart_two.0 apart_two.1)
    ∙ found_without_other same_name names_tell tree.names to name
    (λ e. itself name (subst (λ (w : Name). is_within w name ≡ false) e apart_two.1))

found_stays : (tree : FileTree) (r : Request) (handle : List ℕ) (name : Name) (c : Change) → AvoidsName name r
    → MayLead tree r c → value_at_key same_name (tree_after_change tree handle c).names name
    ≡ value_at_key same_name tree.names name
found_stays tree r handle name Unchanged avoids may = refl
found_stays tree r handle name (Rewritten file bytes) avoids may = refl
found_stays tree r handle name (Granted o) avoids may = refl
found_stays tree r handle name (Truncated file o) avoids may = refl
found_stays tree r handle name (Created other o) avoids may =
    found_push_other same_name tree.names other name (node.File (length tree.files))
    (differs same_name names_tell other name (apart r name other avoids may.0))
found_stays tree r handle name (ClosedDirectory h) avoids may = refl
found_stays tree r handle name (ClosedFile h file) avoids may =
    ap (λ (w : List (Name × Node)). value_at_key same_name w name) (loss_names (without_handle tree h) file)
found_stays tree r handle name (Listed h entries) avoids may = refl
found_stays tree r handle name (MadeDirectory other) avoids may =
    found_push_other same_name tree.names other name node.Directory
    (differs same_name names_tell other name (apart r name other avoids may))
found_stays tree r handle name (RemovedDirectory other) avoids may =
    found_without_other same_name names_tell tree.names other name (apart r name other avoids may)
found_stays tree r handle name (RemovedFile other file) avoids may =
    ap (λ (w : List (Name × Node)). value_at_key same_name w name) (loss_names (without_name tree other) file)
    ∙ found_without_other same_name names_tell tree.names other name (apart r name other avoids may)
found_stays tree r handle name (Renamed old to) avoids may =
    let apart_two = avoids.moves old to may in found_moved same_name (moved_name old to) tree.names name
    (λ k. moves_others old to name k apart_two.0 apart_two.1)
found_stays tree r handle name (Replaced old to gone) avoids may =
    ap (λ (w : List (Name × Node)). value_at_key same_name w name)
    (loss_names (with_renamed (without_name tree to) old to)
    gone) ∙ replaced_found tree r name old to avoids may

-- a request that avoids a name leaves what it has
pub node_stays : (tree : FileTree) (config : ServerConfig) (r : Request) (choice : Choice) (handle : List ℕ)
    (name : Name) → AvoidsName name r → node_at (apply tree config r choice handle).1 name ≡ node_at tree name
node_stays tree config r choice handle name avoids =
    let l = apply_leaves tree config r choice handle in
    ap (λ (w : FileTree). node_at w name) l.is ∙ at_found tree (tree_after_change tree handle l.change) name
    (found_stays tree r handle name l.change avoids l.may)

-- ---- the bytes of a name's file

-- a file that lives keeps its bytes
loss_bytes : (tree : FileTree) (gone file : ℕ) → is_file_in_use tree file ≡ true → bytes_of (after_loss tree gone) file
    ≡ bytes_of tree file
loss_bytes tree gone file living = elim (eqb_tells file gone) [
  | inl t ↦ (let here : is_file_in_use tree gone ≡ true = subst (λ (k : ℕ). is_file_in_use tree k ≡ true) t.1 living in
      rw here refl)
  | inr t ↦ by_test (is_file_in_use tree gone) t.1
]
  where
    by_test : (b : Bool) → file ≢ gone → bytes_of (if b then tree else with_bytes tree gone []) file
        ≡ bytes_of tree file
    by_test true ne = refl
    by_test false ne = get_or-set_other tree.files gone file [] [] ne

named_lives : (tree : FileTree) (name : Name) (file : ℕ) → HasEntry tree.names (name, node.File file)
    → is_file_in_use tree file ≡ true
named_lives tree name file h = or_left _ _ (has_any (names_file file) tree.names name (node.File file) h
    (eq-eqb file file refl))

-- the file is none that the request reaches
apart_file : (tree : FileTree) (r : Request) (name : Name) (file other : ℕ) → IsWellFormed tree → SparesName tree name r
    → node_at tree name ≡ Some (node.File file) → ReachesFile tree r other → file ≢ other
apart_file tree r name file other well_formed spares e (inl w) same =
    spares.writes file e (subst (WritesTo tree r) (sym same) w)
apart_file tree r name file other well_formed spares e (inr d) same =
    spares.avoids.denotes (subst (DenotesName r) (well_formed.alone d.0 name file
    (subst (λ (k : ℕ). HasEntry tree.names (d.0, node.File k)) (sym same) (name_has tree d.0 other d.1.1))
    (name_has tree name file e)) d.1.0)

bytes_stay_by : (tree : FileTree) (r : Request) (handle : List ℕ) (name : Name) (file : ℕ) (c : Change)
    → IsWellFormed tree → SparesName tree name r → node_at tree name ≡ Some (node.File file) → MayLead tree r c
    → bytes_of (tree_after_change tree handle c) file ≡ bytes_of tree file
bytes_stay_by tree r handle name file Unchanged well_formed spares e may = refl
bytes_stay_by tree r handle name file (Rewritten other bytes) well_formed spares e may =
    get_or-set_other tree.files other file bytes [] (apart_file tree r name file other well_formed spares e may)
bytes_stay_by tree r handle name file (Granted o) well_formed spares e may = refl
bytes_stay_by tree r handle name file (Truncated other o) well_formed spares e may =
    get_or-set_other tree.files other file [] [] (apart_file tree r name file other well_formed spares e may.0)
bytes_stay_by tree r handle name file (Created other o) well_formed spares e may =
    get_or_append_left tree.files ([] ∷ []) [] file (well_formed.named name file (name_has tree name file e))
bytes_stay_by tree r handle name file (ClosedDirectory h) well_formed spares e may = refl
bytes_stay_by tree r handle name file (ClosedFile h gone) well_formed spares e may =
    loss_bytes (without_handle tree h) gone file (named_lives (without_handle tree h) name file
    (name_has tree name file e))
bytes_stay_by tree r handle name file (Listed h entries) well_formed spares e may = refl
bytes_stay_by tree r handle name file (MadeDirectory other) well_formed spares e may = refl
bytes_stay_by tree r handle name file (RemovedDirectory other) well_formed spares e may = refl
bytes_stay_by tree r handle name file (RemovedFile other gone) well_formed spares e may =
    loss_bytes (without_name tree other) gone file (named_lives (without_name tree other) name file
    (found_has same_name names_tell (without_name tree other).names name (node.File file)
    (found_without_other same_name names_tell tree.names other name (apart r name other spares.avoids may)
    ∙ found_at tree name file e)))
bytes_stay_by tree r handle name file (Renamed old to) well_formed spares e may = refl
bytes_stay_by tree r handle name file (Replaced old to gone) well_formed spares e may =
    loss_bytes (with_renamed (without_name tree to) old to) gone file
    (named_lives (with_renamed (without_name tree to) old to) name file
    (found_has same_name names_tell (with_renamed (without_name tree to) old to).names name (node.File file)
    (replaced_found tree r name old to spares.avoids may ∙ found_at tree name file e)))

-- a request that spares a name leaves the bytes of its file
pub bytes_stay : (tree : FileTree) (config : ServerConfig) (r : Request) (choice : Choice) (handle : List ℕ)
    (name : Name) (file : ℕ) → IsWellFormed tree → SparesName tree name r → node_at tree name ≡ Some (node.File file)
    → bytes_of (apply tree config r choice handle).1 file ≡ bytes_of tree file
bytes_stay tree config r choice handle name file well_formed spares e =
    let l = apply_leaves tree config r choice handle in
    ap (λ (w : FileTree). bytes_of w file) l.is ∙ bytes_stay_by tree r handle name file l.change well_formed spares e
    l.may

-- ---- what a handle has
