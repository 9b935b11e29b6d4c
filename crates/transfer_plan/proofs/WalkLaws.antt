-- What each step of a walk keeps.
use Rattle.std.proofs.Common.{
  ◌≡◌,
  ◌≤◌,
  ◌<◌,
  ◌+◌,
  ◌&&◌,
  ℕ,
  zero,
  suc,
  Bool,
  true,
  false,
  not,
  List,
  [],
  ◌∷◌,
  ◌++◌,
  Some,
  length,
  nat_lt,
  if◌then◌else◌,
  refl,
  sym,
  ap,
  ◌∙◌,
  subst,
  arith,
  inl,
  inr,
}
use Rattle.std.specs.Prelude.{◌⊎◌, Ok, Result}
use Rattle.transfer_plan.specs.declared.walk.WalkError.{WalkError}
use Rattle.std.specs.List.{slice_get}
use Rattle.std.specs.Str.{is_utf8}
use Rattle.std.proofs.lemmas.Bool.{and_parts}
use Rattle.std.proofs.lemmas.List.{length-append}
use Rattle.sftp_model.specs.declared.file_attrs.FileAttrs.{FileAttrs}
use Rattle.transfer_plan.specs.Names.{MAX_NAME_LEN, StaysIn, is_component, is_entry_name, path_in}
use Rattle.transfer_plan.proofs.PathLaws.{leads_into, stays_at, stays_in}
use Rattle.transfer_plan.specs.Entries.{MAX_DEPTH, entry_found, target_in, task_at, task_of}
use Rattle.transfer_plan.specs.Walks.{AddsEntry, IsEntryOf, IsWalk, WalkValue, begun_walk, with_entry}
use Rattle.transfer_plan.specs.declared.found.Found.{Found}
use Rattle.transfer_plan.specs.declared.task.EntryKind.{EntryKind}
use Rattle.transfer_plan.specs.declared.task.EntryKind.TheVariants as kind
use Rattle.transfer_plan.specs.declared.task.Task.TheVariants as task

-- ---- one item more

got_before : {A : Type 0} (xs : List A) (y x : A) (place : ℕ) → slice_get xs place ≡ Some x
    → slice_get (xs ++ y ∷ []) place ≡ Some x
got_before [] y x zero e = absurd cc
got_before [] y x (suc n) e = absurd cc
got_before (a ∷ xs) y x zero e = e
got_before (a ∷ xs) y x (suc n) e = got_before xs y x n e

got_behind : {A : Type 0} (xs : List A) (y x : A) (place : ℕ) → slice_get (xs ++ y ∷ []) place ≡ Some x
    → (slice_get xs place ≡ Some x) ⊎ ((place ≡ length xs) × (x ≡ y))
got_behind [] y x zero e = inr (refl, cc)
got_behind [] y x (suc n) e = absurd cc
got_behind (a ∷ xs) y x zero e = inl e
got_behind (a ∷ xs) y x (suc n) e = elim (got_behind xs y x n e) [
  | inl h ↦ inl h
  | inr h ↦ inr (ap (λ k. suc k) h.0, h.1)
]

-- ---- the root

pub begun : (root : Found) (texts : Bool) → root.task ≡ task.MakeFolder → root.depth ≡ 0
    → IsWalk (begun_walk root texts)
begun root texts is depth = record {
  root = root;
  first = refl;
  stays = stays;
  entries = entries;
  shallow = shallow;
  within = omega arith;
  folder = root;
  listed = refl;
  is_folder = is;
}
  where
    stays : (place : ℕ) (entry : Found) → slice_get (root ∷ []) place ≡ Some entry → StaysIn root.target entry.target
    stays zero entry e =
        let same : root ≡ entry = cc in
        subst (λ (f : Found). StaysIn root.target f.target) same (stays_at root.target)
    stays (suc n) entry e = absurd cc

    entries : (place : ℕ) (entry : Found) → 0 < place → slice_get (root ∷ []) place ≡ Some entry
        → IsEntryOf texts (root ∷ []) place entry
    entries zero entry l e = absurd (omega (arith, l))
    entries (suc n) entry l e = absurd cc

    shallow : (place : ℕ) (entry : Found) → slice_get (root ∷ []) place ≡ Some entry → entry.task ≡ task.MakeFolder
        → entry.depth ≤ MAX_DEPTH
    shallow zero entry e folder =
        let same : root ≡ entry = cc in
        let at : entry.depth ≡ 0 = ap (λ (f : Found). f.depth) (sym same) ∙ depth in
        omega (arith, at)
    shallow (suc n) entry e folder = absurd cc

-- ---- an entry more

target_stays : (root folder name : List ℕ) → StaysIn root folder → StaysIn root (target_in folder name)
target_stays root folder name h = by_test (is_entry_name name) refl
  where
    by_test : (t : Bool) → is_entry_name name ≡ t → StaysIn root (if t then path_in folder name else folder)
    by_test true is =
        let plain : is_component name ≡ true =
        (and_parts (is_component name) (not (nat_lt MAX_NAME_LEN (length name))) is).0 in
        stays_in root folder (path_in folder name) name h plain (leads_into folder name plain)
    by_test false is = h

folder_depth : (depth : ℕ) (k : EntryKind) → task_at depth k ≡ task.MakeFolder → depth < MAX_DEPTH
folder_depth depth kind.File e = absurd cc
folder_depth depth kind.Folder e = by_test (nat_lt depth MAX_DEPTH) refl e
  where
    by_test : (t : Bool) → nat_lt depth MAX_DEPTH ≡ t
        → (if t then task.MakeFolder else task.RefuseDepth) ≡ task.MakeFolder → depth < MAX_DEPTH
    by_test true is e = grind (arith, is)
    by_test false is e = absurd cc
folder_depth depth kind.Link e = absurd cc
folder_depth depth kind.Other e = absurd cc

entry_depth : (texts : Bool) (depth : ℕ) (name : List ℕ) (k : EntryKind) → task_of texts depth name k ≡ task.MakeFolder
    → depth < MAX_DEPTH
entry_depth texts depth name k e = by_tests (not (is_entry_name name)) (texts && not (is_utf8 name)) e
  where
    by_tests : (refused odd : Bool)
        → (if refused then task.RefuseName else if odd then task.RefuseText else task_at depth k) ≡ task.MakeFolder
        → depth < MAX_DEPTH
    by_tests true odd e = absurd cc
    by_tests false true e = absurd cc
    by_tests false false e = folder_depth depth k e

pub added : (w : WalkValue) (folder : Found) (name : List ℕ) (k : EntryKind) (attrs : FileAttrs) → IsWalk w
    → slice_get w.found w.at ≡ Some folder → IsWalk (with_entry w (entry_found w.texts folder name k attrs))
added w folder name k attrs h listed = record {
  root = h.root;
  first = got_before w.found new h.root 0 h.first;
  stays = stays;
  entries = entries;
  shallow = shallow;
  within =
      let more : length (w.found ++ new ∷ []) ≡ length w.found + 1 = length-append w.found (new ∷ []) in
      let here : w.at < length w.found = h.within in
      omega (arith, more, here);
  folder = folder;
  listed = got_before w.found new folder w.at listed;
  is_folder = is_folder;
}
  where
    new : Found
    new = entry_found w.texts folder name k attrs

    is_folder : folder.task ≡ task.MakeFolder
    is_folder =
        let same : h.folder ≡ folder = let e : Some h.folder ≡ Some folder = sym h.listed ∙ listed in cc in
        ap (λ (f : Found). f.task) (sym same) ∙ h.is_folder

    stays : (place : ℕ) (entry : Found) → slice_get (w.found ++ new ∷ []) place ≡ Some entry
        → StaysIn (h.root.target) entry.target
    stays place entry e = elim (got_behind w.found new entry place e) [
      | inl old ↦ h.stays place entry old
      | inr at ↦
          subst (λ (f : Found). StaysIn (h.root.target) f.target) (sym at.1)
          (target_stays (h.root.target) folder.target name (h.stays w.at folder listed))
    ]

    entries : (place : ℕ) (entry : Found) → 0 < place → slice_get (w.found ++ new ∷ []) place ≡ Some entry
        → IsEntryOf w.texts (w.found ++ new ∷ []) place entry
    entries place entry l e = elim (got_behind w.found new entry place e) [
      | inl old ↦
          let g : IsEntryOf w.texts w.found place entry = h.entries place entry l old in
          record {
            at = g.at;
            folder = g.folder;
            name = g.name;
            kind = g.kind;
            attrs = g.attrs;
            before = g.before;
            stands = got_before w.found new g.folder g.at g.stands;
            is_folder = g.is_folder;
            is = g.is;
          }
      | inr at ↦
          record {
            at = w.at;
            folder = folder;
            name = name;
            kind = k;
            attrs = attrs;
            before = let here : w.at < length w.found = h.within in let there : place ≡ length w.found = at.0 in
                omega (arith, here, there);
            stands = got_before w.found new folder w.at listed;
            is_folder = is_folder;
            is = at.1;
          }
    ]

    shallow : (place : ℕ) (entry : Found) → slice_get (w.found ++ new ∷ []) place ≡ Some entry
        → entry.task ≡ task.MakeFolder → entry.depth ≤ MAX_DEPTH
    shallow place entry e is = elim (got_behind w.found new entry place e) [
      | inl old ↦ h.shallow place entry old is
      | inr at ↦
          let made : task_of w.texts folder.depth name k ≡ task.MakeFolder =
          ap (λ (f : Found). f.task) (sym at.1) ∙ is in
          let above : folder.depth < MAX_DEPTH = entry_depth w.texts folder.depth name k made in
          let deep : entry.depth ≡ folder.depth + 1 = ap (λ (f : Found). f.depth) at.1 in
          omega (arith, above, deep)
    ]

-- ---- another folder

pub gone_on : (w : WalkValue) (at : ℕ) (folder : Found) → IsWalk w → at < length w.found
    → slice_get w.found at ≡ Some folder → folder.task ≡ task.MakeFolder → IsWalk (record w { at = at })
gone_on w at folder h within listed is = record {
  root = h.root;
  first = h.first;
  stays = h.stays;
  entries = h.entries;
  shallow = h.shallow;
  within = within;
  folder = folder;
  listed = listed;
  is_folder = is;
}

-- ---- as the code has it

pub added_by : (w : WalkValue) (folder entry : Found) (items : List Found) (name : List ℕ) (k : EntryKind)
    (attrs : FileAttrs)
    → IsWalk w → slice_get w.found w.at ≡ Some folder → entry ≡ entry_found w.texts folder name k attrs
    → items ≡ w.found ++ entry ∷ [] → IsWalk (record w { found = items })
added_by w folder entry items name k attrs h listed is made =
    let all : items ≡ w.found ++ entry_found w.texts folder name k attrs ∷ [] =
    made ∙ ap (λ (e : Found). w.found ++ e ∷ []) is in
    subst (λ (l : List Found). IsWalk (record w { found = l })) (sym all) (added w folder name k attrs h listed)

-- what the walk was is seen as v
pub adds_by : (w v : WalkValue) (folder entry : Found) (items : List Found) (name : List ℕ) (k : EntryKind)
    (attrs : FileAttrs)
    → w ≡ v → slice_get w.found w.at ≡ Some folder → entry ≡ entry_found w.texts folder name k attrs
    → items ≡ w.found ++ entry ∷ []
    → (let result : Result (Unit {0}) WalkError = Ok tt in AddsEntry name k attrs v (record w { found = items }) result)
adds_by w v folder entry items name k attrs seen listed is made =
    let all : items ≡ w.found ++ entry_found w.texts folder name k attrs ∷ [] =
    made ∙ ap (λ (e : Found). w.found ++ e ∷ []) is in
    let after : WalkValue = record w { found = items } in
    let result : Result (Unit {0}) WalkError = Ok tt in
    subst (λ (x : WalkValue). AddsEntry name k attrs x after result) seen
    (folder, listed, ap (λ (l : List Found). let x : WalkValue = record w { found = l } in x) all)
