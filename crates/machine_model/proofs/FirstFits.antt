-- A tree that a server may begin with is within its bounds.
use Rattle.std.proofs.Common.{
  ◌≡◌,
  ℕ,
  zero,
  suc,
  ◌+◌,
  ◌-◌,
  ◌==◌,
  ◌≤◌,
  Bool,
  true,
  false,
  List,
  [],
  ◌∷◌,
  ◌++◌,
  length,
  take,
  get_or,
  if◌then◌else◌,
  refl,
  ap,
  subst,
  arith,
  inl,
  inr,
}
use Rattle.std.specs.Prelude.{nat_le, map, not}
use Rattle.std.specs.List.{list_all}
use Rattle.std.proofs.lemmas.Bool.{and_parts, leb-true}
use Rattle.std.proofs.lemmas.List.Folds.{list_all-append}
use Rattle.machine_model.proofs.HasLaws.{has_append}
use Rattle.machine_model.proofs.PairLaws.{has_push}
use Rattle.machine_model.specs.Components.{Name, components, parent_of}
use Rattle.machine_model.specs.FirstTree.{
  FirstFile,
  differ,
  first_directories,
  first_tree,
  has_name,
  leave_room,
  may_be_named,
  may_begin,
  may_hold,
  may_hold_all,
  name_of,
  numbered_files,
  stand_apart,
  with_directories,
  with_directory,
  with_way,
}
use Rattle.machine_model.specs.FitTrees.{IsFit}
use Rattle.machine_model.specs.Limits.{MAX_COMPONENT_LEN, MAX_FILE_LEN}
use Rattle.machine_model.specs.Pairs.{HasEntry}
use Rattle.machine_model.specs.declared.node.Node.{Node}
use Rattle.machine_model.specs.declared.node.Node.TheVariants as node

-- what `may_begin` looks at
pub record Begins (files : List FirstFile) (dirs : List (List ℕ)) : Type 0 where
  pub sizes : list_all may_hold files ≡ true
  pub files_named : list_all may_be_named (map name_of files) ≡ true
  pub dirs_named : list_all may_be_named (map components dirs) ≡ true
  pub apart : stand_apart (map name_of files) ≡ true
  pub room : leave_room (map name_of files) (map components dirs) ≡ true

pub begins : (files : List FirstFile) (dirs : List (List ℕ)) → may_begin files dirs ≡ true → Begins files dirs
begins files dirs h =
    let f = and_parts _ (leave_room (map name_of files) (map components dirs)) h in
    let e = and_parts _ (stand_apart (map name_of files)) f.0 in
    let d = and_parts _ (differ (map components dirs)) e.0 in
    let c = and_parts _ (list_all may_be_named (map components dirs)) d.0 in
    let b = and_parts _ (list_all may_be_named (map name_of files)) c.0 in
    record {
      sizes = (and_parts (list_all may_hold files) (may_hold_all files) b.0).0;
      files_named = b.1;
      dirs_named =
          c.1;
      apart = e.1;
      room = f.1;
    }

-- ---- names whose components are short

abbrev is_short : List ℕ → Bool
is_short part = nat_le (length part) MAX_COMPONENT_LEN

abbrev AreShort : Name → Type 0
AreShort name = list_all is_short name ≡ true

parts_short : (name : Name) (k : ℕ) → AreShort name → length (get_or name k []) ≤ MAX_COMPONENT_LEN
parts_short [] zero h = omega arith
parts_short [] (suc k) h = omega arith
parts_short (part ∷ name) zero h = leb-true (length part) MAX_COMPONENT_LEN
    (and_parts (is_short part) (list_all is_short name) h).0
parts_short (part ∷ name) (suc k) h = parts_short name k (and_parts (is_short part) (list_all is_short name) h).1

down_short : (at : Name) (part : List ℕ) → AreShort at → is_short part ≡ true → AreShort (at ++ part ∷ [])
down_short at part h k = rw (list_all-append is_short at (part ∷ []), h, k) refl

take_short : (k : ℕ) (name : Name) → AreShort name → AreShort (take k name)
take_short zero name h = refl
take_short (suc k) [] h = refl
take_short (suc k) (part ∷ name) h =
    let both = and_parts (is_short part) (list_all is_short name) h in rw (both.0, take_short k name both.1) refl

named_short : (name : Name) → may_be_named name ≡ true → AreShort name
named_short name h = (and_parts (not (length name == 0)) (list_all is_short name) h).1

-- ---- lists of pairs whose names all are

abbrev HasShort : List (Name × Node) → Type 0
HasShort names = (name : Name) (n : Node) → HasEntry names (name, n) → AreShort name

way_short : (names : List (Name × Node)) (at : Name) (parts : List (List ℕ)) → HasShort names → AreShort at
    → AreShort parts → HasShort (with_way names at parts)
way_short names at [] s a h = s
way_short names at (part ∷ parts) s a h =
    let both = and_parts (is_short part) (list_all is_short parts) h in
    let down = down_short at part a both.0 in
    way_short (with_directory names (at ++ part ∷ [])) (at ++ part ∷ []) parts
    (by_test (has_name names (at ++ part ∷ [])) (at ++ part ∷ []) down) down both.1
  where
    by_test : (b : Bool) (name : Name) → AreShort name → HasShort
        (if b then names else names ++ (name, node.Directory) ∷ [])
    by_test true name h = s
    by_test false name h = λ a n has. elim (has_push names (name, node.Directory) (a, n) has) [
      | inl old ↦ s a n old
      | inr e ↦ subst AreShort (ap (λ (w : Name × Node). w.0) e) h
    ]

directories_short : (names : List (Name × Node)) (dirs : List Name) → HasShort names → list_all (list_all is_short) dirs
    ≡ true → HasShort (with_directories names dirs)
directories_short names [] s h = s
directories_short names (dir ∷ dirs) s h =
    let both = and_parts (list_all is_short dir) (list_all (list_all is_short) dirs) h in
    directories_short (with_way names [] dir) dirs (way_short names [] dir s refl both.0) both.1

files_short : (n : ℕ) (files : List FirstFile) → list_all may_be_named (map name_of files) ≡ true
    → HasShort (numbered_files n files)
files_short n [] h name k has = absurd has
files_short n (file ∷ files) h name k (inl e) =
    subst AreShort (ap (λ (w : Name × Node). w.0) e) (named_short (name_of file)
    (and_parts (may_be_named (name_of file)) _ h).0)
files_short n (file ∷ files) h name k (inr has) = files_short (n + 1) files
    (and_parts (may_be_named (name_of file)) _ h).1 name k has

names_short : (names : List Name) → list_all may_be_named names ≡ true → list_all (list_all is_short) names ≡ true
names_short [] h = refl
names_short (name ∷ names) h = let both = and_parts (may_be_named name) (list_all may_be_named names) h in
    rw (named_short name both.0, names_short names both.1) refl

parents_short : (files : List FirstFile) → list_all may_be_named (map name_of files) ≡ true
    → list_all (list_all is_short) (map (λ file. parent_of (name_of file)) files) ≡ true
parents_short [] h = refl
parents_short (file ∷ files) h =
    let both = and_parts (may_be_named (name_of file)) _ h in
    rw (
      take_short (length (name_of file) - 1) (name_of file) (named_short (name_of file) both.0),
      parents_short files both.1,
    ) refl

-- ---- sizes

sizes_within : (files : List FirstFile) → list_all may_hold files ≡ true → (k : ℕ)
    → length (get_or (map (λ file. file.1) files) k []) ≤ MAX_FILE_LEN
sizes_within [] h zero = omega arith
sizes_within [] h (suc k) = omega arith
sizes_within (file ∷ files) h zero = leb-true (length file.1) MAX_FILE_LEN
    (and_parts (may_hold file) (list_all may_hold files) h).0
sizes_within (file ∷ files) h (suc k) = sizes_within files (and_parts (may_hold file) (list_all may_hold files) h).1 k

pub first_fits : (files : List FirstFile) (dirs : List (List ℕ)) → may_begin files dirs ≡ true
    → IsFit (first_tree files dirs)
first_fits files dirs h =
    let b = begins files dirs h in
    let all : List Name = map components dirs ++ map (λ file. parent_of (name_of file)) files in
    let ways : list_all (list_all is_short) all ≡ true =
    rw (
      list_all-append (list_all is_short) (map components dirs) (map (λ file. parent_of (name_of file)) files),
      names_short (map components dirs) b.dirs_named,
      parents_short files b.files_named,
    ) refl in
    record {
      sizes = sizes_within files b.sizes;
      short = λ name n has. parts_short name (length name - 1) (elim
          (has_append (first_directories files dirs) (numbered_files 0 files) (name, n) has) [
            | inl old ↦ directories_short [] all (λ a k none. absurd none) ways name n old
            | inr new ↦ files_short 0 files b.files_named name n new
          ]);
      entries = λ handle entries has. absurd has;
    }
