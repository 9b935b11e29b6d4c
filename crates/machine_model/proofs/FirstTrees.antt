-- A tree that a server may begin with is one.
use Rattle.std.proofs.Common.{
  ◌≡◌,
  ◌≢◌,
  ℕ,
  ◌+◌,
  Bool,
  true,
  false,
  List,
  [],
  ◌∷◌,
  ◌++◌,
  length,
  drop,
  Some,
  None,
  if◌then◌else◌,
  refl,
  ap,
  sym,
  ◌∙◌,
  subst,
  arith,
  inl,
  inr,
}
use Rattle.std.specs.Prelude.{◌⊎◌, map, not, ◌||◌}
use Rattle.std.specs.List.{list_all, list_any}
use Rattle.std.proofs.lemmas.Bool.{and_parts, not-true, or_parts}
use Rattle.std.proofs.lemmas.List.{append-nil, append_assoc, length-append}
use Rattle.machine_model.proofs.FirstFits.{Begins, begins}
use Rattle.machine_model.proofs.HasLaws.{has_all, has_append, has_later, has_map, map_has, none_passes}
use Rattle.machine_model.proofs.NameLaws.{names_tell}
use Rattle.machine_model.proofs.OnceLaws.{has_none}
use Rattle.machine_model.proofs.PairLaws.{differs, found_has, found_push_here, found_push_old, found_push_other, has_push}
use Rattle.machine_model.proofs.TreeLaws.{directory_is, node_found, pushed_tree}
use Rattle.machine_model.proofs.WithinLaws.{cons_not_nil, parent_last, parent_push, parent_within, within_join, within_split}
use Rattle.machine_model.specs.Components.{Name, components, is_within, last_of, parent_of, same_name}
use Rattle.machine_model.specs.FileTree.{FileTree, value_at_key, is_directory, node_at}
use Rattle.machine_model.specs.FirstTree.{
  FirstFile,
  are_apart,
  first_directories,
  first_tree,
  has_name,
  may_be_named,
  may_begin,
  name_of,
  numbered_files,
  stand_apart,
  with_directories,
  with_directory,
  with_way,
}
use Rattle.machine_model.specs.Pairs.{HasEntry}
use Rattle.machine_model.specs.Trees.{IsTree}
use Rattle.machine_model.specs.declared.node.Node.{Node}
use Rattle.machine_model.specs.declared.node.Node.TheVariants as node

-- a tree of these names
abbrev of : List (List ℕ) → List (Name × Node) → FileTree
of files names = record { names = names; files = files; handles = [] }

-- ---- directories

-- Directories that make a tree, each by a prefix of one of these names.
record AreDirectories (files : List (List ℕ)) (into : List Name) (names : List (Name × Node)) : Type 0 where
  tree : IsTree (of files names)
  directories : (name : Name) (n : Node) → HasEntry names (name, n) → n ≡ node.Directory
  leading : (name : Name) (n : Node) → HasEntry names (name, n) → (to : Name)
      × (HasEntry into to × (is_within name to ≡ true))

none_named : (names : List (Name × Node)) (name : Name) → has_name names name ≡ false
    → value_at_key same_name names name ≡ None
none_named [] name e = refl
none_named (p ∷ names) name e = let both = or_parts (same_name p.0 name) (has_name names name) e in
    rw both.0 (none_named names name both.1)

some_named : (names : List (Name × Node)) (name : Name) → has_name names name ≡ true → (n : Node)
    × (value_at_key same_name names name ≡ Some n)
some_named [] name e = absurd cc
some_named (p ∷ names) name e = by_test (same_name p.0 name) e (some_named names name)
  where
    by_test : (b : Bool) → (b || has_name names name) ≡ true →
        (has_name names name ≡ true → (n : Node) × (value_at_key same_name names name ≡ Some n)) → (n : Node)
        × ((if b then Some p.1 else value_at_key same_name names name) ≡ Some n)
    by_test true x more = (p.1, refl)
    by_test false x more = more x

-- a directory that was there is still there
abbrev Keeps : List (List ℕ) → List (Name × Node) → List (Name × Node) → Type 0
Keeps files before after = (name : Name) → is_directory (node_at (of files before) name) ≡ true
    → is_directory (node_at (of files after) name) ≡ true

push_keeps : (files : List (List ℕ)) (names : List (Name × Node)) (new : Name × Node)
    → Keeps files names (names ++ new ∷ [])
push_keeps files names new [] h = refl
push_keeps files names new (part ∷ parts) h = ap is_directory
    (found_push_old same_name names new (part ∷ parts) node.Directory
    (directory_is (node_at (of files names) (part ∷ parts)) h))

abbrev IsOneMore : List (List ℕ) → List Name → List (Name × Node) → Name → List (Name × Node) → Type 0
IsOneMore files into before name after = AreDirectories files into after × Keeps files before after
    × (is_directory (node_at (of files after) name) ≡ true)

-- a directory beneath one that is there
one_more : (files : List (List ℕ)) (into : List Name) (names : List (Name × Node)) (at : Name) (part : List ℕ)
    (to : Name) → AreDirectories files into names → is_directory (node_at (of files names) at) ≡ true
    → HasEntry into to → is_within (at ++ part ∷ []) to ≡ true
    → IsOneMore files into names (at ++ part ∷ []) (with_directory names (at ++ part ∷ []))
one_more files into names at part to d parent has leads = by_test (has_name names (at ++ part ∷ [])) refl
  where
    ne : at ++ part ∷ [] ≢ []
    ne e = (let l = length-append at (part ∷ []) in let zero : length (at ++ part ∷ []) ≡ 0 = ap length e in
        absurd (omega (arith, l, zero)))

    by_test : (b : Bool) → has_name names (at ++ part ∷ []) ≡ b
        → IsOneMore files into names (at ++ part ∷ []) (if b then names else names
        ++ (at ++ part ∷ [], node.Directory) ∷ [])
    by_test true e =
        (let some = some_named names (at ++ part ∷ []) e in
        let is = d.directories (at ++ part ∷ []) some.0 (found_has same_name names_tell names (at ++ part ∷ []) some.0
        some.1) in (
          d,
          (λ name h. h),
          ap is_directory (node_found (of files names) (at ++ part ∷ []) ne
              ∙ (some.1 ∙ ap (λ (n : Node). Some n) is)),
        ))
    by_test false e =
        (let none = none_named names (at ++ part ∷ []) e in (
          record {
            tree = pushed_tree (of files names) (at ++ part ∷ []) node.Directory files d.tree
                (node_found (of files names) (at ++ part ∷ []) ne ∙ none)
                (subst (λ (w : Name). is_directory (node_at (of files names) w) ≡ true) (sym (parent_push at part))
                parent);
            directories = λ name n has. elim (has_push names (at ++ part ∷ [], node.Directory) (name, n) has) [
              | inl old ↦ d.directories name n old
              | inr new ↦ sym (ap (λ (w : Name × Node). w.1) new)
            ];
            leading = λ name n own. elim (has_push names (at ++ part ∷ [], node.Directory) (name, n) own) [
              | inl old ↦ d.leading name n old
              | inr new ↦ (
                to,
                (
                  has,
                  subst (λ (w : Name). is_within w to ≡ true) (ap (λ (w : Name × Node). w.0) new)
                      leads,
                ),
              )
            ];
          },
          push_keeps files names (at ++ part ∷ [], node.Directory),
          ap is_directory (node_found (of files (names ++ (at ++ part ∷ [], node.Directory) ∷ [])) (at ++ part ∷ []) ne
              ∙ found_push_here same_name names (at ++ part ∷ []) node.Directory
              ((names_tell (at ++ part ∷ []) (at ++ part ∷ [])).1 refl) none),
        ))

-- all that is passed on the way
way_more : (files : List (List ℕ)) (into : List Name) (names : List (Name × Node)) (at : Name) (parts : List (List ℕ))
    → AreDirectories files into names → is_directory (node_at (of files names) at) ≡ true
    → HasEntry into (at ++ parts) → IsOneMore files into names (at ++ parts) (with_way names at parts)
way_more files into names at [] d there has = (
  d,
  (λ name h. h),
  subst (λ (w : Name). is_directory (node_at (of files names) w) ≡ true) (sym (append-nil at)) there,
)
way_more files into names at (part ∷ parts) d there has =
    let whole : at ++ part ∷ [] ++ parts ≡ at ++ part ∷ parts = append_assoc at (part ∷ []) parts in
    let one = one_more files into names at part (at ++ part ∷ parts) d there has
    (subst (λ (w : Name). is_within (at ++ part ∷ []) w ≡ true) whole (within_join (at ++ part ∷ []) parts)) in
    let more = way_more files into (with_directory names (at ++ part ∷ [])) (at ++ part ∷ []) parts one.0 one.2
    (subst (HasEntry into) (sym whole) has) in (
      more.0,
      (λ name h. more.1 name (one.1 name h)),
      subst (λ (w : Name). is_directory
          (node_at (of files (with_way names at (part ∷ parts))) w) ≡ true) whole more.2,
    )

-- all these directories and what is passed on the way to each
directories_more : (files : List (List ℕ)) (into : List Name) (names : List (Name × Node)) (dirs : List Name)
    → AreDirectories files into names → ((dir : Name) → HasEntry dirs dir → HasEntry into dir)
    → AreDirectories files into (with_directories names dirs) × Keeps files names (with_directories names dirs)
    × ((dir : Name) → HasEntry dirs dir → is_directory (node_at (of files (with_directories names dirs)) dir) ≡ true)
directories_more files into names [] d h = (d, (λ name there. there), (λ dir has. absurd has))
directories_more files into names (dir ∷ dirs) d h =
    let one = way_more files into names [] dir d refl (h dir (inl refl)) in
    let more = directories_more files into (with_way names [] dir) dirs one.0 (λ w has. h w (inr has)) in (
      more.0,
      (λ name there. more.1 name (one.1 name there)),
      λ w has. elim has [
        | inl e ↦ subst (λ (w : Name). is_directory (node_at (of files (with_directories names (dir ∷ dirs))) w) ≡ true)
            e (more.1 dir one.2)
        | inr later ↦ more.2 w later
      ],
    )

-- ---- names that are apart

within_self : (name : Name) → is_within name name ≡ true
within_self name = subst (λ (w : Name). is_within name w ≡ true) (append-nil name) (within_join name [])

apart_within : (a b : Name) → are_apart a b ≡ true → (is_within a b ≡ false) × (is_within b a ≡ false)
apart_within a b e = or_parts (is_within a b) (is_within b a) (not-true (is_within a b || is_within b a) e)

apart_differ : (a b : Name) → are_apart a b ≡ true → a ≢ b
apart_differ a b e same =
    let within : is_within a b ≡ true = subst (λ (w : Name). is_within a w ≡ true) same (within_self a) in
    absurd (let both : true ≡ false = sym within ∙ (apart_within a b e).0 in cc)

two_apart : (names : List Name) (a b : Name) → stand_apart names ≡ true → HasEntry names a → HasEntry names b → (a ≡ b)
    ⊎ (is_within a b ≡ false)
two_apart [] a b e h k = absurd h
two_apart (name ∷ names) a b e (inl x) (inl y) = inl (sym x ∙ y)
two_apart (name ∷ names) a b e (inl x) (inr k) =
    inr (subst (λ (w : Name). is_within w b ≡ false) x (apart_within name b
    (has_all (are_apart name) names b (and_parts (list_all (are_apart name) names) (stand_apart names) e).0 k)).0)
two_apart (name ∷ names) a b e (inr h) (inl y) =
    inr (subst (λ (w : Name). is_within a w ≡ false) y (apart_within name a
    (has_all (are_apart name) names a (and_parts (list_all (are_apart name) names) (stand_apart names) e).0 h)).1)
two_apart (name ∷ names) a b e (inr h) (inr k) = two_apart names a b
    (and_parts (list_all (are_apart name) names) (stand_apart names) e).1 h k

-- ---- files

named_some : (name : Name) → may_be_named name ≡ true → name ≢ []
named_some [] e is = absurd cc
named_some (part ∷ parts) e is = cons_not_nil part parts is

-- no name is a prefix of its parent's
above_parent : (name : Name) → name ≢ [] → is_within name (parent_of name) ≡ true → ⊥
above_parent name ne e =
    let whole : length (parent_of name) ≡ length name + length (drop (length name) (parent_of name)) =
    ap length (within_split name (parent_of name) e) ∙ length-append name (drop (length name) (parent_of name)) in
    let below : length name ≡ length (parent_of name) + 1 = ap length (parent_last name ne)
    ∙ length-append (parent_of name) (last_of name ∷ []) in
    omega (arith, whole, below)

-- what is looked at before a file gets its name
abbrev MayBeMade : List (List ℕ) → List (Name × Node) → FirstFile → Type 0
MayBeMade bytes names file = (is_directory (node_at (of bytes names) (parent_of (name_of file))) ≡ true)
    × (value_at_key same_name names (name_of file) ≡ None) × (name_of file ≢ [])

files_more : (bytes : List (List ℕ)) (names : List (Name × Node)) (n : ℕ) (files : List FirstFile)
    → IsTree (of bytes names) → ((file : FirstFile) → HasEntry files file → MayBeMade bytes names file)
    → stand_apart (map name_of files) ≡ true
    → IsTree (of bytes (names ++ numbered_files n files))
files_more bytes names n [] t h apart = subst (λ (w : List (Name × Node)). IsTree (of bytes w)) (sym (append-nil names))
    t
files_more bytes names n (file ∷ files) t h apart =
    let both = and_parts (list_all (are_apart (name_of file)) (map name_of files)) (stand_apart (map name_of files))
    apart in
    let here = h file (inl refl) in
    let one = pushed_tree (of bytes names) (name_of file) (node.File n) bytes t
    (node_found (of bytes names) (name_of file) here.2 ∙ here.1) here.0 in
    subst (λ (w : List (Name × Node)). IsTree (of bytes w)) (append_assoc names ((name_of file, node.File n) ∷ [])
    (numbered_files (n + 1) files))
    (files_more bytes (names ++ (name_of file, node.File n) ∷ []) (n + 1) files one
    (λ other has.
    let old = h other (inr has) in
    let ne = apart_differ (name_of file) (name_of other) (has_all (are_apart (name_of file)) (map name_of files)
    (name_of other) both.0 (has_map name_of files other has)) in (
      push_keeps bytes names (name_of file, node.File n) (parent_of (name_of other)) old.0,
      found_push_other same_name names (name_of file) (name_of other) (node.File n)
          (differs same_name names_tell (name_of file) (name_of other) ne) ∙ old.1,
      old.2,
    )) both.1)

-- a file has the name of no directory and of no parent
no_prefix : (files : List FirstFile) (dirs : List (List ℕ)) (file : FirstFile) (to : Name) → Begins files dirs
    → HasEntry files file → name_of file ≢ []
    → HasEntry (map components dirs ++ map (λ file. parent_of (name_of file)) files) to → is_within (name_of file) to
    ≡ true → ⊥
no_prefix files dirs file to b has ne into within = elim (has_append (map components dirs)
    (map (λ file. parent_of (name_of file)) files) to into) [
      | inl dir ↦ (
          let room = has_all (λ name. not (list_any (is_within name) (map components dirs))) (map name_of files)
          (name_of file) b.room (has_map name_of files file has) in
          let outside = none_passes (is_within (name_of file)) (map components dirs) to
          (not-true (list_any (is_within (name_of file)) (map components dirs)) room) dir in
          absurd (let both : true ≡ false = sym within ∙ outside in cc))
      | inr parent ↦ (
          let other = map_has (λ (file : FirstFile). parent_of (name_of file)) files to parent in
          let leads : is_within (name_of file) (parent_of (name_of other.0)) ≡ true =
          subst (λ (w : Name). is_within (name_of file) w ≡ true) (sym other.1.1) within in
          let some = named_some (name_of other.0) (has_all may_be_named (map name_of files) (name_of other.0)
          b.files_named
          (has_map name_of files other.0 other.1.0)) in
          elim (two_apart (map name_of files) (name_of file) (name_of other.0) b.apart (has_map name_of files file has)
          (has_map name_of files other.0 other.1.0)) [
            | inl same ↦ above_parent (name_of file) ne (subst (λ (w : Name). is_within (name_of file) (parent_of w)
                ≡ true)
                (sym same) leads)
            | inr outside ↦ absurd (let inside : is_within (name_of file) (name_of other.0) ≡ true =
                parent_within (name_of file) (name_of other.0) some leads in let both : true ≡ false = sym inside
                ∙ outside
                in cc)
          ])
    ]

-- what is passed on the way to each directory and to each file
abbrev ways : List FirstFile → List (List ℕ) → List Name
ways files dirs = map components dirs ++ map (λ file. parent_of (name_of file)) files

first_ways : (bytes : List (List ℕ)) (files : List FirstFile) (dirs : List (List ℕ))
    → AreDirectories bytes (ways files dirs) (first_directories files dirs)
    × Keeps bytes [] (first_directories files dirs) × ((dir : Name) → HasEntry (ways files dirs) dir
    → is_directory (node_at (of bytes (first_directories files dirs)) dir) ≡ true)
first_ways bytes files dirs =
    let none : AreDirectories bytes (ways files dirs) [] = record {
      tree = record { once = tt; rootless = refl; parents = refl };
      directories = λ name n has. absurd has;
      leading = λ name n has. absurd has;
    } in
    directories_more bytes (ways files dirs) [] (ways files dirs) none (λ dir has. has)

pub first_are_directories : (files : List FirstFile) (dirs : List (List ℕ)) (name : Name) (n : Node)
    → HasEntry (first_directories files dirs) (name, n) → n ≡ node.Directory
first_are_directories files dirs = (first_ways [] files dirs).0.directories

pub first_is_tree : (files : List FirstFile) (dirs : List (List ℕ)) → may_begin files dirs ≡ true
    → IsTree (first_tree files dirs)
first_is_tree files dirs h =
    let b = begins files dirs h in
    let bytes : List (List ℕ) = map (λ file. file.1) files in
    let d = first_ways bytes files dirs in
    files_more bytes (first_directories files dirs) 0 files d.0.tree (λ file has.
    let ne = named_some (name_of file) (has_all may_be_named (map name_of files) (name_of file) b.files_named
    (has_map name_of files file has)) in
    let up = has_later (map components dirs) (map (λ file. parent_of (name_of file)) files) (parent_of (name_of file))
    (has_map (λ (file : FirstFile). parent_of (name_of file)) files file has) in (
      d.2 (parent_of (name_of file)) up,
      has_none (first_directories files dirs) (name_of file) (λ n own. let to = d.0.leading (name_of file) n own in
          no_prefix files dirs file to.0 b has ne to.1.0 to.1.1),
      ne,
    )) b.apart
