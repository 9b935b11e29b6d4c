-- First files and directories that may be there, and one more of them.
use Rattle.std.proofs.Common.{◌≡◌, ◌+◌, ◌∙◌, Bool, true, false, ℕ, List, [], ◌∷◌, ◌++◌, length, refl, ap, arith}
use Rattle.std.specs.Prelude.{◌||◌, map, nat_le, not}
use Rattle.std.specs.List.{list_all, list_any, sum_by}
use Rattle.std.proofs.lemmas.Bool.{and_parts}
use Rattle.std.proofs.Math.Bool.{or_comm}
use Rattle.std.proofs.lemmas.Cmp.{lists_equiv, nat_list_eq_equiv}
use Rattle.std.proofs.lemmas.List.{map-append}
use Rattle.std.proofs.lemmas.List.Folds.{list_all-append, list_any-append}
use Rattle.std.proofs.lemmas.List.Sums.{sum_by-append}
use Rattle.machine_model.specs.Components.{Name, components, is_within, same_name}
use Rattle.machine_model.specs.FirstTree.{FirstFile, are_apart, differ, leave_room, may_be_named, may_begin, may_hold, may_hold_all, name_of, stand_apart}
use Rattle.machine_model.specs.Limits.{MAX_FILE_LEN, MAX_TOTAL_LEN}
use Rattle.script_grammar.specs.Setup.{may_add}

any_named : (name : Name) (files : List FirstFile) → list_any (λ other. is_within other name) (map name_of files)
    ≡ list_any (λ file. is_within (name_of file) name) files
any_named name [] = refl
any_named name (file ∷ files) = rw (any_named name files) refl

-- the same of names that are those of files
pub any_named_by : (names : List Name) (name : Name) (files : List FirstFile) → names ≡ map name_of files
    → list_any (λ other. is_within other name) names ≡ list_any (λ file. is_within (name_of file) name) files
any_named_by names name files e = rw e (any_named name files)

neither : (a b : Bool) → (a || b) ≡ false → (a ≡ false) × (b ≡ false)
neither false false e = (refl, refl)
neither false true e = absurd cc
neither true b e = absurd cc

is_so : (a : Bool) → not a ≡ false → a ≡ true
is_so true e = refl
is_so false e = absurd cc

-- ---- one name more

apart_sym : (a b : Name) → are_apart a b ≡ are_apart b a
apart_sym a b = ap not (or_comm (is_within a b) (is_within b a))

same_sym : (a b : Name) → same_name a b ≡ same_name b a
same_sym = (lists_equiv nat_list_eq_equiv).symm

apart_more : (names : List Name) (name : Name) → stand_apart names ≡ true → list_all (are_apart name) names ≡ true
    → stand_apart (names ++ name ∷ []) ≡ true
apart_more [] name h k = refl
apart_more (x ∷ names) name h k =
    let old = and_parts (list_all (are_apart x) names) (stand_apart names) h in
    let new = and_parts (are_apart name x) (list_all (are_apart name) names) k in
    rw (
      list_all-append (are_apart x) names (name ∷ []),
      old.0,
      apart_sym x name,
      new.0,
      apart_more names name old.1 new.1,
    ) refl

differ_more : (names : List Name) (name : Name) → differ names ≡ true → list_any (same_name name) names ≡ false
    → differ (names ++ name ∷ []) ≡ true
differ_more [] name h k = refl
differ_more (x ∷ names) name h k =
    let old = and_parts (not (list_any (same_name x) names)) (differ names) h in
    let new = neither (same_name name x) (list_any (same_name name) names) k in
    rw (
      list_any-append (same_name x) names (name ∷ []),
      same_sym x name,
      new.0,
      without (list_any (same_name x) names) old.0,
      differ_more names name old.1 new.1,
    ) refl
  where
    without : (b : Bool) → not b ≡ true → b ≡ false
    without true e = absurd cc
    without false e = refl

room_more : (files dirs : List Name) (name : Name) → leave_room files dirs ≡ true
    → list_any (λ file. is_within file name) files ≡ false → leave_room files (dirs ++ name ∷ []) ≡ true
room_more [] dirs name h k = refl
room_more (file ∷ files) dirs name h k =
    let old = and_parts (not (list_any (is_within file) dirs)) (leave_room files dirs) h in
    let new = neither (is_within file name) (list_any (λ other. is_within other name) files) k in
    rw (
      list_any-append (is_within file) dirs (name ∷ []),
      new.0,
      or_none (list_any (is_within file) dirs),
      old.0,
      room_more files dirs name old.1 new.1,
    ) refl
  where
    or_none : (b : Bool) → (b || false) ≡ b
    or_none true = refl
    or_none false = refl

-- ---- what `may_begin` looks at

record Begins (files : List FirstFile) (dirs : List (List ℕ)) : Type 0 where
  sizes : list_all may_hold files ≡ true
  total : may_hold_all files ≡ true
  files_named : list_all may_be_named (map name_of files) ≡ true
  dirs_named : list_all may_be_named (map components dirs) ≡ true
  dirs_differ : differ (map components dirs) ≡ true
  apart : stand_apart (map name_of files) ≡ true
  room : leave_room (map name_of files) (map components dirs) ≡ true

parts_of : (files : List FirstFile) (dirs : List (List ℕ)) → may_begin files dirs ≡ true → Begins files dirs
parts_of files dirs h =
    let f = and_parts _ (leave_room (map name_of files) (map components dirs)) h in
    let e = and_parts _ (stand_apart (map name_of files)) f.0 in
    let d = and_parts _ (differ (map components dirs)) e.0 in
    let c = and_parts _ (list_all may_be_named (map components dirs)) d.0 in
    let b = and_parts _ (list_all may_be_named (map name_of files)) c.0 in
    let a = and_parts (list_all may_hold files) (may_hold_all files) b.0 in
    record { sizes = a.0; total = a.1; files_named = b.1; dirs_named = c.1; dirs_differ = d.1; apart = e.1; room = f.1 }

whole_of : (files : List FirstFile) (dirs : List (List ℕ)) → Begins files dirs → may_begin files dirs ≡ true
whole_of files dirs b = rw (b.sizes, b.total, b.files_named, b.dirs_named, b.dirs_differ, b.apart, b.room) refl

-- all of some, and one more
all_more : {A : Type 0} (f : A → Bool) (xs : List A) (x : A) → list_all f xs ≡ true → f x ≡ true
    → list_all f (xs ++ x ∷ []) ≡ true
all_more f xs x h k = rw (list_all-append f xs (x ∷ []), h, k) refl

zero_more : (n : ℕ) → 0 + n ≡ n
zero_more n = omega arith

pub file_begins : (files : List FirstFile) (dirs : List (List ℕ)) (path content : List ℕ) → may_begin files dirs ≡ true
    → may_be_named (components path) ≡ true → may_add files content ≡ true
    → (not (list_all (are_apart (components path)) (map name_of files))
    || list_any (is_within (components path)) (map components dirs)) ≡ false
    → may_begin (files ++ (path, content) ∷ []) dirs ≡ true
file_begins files dirs path content h named fits unmet =
    let file : FirstFile = (path, content) in
    let b = parts_of files dirs h in
    let fit = and_parts (nat_le (length content) MAX_FILE_LEN)
    (nat_le (sum_by (λ f. length f.1) files + length content) MAX_TOTAL_LEN) fits in
    let free = neither (not (list_all (are_apart (components path)) (map name_of files)))
    (list_any (is_within (components path)) (map components dirs)) unmet in
    let one : sum_by (λ (f : FirstFile). length f.1) (file ∷ []) ≡ length content = zero_more (length content) in
    let names : map name_of (files ++ file ∷ []) ≡ map name_of files ++ components path ∷ [] =
    map-append name_of files (file ∷ []) in
    whole_of (files ++ file ∷ []) dirs (record {
      sizes = all_more may_hold files file b.sizes fit.0;
      total = rw (sum_by-append (λ f. length f.1) files (file ∷ []), one) fit.1;
      files_named = rw names (all_more may_be_named (map name_of files) (components path) b.files_named named);
      dirs_named = b.dirs_named;
      dirs_differ = b.dirs_differ;
      apart = rw names (apart_more (map name_of files) (components path) b.apart
          (is_so (list_all (are_apart (components path)) (map name_of files)) free.0));
      room = rw names (all_more (λ f. not (list_any (is_within f) (map components dirs))) (map name_of files)
          (components path) b.room (ap not free.1));
    })

pub dir_begins : (files : List FirstFile) (dirs : List (List ℕ)) (path : List ℕ) → may_begin files dirs ≡ true
    → may_be_named (components path) ≡ true
    → (list_any (same_name (components path)) (map components dirs)
    || list_any (λ file. is_within (name_of file) (components path)) files) ≡ false
    → may_begin files (dirs ++ path ∷ []) ≡ true
dir_begins files dirs path h named unmet =
    let b = parts_of files dirs h in
    let free = neither (list_any (same_name (components path)) (map components dirs))
    (list_any (λ file. is_within (name_of file) (components path)) files) unmet in
    let names : map components (dirs ++ path ∷ []) ≡ map components dirs ++ components path ∷ [] =
    map-append components dirs (path ∷ []) in
    whole_of files (dirs ++ path ∷ []) (record {
      sizes = b.sizes;
      total = b.total;
      files_named = b.files_named;
      dirs_named = rw names (all_more may_be_named (map components dirs) (components path) b.dirs_named named);
      dirs_differ = rw names (differ_more (map components dirs) (components path) b.dirs_differ free.0);
      apart = b.apart;
      room = rw names (room_more (map name_of files) (map components dirs) (components path) b.room
          (any_named (components path) files ∙ free.1));
    })
