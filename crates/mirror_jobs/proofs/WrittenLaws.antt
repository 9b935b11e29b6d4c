-- A name of plain components is what its written form denotes.
use Rattle.std.proofs.Common.{◌≡◌, ℕ, zero, suc, ◌==◌, ◌-◌, Bool, true, false, not, List, [], ◌∷◌, ◌++◌, codes, length, take, if◌then◌else◌, refl, ap, sym, ◌∙◌}
use Rattle.std.specs.Prelude.{◌&&◌, ◌||◌}
use Rattle.std.specs.List.{list_all}
use Rattle.std.specs.Str.{bytes_eq}
use Rattle.std.proofs.lemmas.Bool.{and_parts}
use Rattle.std.proofs.lemmas.List.{append-nil, append_assoc}
use Rattle.sftp_model.specs.Paths.{slash}
use Rattle.machine_model.specs.Components.{Name, components, step_into, parent_of, parts_of, walk_from, with_byte, text_of_name}
use Rattle.mirror_jobs.specs.PlainNames.{is_plain, is_unparted}

-- ---- parts

-- parts without slashes: a byte that is none goes before the first one
byte_unparted : (b : ℕ) (parts : List (List ℕ)) → (b == slash) ≡ false → list_all is_unparted parts ≡ true
    → list_all is_unparted (with_byte b parts) ≡ true
byte_unparted b [] other all = rw (other) refl
byte_unparted b (part ∷ parts) other all = let both = and_parts (is_unparted part) (list_all is_unparted parts) all in
    rw (other, both.0, both.1) refl

parts_unparted : (path : List ℕ) → list_all is_unparted (parts_of path) ≡ true
parts_unparted [] = refl
parts_unparted (b ∷ path) = by_test (b == slash) refl (parts_unparted path)
  where
    by_test : (t : Bool) → (b == slash) ≡ t → list_all is_unparted (parts_of path) ≡ true
        → list_all is_unparted (if t then [] ∷ parts_of path else with_byte b (parts_of path)) ≡ true
    by_test true is all = all
    by_test false is all = byte_unparted b (parts_of path) is all

-- ---- where one stands

all_take : (n : ℕ) (name : Name) → list_all is_plain name ≡ true → list_all is_plain (take n name) ≡ true
all_take zero name all = refl
all_take (suc n) [] all = refl
all_take (suc n) (part ∷ name) all = let both = and_parts (is_plain part) (list_all is_plain name) all in
    rw (both.0, all_take n name both.1) refl

all_push : (name : Name) (part : List ℕ) → list_all is_plain name ≡ true → is_plain part ≡ true
    → list_all is_plain (name ++ part ∷ []) ≡ true
all_push [] part all plain = rw plain refl
all_push (first ∷ name) part all plain = let both = and_parts (is_plain first) (list_all is_plain name) all in
    rw (both.0, all_push name part both.1 plain) refl

enters_plain : (at : Name) (part : List ℕ) → list_all is_plain at ≡ true → is_unparted part ≡ true
    → list_all is_plain (step_into at part) ≡ true
enters_plain at part all unparted = by_tests (bytes_eq part []) (bytes_eq part (codes ".")) (bytes_eq part (codes ".."))
    refl refl refl
  where
    by_tests : (a b c : Bool) → bytes_eq part [] ≡ a → bytes_eq part (codes ".") ≡ b → bytes_eq part (codes "..") ≡ c
        → list_all is_plain (if a || b then at else if c then parent_of at else at ++ part ∷ []) ≡ true
    by_tests true b c e f g = all
    by_tests false true c e f g = all
    by_tests false false true e f g = all_take (length at - 1) at all
    by_tests false false false e f g = all_push at part all (rw (unparted, e, f, g) refl)

walks_plain : (at : Name) (parts : List (List ℕ)) → list_all is_plain at ≡ true → list_all is_unparted parts ≡ true
    → list_all is_plain (walk_from at parts) ≡ true
walks_plain at [] all unparted = all
walks_plain at (part ∷ parts) all unparted = let both = and_parts (is_unparted part) (list_all is_unparted parts)
    unparted in walks_plain (step_into at part) parts (enters_plain at part all both.0) both.1

pub plain_components : (path : List ℕ) → list_all is_plain (components path) ≡ true
unfolding components
plain_components path = walks_plain [] (parts_of path) refl (parts_unparted path)

-- ---- the written form

-- bytes before the first of these parts
abbrev before_first : List ℕ → List (List ℕ) → List (List ℕ)
before_first bytes [] = bytes ∷ []
before_first bytes (part ∷ parts) = (bytes ++ part) ∷ parts

byte_before : (b : ℕ) (bytes : List ℕ) (parts : List (List ℕ)) → with_byte b (before_first bytes parts)
    ≡ before_first (b ∷ bytes) parts
byte_before b bytes [] = refl
byte_before b bytes (part ∷ parts) = refl

parts_behind : (part path : List ℕ) → is_unparted part ≡ true → parts_of (part ++ path)
    ≡ before_first part (parts_of path)
parts_behind [] path unparted = whole (parts_of path) (some path)
  where
    whole : (parts : List (List ℕ)) → ((parts ≡ []) → ⊥) → parts ≡ before_first [] parts
    whole [] none = absurd (none refl)
    whole (first ∷ parts) none = refl

    some_with : (b : ℕ) (parts : List (List ℕ)) → with_byte b parts ≡ [] → ⊥
    some_with b [] e = cc
    some_with b (first ∷ parts) e = cc

    some : (path : List ℕ) → parts_of path ≡ [] → ⊥
    some [] e = cc
    some (b ∷ path) e = by_test (b == slash) e
      where
        by_test : (t : Bool) → (if t then [] ∷ parts_of path else with_byte b (parts_of path)) ≡ [] → ⊥
        by_test true e = cc
        by_test false e = some_with b (parts_of path) e
parts_behind (b ∷ part) path unparted =
    let both = and_parts (not (b == slash)) (is_unparted part) unparted in
    by_test (b == slash) refl both.0 (parts_behind part path both.1)
  where
    by_test : (t : Bool) → (b == slash) ≡ t → not t ≡ true → parts_of (part ++ path) ≡ before_first part (parts_of path)
        → (if t then [] ∷ parts_of (part ++ path) else with_byte b (parts_of (part ++ path)))
        ≡ before_first (b ∷ part) (parts_of path)
    by_test true is other rest = absurd cc
    by_test false is other rest = ap (with_byte b) rest ∙ byte_before b part (parts_of path)

unparted : (part : List ℕ) → is_plain part ≡ true → is_unparted part ≡ true
unparted part plain =
    let one = and_parts (is_unparted part && not (bytes_eq part []) && not (bytes_eq part (codes ".")))
    (not (bytes_eq part (codes ".."))) plain in
    let two = and_parts (is_unparted part && not (bytes_eq part [])) (not (bytes_eq part (codes "."))) one.0 in
    (and_parts (is_unparted part) (not (bytes_eq part [])) two.0).0

parts_written : (part : List ℕ) (parts : Name) → list_all is_plain (part ∷ parts) ≡ true
    → parts_of (text_of_name (part ∷ parts)) ≡ part ∷ parts
parts_written part [] all =
    let both = and_parts (is_plain part) (list_all is_plain []) all in
    ap parts_of (sym (append-nil part)) ∙ (parts_behind part [] (unparted part both.0)
    ∙ ap (λ (w : List ℕ). let l : List (List ℕ) = w ∷ [] in l) (append-nil part))
parts_written part (next ∷ parts) all =
    let both = and_parts (is_plain part) (list_all is_plain (next ∷ parts)) all in
    parts_behind part (slash ∷ text_of_name (next ∷ parts)) (unparted part both.0)
    ∙ (ap (λ (w : List ℕ). let l : List (List ℕ) = w ∷ parts_of (text_of_name (next ∷ parts)) in l) (append-nil part)
    ∙ ap (λ (w : List (List ℕ)). let l : List (List ℕ) = part ∷ w in l) (parts_written next parts both.1))

enters : (at : Name) (part : List ℕ) → is_plain part ≡ true → step_into at part ≡ at ++ part ∷ []
enters at part plain =
    let one = and_parts (is_unparted part && not (bytes_eq part []) && not (bytes_eq part (codes ".")))
    (not (bytes_eq part (codes ".."))) plain in
    let two = and_parts (is_unparted part && not (bytes_eq part [])) (not (bytes_eq part (codes "."))) one.0 in
    let three = and_parts (is_unparted part) (not (bytes_eq part [])) two.0 in
    by_tests (bytes_eq part []) (bytes_eq part (codes ".")) (bytes_eq part (codes "..")) three.1 two.1 one.1
  where
    by_tests : (a b c : Bool) → not a ≡ true → not b ≡ true → not c ≡ true
        → (if a || b then at else if c then parent_of at else at ++ part ∷ []) ≡ at ++ part ∷ []
    by_tests true b c e f g = absurd cc
    by_tests false true c e f g = absurd cc
    by_tests false false true e f g = absurd cc
    by_tests false false false e f g = refl

walks : (at : Name) (parts : Name) → list_all is_plain parts ≡ true → walk_from at parts ≡ at ++ parts
walks at [] all = sym (append-nil at)
walks at (part ∷ parts) all =
    let both = and_parts (is_plain part) (list_all is_plain parts) all in
    ap (λ (w : Name). walk_from w parts) (enters at part both.0)
    ∙ (walks (at ++ part ∷ []) parts both.1 ∙ append_assoc at (part ∷ []) parts)

pub components_written : (name : Name) → list_all is_plain name ≡ true → components (text_of_name name) ≡ name
unfolding components
components_written [] all = refl
components_written (part ∷ parts) all = ap (walk_from []) (parts_written part parts all) ∙ walks [] (part ∷ parts) all

pub components_led : (path : List ℕ) → components (slash ∷ path) ≡ components path
unfolding components
components_led path = refl
