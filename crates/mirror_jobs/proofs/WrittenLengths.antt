-- The path of a directory that a file stands in is no longer than the file's.
use Rattle.std.proofs.Common.{
  ◌≡◌,
  ◌<◌,
  ◌≤◌,
  ◌-◌,
  ◌+◌,
  ◌==◌,
  ℕ,
  zero,
  suc,
  Bool,
  true,
  false,
  List,
  [],
  ◌∷◌,
  ◌++◌,
  codes,
  length,
  take,
  if◌then◌else◌,
  refl,
  arith,
}
use Rattle.std.specs.Prelude.{◌||◌}
use Rattle.std.specs.Str.{bytes_eq}
use Rattle.std.proofs.lemmas.List.{length-append}
use Rattle.sftp_model.specs.Paths.{slash}
use Rattle.machine_model.specs.Components.{Name, components, step_into, parent_of, parts_of, walk_from, with_byte, text_of_name}
use Rattle.mirror_jobs.specs.Parents.{leading_slash}

-- the bytes of these parts, each with a slash
abbrev pub weight : Name → ℕ
weight [] = 0
weight (part ∷ name) = 1 + length part + weight name

weight_push : (name : Name) (part : List ℕ) → weight (name ++ part ∷ []) ≡ weight name + 1 + length part
weight_push [] part = omega arith
weight_push (x ∷ name) part = (let more = weight_push name part in omega (arith, more))

weight_take : (n : ℕ) (name : Name) → weight (take n name) ≤ weight name
weight_take zero name = omega arith
weight_take (suc n) [] = omega arith
weight_take (suc n) (x ∷ name) = (let more = weight_take n name in omega (arith, more))

weight_less : (n : ℕ) (name : Name) → n < length name → weight (take n name) + 1 ≤ weight name
weight_less n [] lt = absurd (omega (arith, lt))
weight_less zero (x ∷ name) lt = omega arith
weight_less (suc n) (x ∷ name) lt = (let more = weight_less n name (omega (arith, lt)) in omega (arith, more))

-- ---- what a path denotes

entered_weight : (at : Name) (part : List ℕ) → weight (step_into at part) ≤ weight at + 1 + length part
entered_weight at part = by_tests (bytes_eq part [] || bytes_eq part (codes ".")) (bytes_eq part (codes ".."))
  where
    by_tests : (a b : Bool) → weight (if a then at else if b then parent_of at else at ++ part ∷ []) ≤ weight at + 1 +
        length part
    by_tests true b = omega arith
    by_tests false true = (let less = weight_take (length at - 1) at in omega (arith, less))
    by_tests false false = (let same = weight_push at part in omega (arith, same))

walked_weight : (at : Name) (parts : List (List ℕ)) → weight (walk_from at parts) ≤ weight at + weight parts
walked_weight at [] = omega arith
walked_weight at (part ∷ parts) =
    let one = entered_weight at part in
    let more = walked_weight (step_into at part) parts in omega (arith, one, more)

byte_weight : (b : ℕ) (parts : List (List ℕ)) → 1 ≤ length parts → weight (with_byte b parts) ≡ weight parts + 1
byte_weight b [] some = absurd (omega (arith, some))
byte_weight b (part ∷ parts) some = omega arith

byte_some : (b : ℕ) (parts : List (List ℕ)) → 1 ≤ length (with_byte b parts)
byte_some b [] = omega arith
byte_some b (part ∷ parts) = omega arith

parts_some : (path : List ℕ) → 1 ≤ length (parts_of path)
parts_some [] = omega arith
parts_some (b ∷ path) = by_test (b == slash)
  where
    by_test : (t : Bool) → 1 ≤ length (if t then [] ∷ parts_of path else with_byte b (parts_of path))
    by_test true = omega arith
    by_test false = byte_some b (parts_of path)

parts_weight : (path : List ℕ) → weight (parts_of path) ≡ length path + 1
parts_weight [] = refl
parts_weight (b ∷ path) = by_test (b == slash) (parts_weight path)
  where
    by_test : (t : Bool) → weight (parts_of path) ≡ length path + 1
        → weight (if t then [] ∷ parts_of path else with_byte b (parts_of path)) ≡ suc (length path) + 1
    by_test true more = omega (arith, more)
    by_test false more = (let one = byte_weight b (parts_of path) (parts_some path) in omega (arith, more, one))

pub components_weight : (path : List ℕ) → weight (components path) ≤ length path + 1
unfolding components
components_weight path = let a = walked_weight [] (parts_of path) in let b = parts_weight path in omega (arith, a, b)

-- ---- what a name is written as

written_weight : (part : List ℕ) (name : Name) → length (text_of_name (part ∷ name)) + 1 ≡ weight (part ∷ name)
written_weight part [] = omega arith
written_weight part (next ∷ name) =
    let more = written_weight next name in
    let l : length (part ++ slash ∷ text_of_name (next ∷ name))
    ≡ length part + length (slash ∷ text_of_name (next ∷ name)) =
    length-append part (slash ∷ text_of_name (next ∷ name)) in
    omega (arith, more, l)

leading_short : (path : List ℕ) → length (leading_slash path) ≤ 1
leading_short [] = omega arith
leading_short (b ∷ path) = by_test (b == slash)
  where
    by_test : (t : Bool) → length (if t then slash ∷ [] else []) ≤ 1
    by_test true = omega arith
    by_test false = omega arith

written_short : (name : Name) → 0 < length name → length (text_of_name name) + 1 ≡ weight name
written_short [] some = absurd (omega (arith, some))
written_short (part ∷ name) some = written_weight part name

pub above_short : (path : List ℕ) (i : ℕ) → 0 < i → i < length (components path)
    → length (leading_slash path ++ text_of_name (take i (components path))) ≤ length path
above_short path i some below =
    let name : Name = components path in
    let l : length (leading_slash path ++ text_of_name (take i name))
    ≡ length (leading_slash path) + length (text_of_name (take i name)) =
    length-append (leading_slash path) (text_of_name (take i name)) in
    let lead = leading_short path in
    let w : length (text_of_name (take i name)) + 1 ≡ weight (take i name) =
    written_short (take i name) (taken name i some below) in
    let less = weight_less i name below in
    let all = components_weight path in omega (arith, l, lead, w, less, all)
  where
    taken : (name : Name) (i : ℕ) → 0 < i → i < length name → 0 < length (take i name)
    taken name zero some below = absurd (omega (arith, some))
    taken [] (suc i) some below = absurd (omega (arith, below))
    taken (x ∷ name) (suc i) some below = omega arith
