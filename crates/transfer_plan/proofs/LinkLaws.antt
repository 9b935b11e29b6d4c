-- The components of a symbolic link's text.
use Rattle.std.proofs.Common.{
  ◌≡◌,
  ◌≢◌,
  ◌≤◌,
  ◌<◌,
  ◌+◌,
  ◌-◌,
  ◌==◌,
  ◌||◌,
  ℕ,
  zero,
  suc,
  Bool,
  true,
  false,
  List,
  [],
  ◌∷◌,
  ◌++◌,
  Option,
  Some,
  None,
  codes,
  drop,
  get_or,
  length,
  take,
  if◌then◌else◌,
  refl,
  sym,
  ap,
  ◌∙◌,
  subst,
  arith,
}
use Rattle.std.specs.Str.{bytes_eq}
use Rattle.std.proofs.Math.Seq.{take-append-add}
use Rattle.std.proofs.lemmas.List.{append_assoc, length-append, length-take-le}
use Rattle.sftp_model.specs.Paths.{is_absolute_path, slash}
use Rattle.machine_model.specs.Components.{Name, parent_of, parts_of, step_into, walk_from, with_byte}
use Rattle.transfer_plan.specs.Links.{EndsPart, climbs, depth_after, leads_out, later_parts}

-- a byte before a first part
longer : (b : ℕ) (names : List ℕ) (len : ℕ) → b ≢ slash → EndsPart names len → EndsPart (b ∷ names) (suc len)
longer b names len other h = record {
  within = let less = h.within in omega (arith, less);
  first =
      let no : (b == slash) ≡ false = grind (arith, other) in
      rw no (ap (with_byte b) h.first);
}

pub first_part : (names : List ℕ) (at : ℕ) → at < length names → ((k : ℕ) → k < at → get_or names k 0 ≢ slash)
    → get_or names at 0 ≡ slash → EndsPart names at
first_part [] at within before is = absurd (omega (arith, within))
first_part (b ∷ names) zero within before is = record {
  within = omega arith;
  first = let yes : (b == slash) ≡ true = grind (arith, is) in rw yes refl;
}
first_part (b ∷ names) (suc at) within before is =
    longer b names at (before 0 (omega arith))
    (first_part names at (omega (arith, within)) (λ k less. before (suc k) (omega (arith, less))) is)

pub whole_part : (names : List ℕ) → ((k : ℕ) → k < length names → get_or names k 0 ≢ slash)
    → EndsPart names (length names)
whole_part [] all = record { within = omega arith; first = refl }
whole_part (b ∷ names) all =
    longer b names (length names) (all 0 (omega arith))
    (whole_part names (λ k less. all (suc k) (omega (arith, less))))

-- the first component is followed, and the others are left
pub followed : (depth : ℕ) (rest : List ℕ) (len : ℕ) → EndsPart rest len
    → climbs (Some depth) (parts_of rest) ≡ climbs (depth_after depth (take len rest)) (later_parts (drop len rest))
followed depth rest len h = ap (climbs (Some depth)) h.first

-- one component leads at most one down
pub one_down : (depth after : ℕ) (part : List ℕ) → depth_after depth part ≡ Some after → after ≤ depth + 1
one_down depth after part e =
    by_tests (bytes_eq part [] || bytes_eq part (codes ".")) (bytes_eq part (codes "..")) (depth == 0) e
  where
    by_tests : (stays up top : Bool)
        → (if stays then Some depth else if up then (if top then None else Some (depth - 1)) else Some (depth + 1))
        ≡ Some after → after ≤ depth + 1
    by_tests true up top e = let same : depth ≡ after = cc in omega (arith, same)
    by_tests false true true e = absurd cc
    by_tests false true false e = let less : depth - 1 ≡ after = cc in omega (arith, less)
    by_tests false false top e = let more : depth + 1 ≡ after = cc in omega (arith, more)

-- ---- where a link leads

-- up from below the root
up_below : (root below : Name) → (length below == 0) ≡ false
    → (parent_of (root ++ below) ≡ root ++ parent_of below) × (length (parent_of below) ≡ length below - 1)
up_below root below some =
    let here : 1 ≤ length below = grind (arith, some) in
    let all = length-append root below in
    let at : length (root ++ below) - 1 ≡ length root + (length below - 1) = omega (arith, all, here) in (
      ap (λ (n : ℕ). take n (root ++ below)) at ∙ take-append-add root below (length below - 1),
      length-take-le (length below - 1) below (omega arith),
    )

-- components that never lead above the root lead to a place below it
inside : (root below : Name) (parts : List (List ℕ)) → climbs (Some (length below)) parts ≡ false
    → (rest : Name) × (walk_from (root ++ below) parts ≡ root ++ rest)
inside root below [] e = (below, refl)
inside root below (part ∷ later) e =
    by_tests (bytes_eq part [] || bytes_eq part (codes ".")) (bytes_eq part (codes ".."))
    (λ below. inside root below later) e
  where
    by_top : (top : Bool) → (length below == 0) ≡ top
        → ((below : Name) → climbs (Some (length below)) later ≡ false
        → (rest : Name) × (walk_from (root ++ below) later ≡ root ++ rest))
        → climbs (if top then None else Some (length below - 1)) later ≡ false
        → (rest : Name) × (walk_from (parent_of (root ++ below)) later ≡ root ++ rest)
    by_top true is onward e = absurd cc
    by_top false is onward e =
        let up = up_below root below is in
        let on = onward (parent_of below) (ap (λ (n : ℕ). climbs (Some n) later) (up.1) ∙ e) in
        (on.0, ap (λ (at : Name). walk_from at later) (up.0) ∙ on.1)

    by_tests : (stays up : Bool)
        → ((below : Name) → climbs (Some (length below)) later ≡ false
        → (rest : Name) × (walk_from (root ++ below) later ≡ root ++ rest))
        → climbs (if stays then Some (length below)
        else if up then (if length below == 0 then None else Some (length below - 1))
        else Some (length below + 1)) later ≡ false
        → (rest : Name) × (walk_from (if stays then root ++ below
        else if up then parent_of (root ++ below)
        else (root ++ below) ++ part ∷ []) later ≡ root ++ rest)
    by_tests true up onward e = onward below e
    by_tests false true onward e = by_top (length below == 0) refl onward e
    by_tests false false onward e =
        let on = onward (below ++ part ∷ [])
        (ap (λ (n : ℕ). climbs (Some n) later) (length-append below (part ∷ [])) ∙ e) in
        (on.0, ap (λ (at : Name). walk_from at later) (append_assoc root below (part ∷ [])) ∙ on.1)

-- A link that does not lead out leads to a place below the root, from a directory below the root and by no other link.
pub stays_inside : (root below : Name) (names : List ℕ) → leads_out (length below) names ≡ false
    → (rest : Name) × (walk_from (root ++ below) (parts_of names) ≡ root ++ rest)
stays_inside root below names e =
    inside root below (parts_of names) (or_right (length names == 0 || is_absolute_path names)
    (climbs (Some (length below)) (parts_of names)) e)
  where
    or_right : (a b : Bool) → (a || b) ≡ false → b ≡ false
    or_right false b e = e
    or_right true b e = absurd cc
