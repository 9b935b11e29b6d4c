-- Where the path of an entry leads.
use Rattle.std.proofs.Common.{
  ◌≡◌,
  ◌==◌,
  ◌&&◌,
  ◌||◌,
  ◌-◌,
  ℕ,
  Bool,
  true,
  false,
  not,
  List,
  [],
  ◌∷◌,
  ◌++◌,
  length,
  codes,
  Option,
  Some,
  if◌then◌else◌,
  refl,
  sym,
  ap,
  ◌∙◌,
  subst,
  arith,
}
use Rattle.std.specs.List.{slice_get, list_all, list_any}
use Rattle.std.specs.Str.{bytes_eq}
use Rattle.std.proofs.lemmas.List.{append_assoc, append-nil, length-append}
use Rattle.std.proofs.lemmas.List.Folds.{list_all-append}
use Rattle.sftp_model.specs.Paths.{is_absolute_path, last_byte, separator_behind, slash}
use Rattle.machine_model.specs.Components.{Name, components, step_into, parts_of, walk_from, with_byte}
use Rattle.transfer_plan.specs.Names.{LeadsInto, StaysIn, is_component, path_in}

-- ---- what a component is not

abbrev has_ending : List ℕ → Bool
has_ending name = list_any (λ b. b == slash || b == 0) name

record IsClean (name : List ℕ) : Type 0 where
  some : (length name == 0) ≡ false
  other : bytes_eq name (codes ".") ≡ false
  not_above : bytes_eq name (codes "..") ≡ false
  whole : has_ending name ≡ false

by_tests : (a b c d : Bool) → (not a && not b && not c && not d) ≡ true
    → (a ≡ false) × (b ≡ false) × (c ≡ false) × (d ≡ false)
by_tests true b c d e = absurd cc
by_tests false true c d e = absurd cc
by_tests false false true d e = absurd cc
by_tests false false false true e = absurd cc
by_tests false false false false e = (refl, refl, refl, refl)

clean : (name : List ℕ) → is_component name ≡ true → IsClean name
unfolding is_component
clean name e =
    let all : (length name == 0 ≡ false) × (bytes_eq name (codes ".") ≡ false) × (bytes_eq name (codes "..") ≡ false)
    × (has_ending name ≡ false)
    = by_tests (length name == 0) (bytes_eq name (codes ".")) (bytes_eq name (codes "..")) (has_ending name) e in
    record { some = all.0; other = all.1; not_above = all.2; whole = all.3 }

-- ---- parts of a path

or_left : (a b : Bool) → (a || b) ≡ false → a ≡ false
or_left true b e = absurd cc
or_left false b e = refl

or_right : (a b : Bool) → (a || b) ≡ false → b ≡ false
or_right true b e = absurd cc
or_right false b e = e

-- a name without a slash is one part
one_part : (name : List ℕ) → has_ending name ≡ false → parts_of name ≡ name ∷ []
one_part [] e = refl
one_part (b ∷ name) e =
    let here : (b == slash || b == 0) ≡ false = or_left (b == slash || b == 0) (has_ending name) e in
    let later : has_ending name ≡ false = or_right (b == slash || b == 0) (has_ending name) e in
    let other : (b == slash) ≡ false = or_left (b == slash) (b == 0) here in
    rw other (rw (one_part name later) refl)

-- there is a first part
record Begins (parts : List (List ℕ)) : Type 0 where
  first : List ℕ
  later : List (List ℕ)
  is : parts ≡ first ∷ later

begins : (path : List ℕ) → Begins (parts_of path)
begins [] = record { first = []; later = []; is = refl }
begins (b ∷ path) = by_test (b == slash) (begins path)
  where
    by_test : (t : Bool) → Begins (parts_of path) → Begins (if t then [] ∷ parts_of path else
        with_byte b (parts_of path))
    by_test true h = record { first = []; later = parts_of path; is = refl }
    by_test false h = record { first = b ∷ h.first; later = h.later; is = ap (with_byte b) h.is }

byte_append : (b : ℕ) (ps qs : List (List ℕ)) → Begins ps → with_byte b (ps ++ qs) ≡ with_byte b ps ++ qs
byte_append b ps qs h = rw (h.is) refl

-- a slash parts what stands before it from what stands behind it
parts_append : (xs ys : List ℕ) → parts_of (xs ++ slash ∷ ys) ≡ parts_of xs ++ parts_of ys
parts_append [] ys = refl
parts_append (b ∷ xs) ys = by_test (b == slash) (parts_append xs ys)
  where
    by_test : (t : Bool) → parts_of (xs ++ slash ∷ ys) ≡ parts_of xs ++ parts_of ys
        → (if t then [] ∷ parts_of (xs ++ slash ∷ ys) else with_byte b (parts_of (xs ++ slash ∷ ys)))
        ≡ (if t then [] ∷ parts_of xs else with_byte b (parts_of xs)) ++ parts_of ys
    by_test true onward = ap (λ (l : List (List ℕ)). [] ∷ l) onward
    by_test false onward = ap (with_byte b) onward ∙ byte_append b (parts_of xs) (parts_of ys) (begins xs)

walked_append : (at : Name) (ps qs : List (List ℕ)) → walk_from at (ps ++ qs) ≡ walk_from (walk_from at ps) qs
walked_append at [] qs = refl
walked_append at (p ∷ ps) qs = walked_append (step_into at p) ps qs

-- ---- where they lead

enters : (at : Name) (name : List ℕ) → IsClean name → step_into at name ≡ at ++ name ∷ []
enters at [] h = absurd (let e : true ≡ false = h.some in cc)
enters at (b ∷ name) h = rw (h.other) (rw (h.not_above) refl)

-- a path that ends in a slash, and a component behind it
behind_slash : (folder name : List ℕ) → is_component name ≡ true
    → components (folder ++ slash ∷ name) ≡ components folder ++ name ∷ []
unfolding components
behind_slash folder name e =
    let h : IsClean name = clean name e in
    ap (walk_from []) (parts_append folder name)
    ∙ walked_append [] (parts_of folder) (parts_of name)
    ∙ ap (walk_from (walk_from [] (parts_of folder))) (one_part name (h.whole))
    ∙ enters (walk_from [] (parts_of folder)) name h

alone : (name : List ℕ) → is_component name ≡ true → components name ≡ name ∷ []
unfolding components
alone name e =
    let h : IsClean name = clean name e in
    ap (walk_from []) (one_part name (h.whole)) ∙ enters [] name h

-- a slash at the end leads nowhere
closed_same : (folder : List ℕ) → components (folder ++ slash ∷ []) ≡ components folder
unfolding components
closed_same folder = ap (walk_from []) (parts_append folder []) ∙ walked_append [] (parts_of folder) (parts_of [])

-- ---- a folder by its last byte

-- nothing, or a last byte and what stands before it
pub data Ending (path : List ℕ) : Type 0 where
  Nothing : path ≡ [] → Ending path
  Last : (front : List ℕ) → (b : ℕ) → path ≡ front ++ b ∷ [] → Ending path

pub ending : (path : List ℕ) → Ending path
ending [] = Nothing refl
ending (x ∷ path) = elim (ending path) [
  | Nothing e ↦ Last [] x (ap (λ (l : List ℕ). x ∷ l) e)
  | Last front b e ↦ Last (x ∷ front) b (ap (λ (l : List ℕ). x ∷ l) e)
]

got_last : (front : List ℕ) (b : ℕ) → slice_get (front ++ b ∷ []) (length front) ≡ Some b
got_last [] b = refl
got_last (x ∷ front) b = got_last front b

pub last_is : (front : List ℕ) (b : ℕ) → last_byte (front ++ b ∷ []) ≡ Some b
last_is front b =
    let len : length (front ++ b ∷ []) - 1 ≡ length front = rw (length-append front (b ∷ [])) (omega arith) in
    ap (slice_get (front ++ b ∷ [])) len ∙ got_last front b

-- ---- the path of an entry

down_none : (name : List ℕ) → is_component name ≡ true → components (path_in [] name) ≡ components [] ++ name ∷ []
unfolding components
down_none name e = alone name e

down_last : (front : List ℕ) (b : ℕ) (name : List ℕ) → is_component name ≡ true
    → components (path_in (front ++ b ∷ []) name) ≡ components (front ++ b ∷ []) ++ name ∷ []
down_last front b name e =
    ap (λ (last : Option ℕ). components (((front ++ b ∷ []) ++ separator_behind last) ++ name)) (last_is front b)
    ∙ by_test (b == slash) refl
  where
    by_test : (t : Bool) → (b == slash) ≡ t
        → components (((front ++ b ∷ []) ++ (if t then [] else slash ∷ [])) ++ name) ≡ components (front ++ b ∷ [])
        ++ name ∷ []
    by_test true is =
        let at : b ≡ slash = grind (arith, is) in
        ap (λ (l : List ℕ). components (l ++ name)) (append-nil (front ++ b ∷ []))
        ∙ ap components (append_assoc front (b ∷ []) name)
        ∙ ap (λ c. components (front ++ c ∷ name)) at
        ∙ behind_slash front name e
        ∙ ap (λ (l : List (List ℕ)). l ++ name ∷ []) (sym (closed_same front))
        ∙ ap (λ c. components (front ++ c ∷ []) ++ name ∷ []) (sym at)
    by_test false is =
        ap components (append_assoc (front ++ b ∷ []) (slash ∷ []) name) ∙ behind_slash (front ++ b ∷ []) name e

down : (folder name : List ℕ) → is_component name ≡ true
    → components (path_in folder name) ≡ components folder ++ name ∷ []
down folder name e = elim (ending folder) [
  | Nothing is ↦ subst (λ (f : List ℕ). components (path_in f name) ≡ components f ++ name ∷ []) (sym is)
      (down_none name e)
  | Last front b is ↦
      subst (λ (f : List ℕ). components (path_in f name) ≡ components f ++ name ∷ []) (sym is)
      (down_last front b name e)
]

start : (folder name : List ℕ) → is_component name ≡ true → is_absolute_path (path_in folder name)
    ≡ is_absolute_path folder
start (b ∷ folder) name e = refl
start [] [] e = refl
start [] (b ∷ name) e =
    let h : IsClean (b ∷ name) = clean (b ∷ name) e in
    or_left (b == slash) (b == 0) (or_left (b == slash || b == 0) (has_ending name) h.whole)

-- the path of an entry whose name is a component leads into the folder
pub leads_into : (folder name : List ℕ) → is_component name ≡ true → LeadsInto folder name (path_in folder name)
leads_into folder name e = record { down = down folder name e; start = start folder name e }

-- ---- below a root

pub stays_at : (root : List ℕ) → StaysIn root root
stays_at root = record { names = []; each = refl; down = sym (append-nil (components root)); start = refl }

each_more : (names : List (List ℕ)) (name : List ℕ) → list_all is_component names ≡ true → is_component name ≡ true
    → list_all is_component (names ++ name ∷ []) ≡ true
each_more names name all e = list_all-append is_component names (name ∷ []) ∙ rw all (rw e refl)

-- where a folder stays below a root, the path of an entry does, whose name is a component
pub stays_in : (root folder path name : List ℕ) → StaysIn root folder → is_component name ≡ true
    → LeadsInto folder name path
    → StaysIn root path
stays_in root folder path name h e leads = record {
  names = h.names ++ name ∷ [];
  each = each_more h.names name h.each e;
  down =
      leads.down ∙ ap (λ (l : List (List ℕ)). l ++ name ∷ []) h.down
      ∙ append_assoc (components root) h.names (name ∷ []);
  start = leads.start ∙ h.start;
}
