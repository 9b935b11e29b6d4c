-- The paths of entries and actions lead down from the root and never up.
use Rattle.std.proofs.Common.{◌≡◌, ◌&&◌, ◌||◌, ◌==◌, ◌+◌, ℕ, Bool, true, false, not, List, [], ◌∷◌, ◌++◌, ◌∙◌, length, drop, map, codes, refl, sym, ap, subst, inl, inr, if◌then◌else◌}
use Rattle.std.specs.List.{list_all, list_any}
use Rattle.std.specs.Str.{bytes_eq}
use Rattle.std.proofs.lemmas.List.Folds.{list_all-append}
use Rattle.machine_model.specs.Components.{parts_of, with_byte, Name, components, step_into, walk_from}
use Rattle.sftp_model.specs.Paths.{slash, is_absolute_path}
use Rattle.std.proofs.lemmas.List.{append_assoc, append-nil}
use Rattle.transfer_plan.specs.Names.{is_component, StaysIn}
use Rattle.transfer_sync.specs.Actions.{action_of, actions_of, actions_of_part, is_in_part, removal_action, removal_actions}
use Rattle.transfer_sync.specs.Listings.{can_follow_all, is_listing, name_in_directory}
use Rattle.transfer_sync.specs.Paths.{Paths, directory_of}
use Rattle.transfer_sync.specs.Theorems.{is_safe_path}
use Rattle.transfer_sync.specs.Verdicts.{blocked_paths, sweep_of}
use Rattle.transfer_sync.specs.declared.action.Action.{Action}
use Rattle.transfer_sync.specs.declared.entry.Entry.{Entry}
use Rattle.transfer_sync.specs.declared.rules.Rules.{Rules}
use Rattle.transfer_sync.specs.declared.verdict.Part.{Part}
use Rattle.transfer_sync.specs.declared.verdict.Part.TheVariants.{Directories, Files, Links, Attributes}
use Rattle.transfer_sync.proofs.ListingLaws.{IsIn, both, clash, head_follower, in_either, none_left, none_right, parent_or_root, tail_listed, both_left, both_right}
use Rattle.transfer_sync.proofs.PathLaws.{cut_at, slashed}
use Rattle.transfer_sync.proofs.InterruptLaws.{removed_are}

-- ---- The parts of a path

-- A name without a slash is one part.
one_part : (name : List ℕ) → list_any (λ b. b == slash || b == 0) name ≡ false → parts_of name ≡ name ∷ []
one_part [] e = refl
one_part (b ∷ name) e =
    let here : (b == slash || b == 0) ≡ false = none_left (b == slash || b == 0)
    (list_any (λ c. c == slash || c == 0) name) e in
    let later : list_any (λ c. c == slash || c == 0) name ≡ false =
    none_right (b == slash || b == 0) (list_any (λ c. c == slash || c == 0) name) e in
    let other : (b == slash) ≡ false = none_left (b == slash) (b == 0) here in
    rw other (rw (one_part name later) refl)

-- The first part of a path, and the later ones.
record HasFirst (parts : List (List ℕ)) : Type 0 where
  first : List ℕ
  later : List (List ℕ)
  is : parts ≡ first ∷ later

first_of : (path : List ℕ) → HasFirst (parts_of path)
first_of [] = record { first = []; later = []; is = refl }
first_of (b ∷ path) = by_test (b == slash) (first_of path)
  where
    by_test : (t : Bool) → HasFirst (parts_of path) → HasFirst (if t then [] ∷ parts_of path else
        with_byte b (parts_of path))
    by_test true h = record { first = []; later = parts_of path; is = refl }
    by_test false h = record { first = b ∷ h.first; later = h.later; is = ap (with_byte b) h.is }

byte_append : (b : ℕ) (ps qs : List (List ℕ)) → HasFirst ps → with_byte b (ps ++ qs) ≡ with_byte b ps ++ qs
byte_append b ps qs h = rw (h.is) refl

-- A slash separates the parts before it from those after it.
parts_append : (xs ys : List ℕ) → parts_of (xs ++ slash ∷ ys) ≡ parts_of xs ++ parts_of ys
parts_append [] ys = refl
parts_append (b ∷ xs) ys = by_test (b == slash) (parts_append xs ys)
  where
    by_test : (t : Bool) → parts_of (xs ++ slash ∷ ys) ≡ parts_of xs ++ parts_of ys
        → (if t then [] ∷ parts_of (xs ++ slash ∷ ys) else with_byte b (parts_of (xs ++ slash ∷ ys)))
        ≡ (if t then [] ∷ parts_of xs else with_byte b (parts_of xs)) ++ parts_of ys
    by_test true onward = ap (λ (l : List (List ℕ)). [] ∷ l) onward
    by_test false onward = ap (with_byte b) onward ∙ byte_append b (parts_of xs) (parts_of ys) (first_of xs)

-- ---- Paths inside the root

no_ending : (a b c d : Bool) → (not a && not b && not c && not d) ≡ true → d ≡ false
no_ending a b c false is = refl
no_ending a b c true is = by_left (not a && not b && not c) is
  where
    by_left : (t : Bool) → (t && false) ≡ true → true ≡ false
    by_left true e = absurd cc
    by_left false e = absurd cc

component_part : (name : List ℕ) → is_component name ≡ true → parts_of name ≡ name ∷ []
unfolding is_component
component_part name e = one_part name
    (no_ending (length name == 0) (bytes_eq name (codes ".")) (bytes_eq name (codes ".."))
    (list_any (λ b. b == slash || b == 0) name) e)

and_true : (a : Bool) → a ≡ true → (a && true) ≡ true
and_true true is = refl
and_true false is = is

inside_alone : (name : List ℕ) → is_component name ≡ true → is_safe_path name ≡ true
inside_alone name e = ap (λ (l : List (List ℕ)). list_all is_component l) (component_part name e)
    ∙ and_true (is_component name) e

inside_below : (directory name : List ℕ) → is_safe_path directory ≡ true → is_component name ≡ true
    → is_safe_path (directory ++ slash ∷ name) ≡ true
inside_below directory name inside e =
    ap (λ (l : List (List ℕ)). list_all is_component l)
    (parts_append directory name ∙ ap (λ (l : List (List ℕ)). parts_of directory ++ l) (component_part name e))
    ∙ (list_all-append is_component (parts_of directory) (name ∷ [])
    ∙ both (is_safe_path directory) (is_component name && true) inside (and_true (is_component name) e))

-- A path is inside if its name is a component, and its directory is the root or inside.
inside_path : (path : List ℕ) → is_component (name_in_directory path) ≡ true
    → ((length (directory_of path) == 0) ≡ false → is_safe_path (directory_of path) ≡ true) → is_safe_path path ≡ true
inside_path path named above = by_test (length (directory_of path) == 0) refl
  where
    by_test : (t : Bool) → (length (directory_of path) == 0) ≡ t → is_safe_path path ≡ true
    by_test true test =
        inside_alone path
        (subst (λ (b : Bool). is_component (if b then path else drop (length (directory_of path) + 1) path) ≡ true) test
        named)
    by_test false test =
        let name : is_component (drop (length (directory_of path) + 1) path) ≡ true =
        subst (λ (b : Bool). is_component (if b then path else drop (length (directory_of path) + 1) path) ≡ true) test
        named in
        ap (λ (p : List ℕ). is_safe_path p) (cut_at path (slashed path test))
        ∙ inside_below (directory_of path) (drop (length (directory_of path) + 1) path) (above test) name

-- ---- Where such a path leads

clean_tests : (a b c d : Bool) → (not a && not b && not c && not d) ≡ true → (b ≡ false) × (c ≡ false)
clean_tests true b c d is = absurd cc
clean_tests false true c d is = absurd cc
clean_tests false false true d is = absurd cc
clean_tests false false false d is = (refl, refl)

enters : (at : Name) (name : List ℕ) → is_component name ≡ true → step_into at name ≡ at ++ name ∷ []
unfolding is_component
enters at [] is = absurd cc
enters at (b ∷ name) is =
    let tests = clean_tests (length (b ∷ name) == 0) (bytes_eq (b ∷ name) (codes ".")) (bytes_eq (b ∷ name) (codes ".."))
    (list_any (λ c. c == slash || c == 0) (b ∷ name)) is in rw (tests.0) (rw (tests.1) refl)

walked : (at : Name) (parts : List (List ℕ)) → list_all is_component parts ≡ true → walk_from at parts ≡ at ++ parts
walked at [] is = sym (append-nil at)
walked at (p ∷ parts) is =
    ap (λ (n : Name). walk_from n parts) (enters at p (both_left (is_component p) (list_all is_component parts) is))
    ∙ (walked (at ++ p ∷ []) parts (both_right (is_component p) (list_all is_component parts) is)
    ∙ append_assoc at (p ∷ []) parts)

names_are : (path : List ℕ) → is_safe_path path ≡ true → components path ≡ components [] ++ parts_of path
unfolding components
names_are path is = walked [] (parts_of path) is

starts_below : (path : List ℕ) → is_safe_path path ≡ true → is_absolute_path path ≡ is_absolute_path []
unfolding is_component
starts_below [] is = refl
starts_below (b ∷ path) is = by_test (b == slash) is
  where
    by_test : (t : Bool) → list_all is_component (if t then [] ∷ parts_of path else with_byte b (parts_of path)) ≡ true
        → t ≡ false
    by_test false is = refl
    by_test true is = absurd cc

-- Such a path leads from the root down through components, and never up.
pub stays_in_root : (path : List ℕ) → is_safe_path path ≡ true → StaysIn [] path
stays_in_root path is = record {
  names = parts_of path;
  each = is;
  down = names_are path is;
  start = starts_below path is;
}

-- ---- Entries and actions

entry_inside : (before xs : List Entry) (e : Entry) → can_follow_all before xs ≡ true
    → ((a : Entry) → IsIn before a → is_safe_path a.path ≡ true) → IsIn xs e → is_safe_path e.path ≡ true
entry_inside before [] e h early is = absurd is
entry_inside before (x ∷ later) e h early is = by_place is (λ late. entry_inside (before ++ x ∷ []) later e
    (tail_listed before x later h) early_too late)
  where
    x_inside : is_safe_path x.path ≡ true
    x_inside = inside_path x.path (head_follower before x later h).named
        (λ deep. elim (parent_or_root before (directory_of x.path) (head_follower before x later h).has_parent) [
          | inl root ↦ clash (length (directory_of x.path) == 0) (ap (λ (p : List ℕ). length p == 0) root) deep
          | inr p ↦ ap (λ (q : List ℕ). is_safe_path q) (sym p.at) ∙ early p.parent p.among
        ])

    early_too : (a : Entry) → IsIn (before ++ x ∷ []) a → is_safe_path a.path ≡ true
    early_too a at = elim (in_either before (x ∷ []) a at) [
      | inl old ↦ early a old
      | inr (inl same) ↦ ap (λ (y : Entry). is_safe_path y.path) (sym same) ∙ x_inside
      | inr (inr none) ↦ absurd none
    ]

    by_place : IsIn (x ∷ later) e → (IsIn later e → is_safe_path e.path ≡ true) → is_safe_path e.path ≡ true
    by_place (inl same) next = ap (λ (y : Entry). is_safe_path y.path) (sym same) ∙ x_inside
    by_place (inr late) next = next late

pub listed_inside : (entries : List Entry) (e : Entry) → is_listing entries ≡ true → IsIn entries e
    → is_safe_path e.path
    ≡ true
listed_inside entries e h is = entry_inside [] entries e h (λ a at. absurd at) is

abbrev are_inside : List Action → Bool
are_inside actions = list_all (λ (a : Action). is_safe_path a.path) actions

removals_inside : (rs : List Entry) → ((r : Entry) → IsIn rs r → is_safe_path r.path ≡ true)
    → are_inside (map removal_action rs) ≡ true
removals_inside [] all = refl
removals_inside (r ∷ rs) all =
    both (is_safe_path r.path) (are_inside (map removal_action rs)) (all r (inl refl))
    (removals_inside rs (λ e i. all e (inr i)))

part_inside : (rules : Rules) (part : Part) (gone : Paths) (target : List Entry) (blocked : Paths) (xs : List Entry)
    → ((e : Entry) → IsIn xs e → is_safe_path e.path ≡ true) → are_inside
    (actions_of_part rules part gone target blocked xs) ≡ true
part_inside rules part gone target blocked [] all = refl
part_inside rules part gone target blocked (x ∷ xs) all =
    by_test (is_in_part rules part gone target blocked x) (part_inside rules part gone target blocked xs
    (λ e i. all e (inr i)))
  where
    by_test : (t : Bool) → are_inside (actions_of_part rules part gone target blocked xs) ≡ true
        → are_inside (if t then action_of part x ∷ actions_of_part rules part gone target blocked xs
        else actions_of_part rules part gone target blocked xs) ≡ true
    by_test true later = both (is_safe_path x.path) (are_inside (actions_of_part rules part gone target blocked xs))
        (all x (inl refl)) later
    by_test false later = later

inside_append : (xs ys : List Action) → are_inside xs ≡ true → are_inside ys ≡ true → are_inside (xs ++ ys) ≡ true
inside_append xs ys a b = list_all-append (λ (x : Action). is_safe_path x.path) xs ys
    ∙ both (are_inside xs) (are_inside ys) a b

pub all_inside : (rules : Rules) (source target : List Entry) → is_listing source ≡ true → is_listing target ≡ true
    → are_inside (actions_of rules source target) ≡ true
all_inside rules source target listed found =
    inside_append (removal_actions rules source target) (of Directories ++ (of Files ++ (of Links ++ of Attributes)))
    (removals_inside (sweep_of rules source target).removed
    (λ r is. listed_inside target r found (removed_are rules source target r is).among))
    (inside_append (of Directories) (of Files ++ (of Links ++ of Attributes)) (made Directories)
    (inside_append (of Files) (of Links ++ of Attributes) (made Files)
    (inside_append (of Links) (of Attributes) (made Links) (made Attributes))))
  where
    of : Part → List Action
    of part = actions_of_part rules part (sweep_of rules source target).gone target (blocked_paths rules source target)
        source

    made : (part : Part)
        → are_inside (actions_of_part rules part (sweep_of rules source target).gone target
        (blocked_paths rules source target) source) ≡ true
    made part = part_inside rules part (sweep_of rules source target).gone target (blocked_paths rules source target)
        source
        (λ e is. listed_inside source e listed is)
