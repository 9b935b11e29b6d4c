-- The directories that are made are none of the files that are copied.
use Rattle.std.proofs.Common.{◌≡◌, ◌≢◌, ◌==◌, ℕ, Bool, true, false, not, List, [], ◌∷◌, ◌++◌, length, if◌then◌else◌, refl, ap, sym, ◌∙◌, subst, arith}
use Rattle.std.specs.Prelude.{◌||◌, map}
use Rattle.std.specs.List.{list_all}
use Rattle.std.specs.Str.{bytes_eq}
use Rattle.std.proofs.lemmas.Bool.{and_parts, both_ways, false_from_ne_true}
use Rattle.std.proofs.lemmas.List.{append_assoc, length-append}
use Rattle.sftp_model.specs.Paths.{is_absolute_path, joined_path, slash}
use Rattle.machine_model.proofs.NameLaws.{names_tell}
use Rattle.machine_model.proofs.WithinLaws.{within_join}
use Rattle.machine_model.specs.Components.{Name, components, is_within, same_name, text_of_name}
use Rattle.machine_model.specs.FirstTree.{are_apart}
use Rattle.run_laws.specs.NameCalls.{all_keep_off, is_of_other}
use Rattle.mirror_jobs.specs.PlainNames.{is_plain}
use Rattle.mirror_jobs.proofs.WrittenLaws.{components_led, components_written, plain_components}
use Rattle.mirror_jobs.specs.declared.job.Job.{Job}
use Rattle.mirror_jobs.specs.declared.job.Job.TheVariants as job
use Rattle.mirror_jobs.specs.JobLanes.{mkdir_call}
use Rattle.mirror_jobs.specs.Jobs.{name_of}
use Rattle.mirror_jobs.specs.declared.directory.Directory.{Directory}
use Rattle.mirror_jobs.specs.Parents.{all_inserted, is_made_before, leading_slash, parents, parents_of, directories_above, insert_directory}

-- the directory has another name
abbrev pub is_apart : Name → Directory → Bool
is_apart name p = not (same_name (components p.path) name)

-- ---- lists in order

placed_all : (test : Directory → Bool) (p : Directory) (ps : List Directory) → test p ≡ true → list_all test ps ≡ true
    → list_all test (insert_directory p ps) ≡ true
placed_all test p [] here all = rw here refl
placed_all test p (other ∷ ps) here all =
    let both = and_parts (test other) (list_all test ps) all in
    by_tests (bytes_eq p.path other.path) (is_made_before p other) both.0 both.1 (placed_all test p ps here both.1)
  where
    by_tests : (a b : Bool) → test other ≡ true → list_all test ps ≡ true → list_all test (insert_directory p ps) ≡ true
        → list_all test (if a then other ∷ ps else if b then p ∷ other ∷ ps else other ∷ insert_directory p ps) ≡ true
    by_tests true b is rest more = rw (is, rest) refl
    by_tests false true is rest more = rw (here, is, rest) refl
    by_tests false false is rest more = rw (is, more) refl

all_placed_all : (test : Directory → Bool) (more ps : List Directory) → list_all test more ≡ true → list_all test ps
    ≡ true → list_all test (all_inserted more ps) ≡ true
all_placed_all test [] ps all rest = rest
all_placed_all test (p ∷ more) ps all rest =
    let both = and_parts (test p) (list_all test more) all in placed_all test p (all_inserted more ps) both.0
    (all_placed_all test more ps both.1 rest)

pub parents_all : (test : Directory → Bool) (jobs : List Job) → list_all (λ j. list_all test (parents_of j)) jobs ≡ true
    → list_all test (parents jobs) ≡ true
parents_all test [] all = refl
parents_all test (j ∷ jobs) all =
    let both = and_parts (list_all test (parents_of j)) (list_all (λ j. list_all test (parents_of j)) jobs) all in
    all_placed_all test (parents_of j) (parents jobs) both.0 (parents_all test jobs both.1)

-- ---- the directories of one file

-- a path that leads to a name, with or without a slash in front
pub led_is : (path : List ℕ) (name : Name) → list_all is_plain name ≡ true
    → components (leading_slash path ++ text_of_name name) ≡ name
led_is [] name plain = components_written name plain
led_is (b ∷ path) name plain = by_test (b == slash)
  where
    by_test : (t : Bool) → components ((if t then slash ∷ [] else []) ++ text_of_name name) ≡ name
    by_test true = components_led (text_of_name name) ∙ components_written name plain
    by_test false = components_written name plain

pub front_plain : (xs ys : Name) → list_all is_plain (xs ++ ys) ≡ true → list_all is_plain xs ≡ true
front_plain [] ys all = refl
front_plain (x ∷ xs) ys all = let both = and_parts (is_plain x) (list_all is_plain (xs ++ ys)) all in
    rw (both.0, front_plain xs ys both.1) refl

-- the name of each directory is a part of the file's, and not all of it
passed_apart : (path : List ℕ) (name at : Name) (parts : Name) → list_all is_plain (at ++ parts) ≡ true
    → ((front rest : Name) → at ++ parts ≡ front ++ rest → rest ≢ [] → name ≢ front)
    → list_all (is_apart name) (directories_above (leading_slash path) at parts) ≡ true
passed_apart path name at [] plain others = refl
passed_apart path name at (part ∷ []) plain others = refl
passed_apart path name at (part ∷ next ∷ parts) plain others =
    let whole : at ++ part ∷ next ∷ parts ≡ (at ++ part ∷ []) ++ next ∷ parts =
    sym (append_assoc at (part ∷ []) (next ∷ parts)) in
    let plain_more : list_all is_plain ((at ++ part ∷ []) ++ next ∷ parts) ≡ true =
    subst (λ (w : Name). list_all is_plain w ≡ true) whole plain in
    let here : components (leading_slash path ++ text_of_name (at ++ part ∷ [])) ≡ at ++ part ∷ [] =
    led_is path (at ++ part ∷ []) (front_plain (at ++ part ∷ []) (next ∷ parts) plain_more) in
    let ne : name ≢ at ++ part ∷ [] = others (at ++ part ∷ []) (next ∷ parts) whole (λ e. cc) in
    let apart : same_name (components (leading_slash path ++ text_of_name (at ++ part ∷ []))) name ≡ false =
    false_from_ne_true (same_name (components (leading_slash path ++ text_of_name (at ++ part ∷ []))) name)
    (λ same. ne (sym ((names_tell _ _).0 same) ∙ here))
    in
    rw (
      apart,
      passed_apart path name (at ++ part ∷ []) (next ∷ parts) plain_more
          (λ front rest e some. others front rest (whole ∙ e) some),
    ) refl

-- neither name is the other's, or stands within it
pub apart_both : (a b : Name) → are_apart a b ≡ true → (is_within a b ≡ false) × (is_within b a ≡ false)
apart_both a b e = by_tests (is_within a b) (is_within b a) e
  where
    by_tests : (x y : Bool) → not (x || y) ≡ true → (x ≡ false) × (y ≡ false)
    by_tests true y e = absurd cc
    by_tests false true e = absurd cc
    by_tests false false e = (refl, refl)

-- of a file whose name doesn't stand within this one
pub others_parents : (name : Name) (j : Job) → is_within name (name_of j) ≡ false
    → list_all (is_apart name) (parents_of j) ≡ true
others_parents name (job.Down path bound) out = refl
others_parents name (job.Up path content) out =
    passed_apart path name [] (components path) (plain_components path)
    (λ front rest e some same. both_ways (is_within name (components path)) out
    (subst (λ (w : Name). is_within name w ≡ true) (sym (e ∙ ap (λ (w : Name). w ++ rest) (sym same)))
    (within_join name rest)))

-- and of the file itself
pub own_parents : (j : Job) → list_all (is_apart (name_of j)) (parents_of j) ≡ true
own_parents (job.Down path bound) = refl
own_parents (job.Up path content) =
    passed_apart path (components path) [] (components path) (plain_components path)
    (λ front rest e some same. absurd (longer front rest (sym e ∙ same) some))
  where
    longer : (front rest : Name) → front ++ rest ≡ front → rest ≢ [] → ⊥
    longer front [] e some = some refl
    longer front (part ∷ rest) e some = (let a = length-append front (part ∷ rest) in
        let b : length (front ++ part ∷ rest) ≡ length front = ap length e in omega (arith, a, b))

-- a path that is joined to none
pub joined_to_none : (path : List ℕ) → joined_path [] path ≡ path
joined_to_none path = by_test (is_absolute_path path)
  where
    by_test : (t : Bool) → (if t then path else [] ++ path) ≡ path
    by_test true = refl
    by_test false = refl

-- where no directory is set, a path of another name stays one
pub other_here : (name : Name) (path : List ℕ) → is_of_other name path ≡ true → is_of_other name (joined_path [] path)
    ≡ true
other_here name path other = subst (λ (w : List ℕ). is_of_other name w ≡ true) (sym (joined_to_none path)) other

pub mkdirs_off : (name : Name) (ps : List Directory) → list_all (is_apart name) ps ≡ true
    → all_keep_off name [] (map mkdir_call ps) ≡ true
mkdirs_off name [] all = refl
mkdirs_off name (p ∷ ps) all =
    let both = and_parts (is_apart name p) (list_all (is_apart name) ps) all in
    rw (other_here name p.path both.0, mkdirs_off name ps both.1) refl
