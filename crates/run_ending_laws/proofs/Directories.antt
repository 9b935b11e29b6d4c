-- Directories that are there stay where requests only build, and MKDIRs in the order of their depth make each directory
-- that a name stands in.
use Rattle.std.proofs.Common.{
  ◌≡◌,
  ◌≢◌,
  ◌<◌,
  ◌≤◌,
  ◌-◌,
  ℕ,
  zero,
  suc,
  Bool,
  true,
  false,
  not,
  List,
  [],
  ◌∷◌,
  ◌++◌,
  length,
  take,
  Option,
  Some,
  None,
  if◌then◌else◌,
  refl,
  ap,
  sym,
  ◌∙◌,
  subst,
  arith,
  inl,
  inr,
}
use Rattle.std.specs.Prelude.{◌⊎◌, map, min}
use Rattle.std.proofs.lemmas.Bool.{cases_lt}
use Rattle.std.proofs.lemmas.List.{length-take}
use Rattle.sftp_model.specs.Numbers.{SSH_FX_FAILURE, SSH_FX_NO_SUCH_FILE}
use Rattle.sftp_model.specs.declared.config.ServerConfig.{ServerConfig}
use Rattle.sftp_model.specs.declared.request.Request.{Request}
use Rattle.machine_model.proofs.NameLaws.{names_tell}
use Rattle.machine_model.proofs.PairLaws.{found_push_here}
use Rattle.machine_model.specs.Components.{Name, components, is_long_name, parent_of, same_name}
use Rattle.machine_model.specs.FileTree.{FileTree, is_directory, node_at, with_name}
use Rattle.machine_model.specs.HandleRequests.{Answer, ok_answer, refusal_answer, where_new}
use Rattle.machine_model.specs.NameRequests.{after_mkdir}
use Rattle.machine_model.specs.TreeAnswers.{apply}
use Rattle.machine_model.specs.declared.node.Node.{Node}
use Rattle.machine_model.specs.declared.node.Node.TheVariants as node
use Rattle.plan_model.proofs.Among.{Among}
use Rattle.sftp_model.specs.Frames.{is_too_long}
use Rattle.run_laws.specs.Steps.{ChooseOnly, RefusesNone, Step, after, answer_to}
use Rattle.run_laws.proofs.WriteLaws.{answers_as}
use Rattle.run_ending_laws.proofs.Building.{IsBuilding, MakesName, MayBe, effect_keeps, effect_makes, effect_of}
use Rattle.run_ending_laws.proofs.GrowingRuns.{AllSteps}
use Rattle.run_ending_laws.specs.FirstMkdirs.{unless_too_long, mkdir_of, mkdirs}
use Rattle.run_ending_laws.specs.StandsBelow.{AreDeeper, AreToMake, IsToMake, NoDirectory, NoFile, NoneFiles, NoneLong, first_parts}

-- ---- what stays

pub step_keeps : (config : ServerConfig) (tree : FileTree) (s : Step) (name : Name) (n : Node) → IsBuilding s.request
    → node_at tree name ≡ Some n
    → node_at (answer_to config tree s).1 name ≡ Some n
step_keeps config tree s name n builds is = effect_keeps tree s.request (answer_to config tree s).1 name n
    (effect_of tree config s.request s.choice s.handle builds) is

-- each request builds
abbrev pub Builds : FileTree → Step → Type 0
Builds t s = IsBuilding s.request

pub steps_keep : (config : ServerConfig) (tree : FileTree) (steps : List Step) (name : Name) (n : Node)
    → AllSteps Builds config tree steps → node_at tree name ≡ Some n
    → node_at (after config tree steps) name ≡ Some n
steps_keep config tree [] name n all is = is
steps_keep config tree (s ∷ steps) name n all is = steps_keep config (answer_to config tree s).1 steps name n all.1
    (step_keeps config tree s name n all.0 is)

-- the request is no MKDIR of the name
abbrev pub MakesNot : Name → FileTree → Step → Type 0
MakesNot name t s = IsBuilding s.request × (MakesName s.request name → ⊥)

-- stays none where no MKDIR makes it
step_no_directory : (config : ServerConfig) (tree : FileTree) (s : Step) (name : Name) → MakesNot name tree s
    → NoDirectory (node_at tree name)
    → NoDirectory (node_at (answer_to config tree s).1 name)
step_no_directory config tree s name (builds, makes) none = by_old (node_at tree name) refl none
  where
    by_new : (o : Option Node) → MayBe s.request name o → NoDirectory o
    by_new None may = tt
    by_new (Some (node.File file)) may = tt
    by_new (Some node.Directory) may = makes may

    by_old : (o : Option Node) → node_at tree name ≡ o → NoDirectory o
        → NoDirectory (node_at (answer_to config tree s).1 name)
    by_old None is none = by_new (node_at (answer_to config tree s).1 name)
        (effect_makes tree s.request (answer_to config tree s).1 name
        (effect_of tree config s.request s.choice s.handle builds) is)
    by_old (Some node.Directory) is none = absurd none
    by_old (Some (node.File file)) is none = subst NoDirectory
        (sym (step_keeps config tree s name (node.File file) builds is)) tt

pub steps_no_directory : (config : ServerConfig) (tree : FileTree) (steps : List Step) (name : Name)
    → AllSteps (MakesNot name) config tree steps
    → NoDirectory (node_at tree name) → NoDirectory (node_at (after config tree steps) name)
steps_no_directory config tree [] name all none = none
steps_no_directory config tree (s ∷ steps) name all none =
    steps_no_directory config (answer_to config tree s).1 steps name all.1
    (step_no_directory config tree s name all.0 none)

-- ---- what is made

mkdir_no_file : (config : ServerConfig) (tree : FileTree) (s : Step) (path : List ℕ) (name : Name) → s.request
    ≡ mkdir_of path → NoFile (node_at tree name)
    → NoFile (node_at (answer_to config tree s).1 name)
mkdir_no_file config tree s path name asks none = by_old (node_at tree name) refl none
  where
    builds : IsBuilding s.request
    builds = subst IsBuilding (sym asks) tt

    by_new : (o : Option Node) → MayBe (mkdir_of path) name o → NoFile o
    by_new None may = tt
    by_new (Some (node.File file)) may = absurd may
    by_new (Some node.Directory) may = tt

    by_old : (o : Option Node) → node_at tree name ≡ o → NoFile o → NoFile (node_at (answer_to config tree s).1 name)
    by_old None is none = by_new (node_at (answer_to config tree s).1 name)
        (subst (λ (r : Request). MayBe r name (node_at (answer_to config tree s).1 name)) asks
        (effect_makes tree s.request (answer_to config tree s).1 name
        (effect_of tree config s.request s.choice s.handle builds) is))
    by_old (Some node.Directory) is none = subst NoFile (sym (step_keeps config tree s name node.Directory builds is))
        tt
    by_old (Some (node.File file)) is none = absurd none

-- a directory where the one above it is there
made_at : (tree : FileTree) (name : Name) → node_at tree name ≡ None → node_at (with_name tree name node.Directory) name
    ≡ Some node.Directory
made_at tree [] none = absurd cc
made_at tree (part ∷ parts) none =
    found_push_here same_name tree.names (part ∷ parts) node.Directory
    ((names_tell (part ∷ parts) (part ∷ parts)).1 refl) none

new_made : (tree : FileTree) (name : Name) (x : Answer) → is_directory (node_at tree (parent_of name)) ≡ true
    → is_long_name name ≡ false → where_new tree name x ≡ x
new_made tree name x parent short = by_tests (not (is_directory (node_at tree (parent_of name)))) (is_long_name name)
    (ap not parent) short
  where
    by_tests : (a b : Bool) → a ≡ false → b ≡ false → (if a then refusal_answer tree SSH_FX_NO_SUCH_FILE else if b then
        refusal_answer tree SSH_FX_FAILURE else x) ≡ x
    by_tests true b p q = absurd cc
    by_tests false true p q = absurd cc
    by_tests false false p q = refl

mkdir_makes : (config : ServerConfig) (tree : FileTree) (s : Step) (path : List ℕ) (name : Name) → s.request
    ≡ mkdir_of path → components path ≡ name
    → RefusesNone s.choice → NoFile (node_at tree name) → is_directory (node_at tree (parent_of name)) ≡ true
    → is_long_name name ≡ false
    → node_at (answer_to config tree s).1 name ≡ Some node.Directory
mkdir_makes config tree s path name asks denotes unrefused none parent short = by_old (node_at tree name) refl none
  where
    is : answer_to config tree s ≡ after_mkdir tree name (node_at tree name)
    is = ap (λ (r : Request). apply tree config r s.choice s.handle) asks
        ∙ (answers_as tree config (mkdir_of path) s.choice s.handle unrefused
        ∙ ap (λ (w : Name). after_mkdir tree w (node_at tree w)) denotes)

    by_old : (o : Option Node) → node_at tree name ≡ o → NoFile o → node_at (answer_to config tree s).1 name
        ≡ Some node.Directory
    by_old (Some (node.File file)) old none = absurd none
    by_old (Some node.Directory) old none = step_keeps config tree s name node.Directory
        (subst IsBuilding (sym asks) tt) old
    by_old None old none =
        ap (λ (x : Answer). node_at x.1 name) (is ∙ (ap (after_mkdir tree name) old
        ∙ new_made tree name (ok_answer (with_name tree name node.Directory)) parent short))
        ∙ made_at tree name old

-- ---- the directories above a name

-- the directories above the name down to the k-th are there
abbrev pub AreThere : FileTree → Name → ℕ → Type 0
AreThere tree name k = (i : ℕ) → i ≤ k → i < length name → node_at tree (first_parts name i) ≡ Some node.Directory

abbrev pub requests_in : List Step → List Request
requests_in steps = map (λ (s : Step). s.request) steps

above_length : (name : Name) (i : ℕ) → i ≤ length name → length (first_parts name i) ≡ i
above_length name i le = let l : length (take i name) ≡ min i (length name) = length-take i name in omega (arith, l, le)

take_less : {A : Type 0} (xs : List A) (i : ℕ) → i < length xs → take (length (take (suc i) xs) - 1) (take (suc i) xs)
    ≡ take i xs
take_less [] i lt = absurd (omega (arith, lt))
take_less (x ∷ xs) zero lt = refl
take_less (x ∷ xs) (suc i) lt =
    let len : length (take (suc i) xs) ≡ suc i = (let l : length (take (suc i) xs) ≡ min (suc i) (length xs) =
    length-take (suc i) xs in omega (arith, l, lt)) in
    let is : length (take (suc (suc i)) (x ∷ xs)) - 1 ≡ suc (length (take (suc i) xs) - 1) = omega (arith, len) in
    ap (λ (n : ℕ). take n (take (suc (suc i)) (x ∷ xs))) is ∙ ap (λ (w : List _). x ∷ w)
    (take_less xs i (omega (arith, lt)))

-- the first step of a list of requests
record Heads (r : Request) (rest : List Request) (steps : List Step) : Type 0 where
  first : Step
  later : List Step
  is : steps ≡ first ∷ later
  asks : first.request ≡ r
  more : requests_in later ≡ rest

heads : (r : Request) (rest : List Request) (steps : List Step) → requests_in steps ≡ r ∷ rest → Heads r rest steps
heads r rest [] e = absurd cc
heads r rest (s ∷ steps) e = record {
  first = s;
  later = steps;
  is = refl;
  asks =
      (let same : s.request ≡ r = cc in same);
  more = (let same : requests_in steps ≡ rest = cc in same);
}

pub all_made_by : (config : ServerConfig) (name : Name) (paths : List (List ℕ)) (steps : List Step) (tree : FileTree)
    (k : ℕ) → requests_in steps ≡ mkdirs paths
    → ChooseOnly RefusesNone steps → AreDeeper paths → NoneLong name → AreToMake paths name k → AreThere tree name k
    → NoneFiles tree name
    → (i : ℕ) → i < length name → node_at (after config tree steps) (first_parts name i) ≡ Some node.Directory
all_made_by config name [] steps tree k asks chosen deeper short needs there files i lt = by_steps steps asks
  where
    le : i ≤ k
    le = elim (cases_lt k i) [ inl more ↦ absurd ((needs i more lt).there) | inr low ↦ low ]

    by_steps : (steps : List Step) → requests_in steps ≡ [] → node_at (after config tree steps) (first_parts name i)
        ≡ Some node.Directory
    by_steps [] e = there i le lt
    by_steps (s ∷ steps) e = absurd cc
all_made_by config name (path ∷ paths) steps tree k asks chosen deeper short needs there files i lt =
    by_length (is_too_long (mkdir_of path)) refl
    (λ rest still. all_made_by config name paths steps tree k rest chosen deeper.1 short still there files i lt)
    (λ s later here j rest unrefused still there' files'. all_made_by config name paths later
    (answer_to config tree s).1 j rest unrefused deeper.1 short still there' files' i lt)
  where
    Goal : Type 0
    Goal = node_at (after config tree steps) (first_parts name i) ≡ Some node.Directory

    -- where the first one isn't the next to be made, those after it make all
    still_others : (same_name (components path) (first_parts name (suc k)) ≡ false) ⊎ (length name ≤ suc k)
        ⊎ (is_too_long (mkdir_of path) ≡ true) → AreToMake paths name k
    still_others other n more below = by_there other (needs n more below)
      where
        by_there : (same_name (components path) (first_parts name (suc k)) ≡ false) ⊎ (length name ≤ suc k)
            ⊎ (is_too_long (mkdir_of path) ≡ true)
            → IsToMake (path ∷ paths) name n → IsToMake paths name n
        by_there other t = by_among t.there
          where
            deep : Among t.path paths → IsToMake paths name n
            deep h = record { path = t.path; there = h; makes = t.makes }

            -- the first one would be deeper than the next to be made
            not_first : (same_name (components path) (first_parts name (suc k)) ≡ false) ⊎ (length name ≤ suc k)
                ⊎ (is_too_long (mkdir_of path) ≡ true) → t.path ≡ path → ⊥
            not_first (inr (inl end)) same = omega (arith, end, more, below)
            not_first (inr (inr long)) same =
                (let fits : is_too_long (mkdir_of path) ≡ false = subst
                (λ (q : List ℕ). is_too_long (mkdir_of q) ≡ false) same t.makes.fits in
                let both : true ≡ false = sym long ∙ fits in cc)
            not_first (inl apart) same = by_next (needs (suc k) (omega arith) (omega (arith, more, below)))
              where
                here : components path ≡ first_parts name n
                here = ap components (sym same) ∙ t.makes.is

                by_next : IsToMake (path ∷ paths) name (suc k) → ⊥
                by_next u = by_u u.there
                  where
                    by_u : Among u.path (path ∷ paths) → ⊥
                    by_u (inl e) =
                        (let is : components path ≡ first_parts name (suc k) = ap components (sym e) ∙ u.makes.is in
                        let told : same_name (components path) (first_parts name (suc k)) ≡ true =
                        (names_tell (components path) (first_parts name (suc k))).1 is in
                        let both : true ≡ false = sym told ∙ apart in cc)
                    by_u (inr h) =
                        (let low : length (components path) ≤ length (components u.path) = deeper.0 u.path h in
                        let a : length (components path) ≡ n = ap length here
                        ∙ above_length name n (omega (arith, below)) in
                        let b : length (components u.path) ≡ suc k = ap length u.makes.is
                        ∙ above_length name (suc k) (omega (arith, more, below)) in
                        let ne : n ≢ suc k = (λ at. (let is : components path ≡ first_parts name (suc k) = here
                        ∙ ap (first_parts name) at in
                        let told : same_name (components path) (first_parts name (suc k)) ≡ true =
                        (names_tell (components path) (first_parts name (suc k))).1 is in
                        let both : true ≡ false = sym told ∙ apart in cc)) in
                        omega (arith, low, a, b, more, ne))

            by_among : Among t.path (path ∷ paths) → IsToMake paths name n
            by_among (inl same) = absurd (not_first other same)
            by_among (inr h) = deep h

    by_length : (b : Bool) → is_too_long (mkdir_of path) ≡ b →
        (requests_in steps ≡ mkdirs paths → AreToMake paths name k → Goal)
        → ((s : Step) (later : List Step) → steps ≡ s ∷ later → (j : ℕ) → requests_in later ≡ mkdirs paths
        → ChooseOnly RefusesNone later → AreToMake paths name j
        → AreThere (answer_to config tree s).1 name j → NoneFiles (answer_to config tree s).1 name
        → node_at (after config (answer_to config tree s).1 later) (first_parts name i) ≡ Some node.Directory) → Goal
    by_length true long skip go =
        let none : unless_too_long (mkdir_of path) ≡ [] = rw long refl in
        skip (asks ∙ ap (λ (w : List Request). w ++ mkdirs paths) none) (still_others (inr (inr long)))
    by_length false fits skip go =
        let one : unless_too_long (mkdir_of path) ≡ mkdir_of path ∷ [] = rw fits refl in
        let h = heads (mkdir_of path) (mkdirs paths) steps (asks ∙ ap (λ (w : List Request). w ++ mkdirs paths) one) in
        let all : ChooseOnly RefusesNone (h.first ∷ h.later) = subst (ChooseOnly RefusesNone) h.is chosen in
        let builds : IsBuilding h.first.request = subst IsBuilding (sym h.asks) tt in
        let stay : AreThere (answer_to config tree h.first).1 name k =
        λ n le below. step_keeps config tree h.first (first_parts name n) node.Directory builds (there n le below) in
        let clear : NoneFiles (answer_to config tree h.first).1 name =
        λ n below. mkdir_no_file config tree h.first path (first_parts name n) h.asks (files n below) in
        subst (λ (l : List Step). node_at (after config tree l) (first_parts name i) ≡ Some node.Directory) (sym h.is)
        (by_name h.first h.later h.is h.asks h.more all stay clear (cases_lt (suc k) (length name))
        (same_name (components path) (first_parts name (suc k))) refl go)
      where
        by_name : (s : Step) (later : List Step) → steps ≡ s ∷ later → s.request ≡ mkdir_of path → requests_in later
            ≡ mkdirs paths → ChooseOnly RefusesNone (s ∷ later)
            → AreThere (answer_to config tree s).1 name k → NoneFiles (answer_to config tree s).1 name
            → (suc k < length name) ⊎ (length name ≤ suc k)
            → (b : Bool) → same_name (components path) (first_parts name (suc k)) ≡ b
            → ((s : Step) (later : List Step) → steps ≡ s ∷ later → (j : ℕ) → requests_in later ≡ mkdirs paths
            → ChooseOnly RefusesNone later → AreToMake paths name j
            → AreThere (answer_to config tree s).1 name j → NoneFiles (answer_to config tree s).1 name
            → node_at (after config (answer_to config tree s).1 later) (first_parts name i) ≡ Some node.Directory)
            → node_at (after config (answer_to config tree s).1 later) (first_parts name i) ≡ Some node.Directory
        by_name s later is asked rest all stay clear (inr end) b told go =
            go s later is k rest all.1 (still_others (inr (inl end))) stay clear
        by_name s later is asked rest all stay clear (inl below) false told go =
            go s later is k rest all.1 (still_others (inl told)) stay clear
        by_name s later is asked rest all stay clear (inl below) true told go =
            let here : components path ≡ first_parts name (suc k) =
            (names_tell (components path) (first_parts name (suc k))).0 told in
            let parent : is_directory (node_at tree (parent_of (first_parts name (suc k)))) ≡ true =
            ap is_directory (ap (node_at tree) (take_less name k (omega (arith, below)))
            ∙ there k (omega arith) (omega (arith, below))) in
            let made : node_at (answer_to config tree s).1 (first_parts name (suc k)) ≡ Some node.Directory =
            mkdir_makes config tree s path (first_parts name (suc k)) asked here all.0 (files (suc k) below) parent
            (short k (omega (arith, below))) in
            go s later is (suc k) rest all.1 (later_ones here) (up_to made stay) clear
          where
            later_ones : components path ≡ first_parts name (suc k) → AreToMake paths name (suc k)
            later_ones here n more under = by_t (needs n (omega (arith, more)) under)
              where
                by_t : IsToMake (path ∷ paths) name n → IsToMake paths name n
                by_t t = by_among t.there
                  where
                    by_among : Among t.path (path ∷ paths) → IsToMake paths name n
                    by_among (inr h) = record { path = t.path; there = h; makes = t.makes }
                    by_among (inl e) =
                        absurd (let at : first_parts name n ≡ first_parts name (suc k) = sym t.makes.is
                        ∙ (ap components e ∙ here) in
                        let a : length (first_parts name n) ≡ length (first_parts name (suc k)) = ap length at in
                        let b = above_length name n (omega (arith, under)) in
                        let c = above_length name (suc k) (omega (arith, below)) in omega (arith, a, b, c, more))

            up_to : node_at (answer_to config tree s).1 (first_parts name (suc k)) ≡ Some node.Directory
                → AreThere (answer_to config tree s).1 name k
                → AreThere (answer_to config tree s).1 name (suc k)
            up_to made stay n le under = elim (cases_lt k n) [
              | inl new ↦ subst (λ (m : ℕ). node_at (answer_to config tree s).1 (first_parts name m)
                  ≡ Some node.Directory)
                  (let same : suc k ≡ n = omega (arith, new, le) in same) made
              | inr old ↦ stay n old under
            ]
