-- Files are kept apart.
use Rattle.std.proofs.Common.{◌≡◌, ◌&&◌, ◌||◌, ℕ, Bool, true, false, not, List, [], ◌∷◌, ◌++◌, Result, Ok, Err, IfOk, if◌then◌else◌, refl, sym, ap, ◌∙◌, subst}
use Rattle.std.specs.List.{list_any}
use Rattle.std.specs.Str.{bytes_eq}
use Rattle.std.proofs.lemmas.List.{append_assoc, append-nil}
use Rattle.std.proofs.lemmas.List.Folds.{list_any-append}
use Rattle.std.proofs.lemmas.Slice.Eq.{bytes_eq-Decides}
use Rattle.transfer_plan.specs.Apart.{FilesAreApart, apart_behind, found_apart, has_path, has_twins, is_among, is_part, is_target, kept_apart, task_among, task_apart}
use Rattle.transfer_plan.specs.Jobs.{is_file}
use Rattle.transfer_plan.specs.Cuts.{part_of}
use Rattle.transfer_plan.specs.declared.found.Found.{Found}
use Rattle.transfer_plan.specs.declared.task.Task.{Task}
use Rattle.transfer_plan.specs.declared.task.Task.TheVariants as task

-- ---- what is done with a job, by sets of paths

-- it is what keeps the job apart from all others
pub among_apart : (all before : List Found) (run : List ℕ) (parts taken started : List (List ℕ)) (found : Found)
    → ((p : List ℕ) → has_path parts p ≡ is_part all run p) → ((p : List ℕ) → has_path taken p ≡ is_target before p)
    → ((p : List ℕ) → has_path started p ≡ is_part before run p)
    → task_among parts taken started run found ≡ task_apart all run before found
among_apart all before run parts taken started found p t b = λ i.
    if not (is_file found.task) then found.task
    else if p found.target i then task.RefusePart
    else if t found.target i then task.RefuseTwice
    else if b (part_of found.target run) i then task.RefusePart
    else found.task

-- one job more was looked at
any_more : (test : Found → Bool) (before : List Found) (found : Found) → list_any test (before ++ found ∷ [])
    ≡ (list_any test before || test found)
any_more test before found = list_any-append test before (found ∷ [])
    ∙ ap (λ b. list_any test before || b) (or_false (test found))
  where
    or_false : (a : Bool) → (a || false) ≡ a
    or_false true = refl
    or_false false = refl

among_more : (path_of : List ℕ → List ℕ) (before : List Found) (found : Found) (p : List ℕ)
    → is_among path_of (before ++ found ∷ []) p
    ≡ (is_among path_of before p || (is_file found.task && bytes_eq p (path_of found.target)))
among_more path_of before found p =
    any_more (λ (f : Found). is_file f.task && bytes_eq p (path_of f.target)) before found

pub target_more : (before : List Found) (found : Found) (p : List ℕ)
    → is_target (before ++ found ∷ []) p ≡ (is_target before p || (is_file found.task && bytes_eq p found.target))
target_more before found p = among_more (λ target. target) before found p

pub part_more : (before : List Found) (run : List ℕ) (found : Found) (p : List ℕ)
    → is_part (before ++ found ∷ []) run p
    ≡ (is_part before run p || (is_file found.task && bytes_eq p (part_of found.target run)))
part_more before run found p = among_more (λ target. part_of target run) before found p

pub behind_more : (all : List Found) (run : List ℕ) (before jobs : List Found) (found : Found)
    → apart_behind all run before (jobs ++ found ∷ []) ≡ apart_behind all run before jobs
    ++ found_apart all run (before ++ jobs) found ∷ []
behind_more all run before [] found =
    ap (λ (l : List Found). found_apart all run l found ∷ []) (sym (append-nil before))
behind_more all run before (job ∷ jobs) found =
    ap (λ (l : List Found). found_apart all run before job ∷ l) (behind_more all run (before ++ job ∷ []) jobs found
    ∙ ap (λ (l : List Found). apart_behind all run (before ++ job ∷ []) jobs ++ found_apart all run l found ∷ [])
    (append_assoc before (job ∷ []) jobs))

-- ---- no two are in each other's way

or_true : (a : Bool) → (a || true) ≡ true
or_true true = refl
or_true false = refl

or_parts : (a b : Bool) → a ≡ false → b ≡ false → (a || b) ≡ false
or_parts a b na nb = rw na nb

-- the file that a job is, once the jobs are kept apart: it was one, and is in nobody's way
record IsKeptFile (all : List Found) (run : List ℕ) (before : List Found) (found : Found) : Type 0 where
  pub file : is_file found.task ≡ true
  pub no_part : is_part all run found.target ≡ false
  pub no_twin : is_target before found.target ≡ false
  pub own_part : is_part before run (part_of found.target run) ≡ false

-- by the four tests
kept_by : (file part twin started : Bool) (t : Task) → is_file t ≡ file
    → is_file (if not file then t else if part then task.RefusePart else if twin then task.RefuseTwice
    else if started then task.RefusePart else t) ≡ true
    → (file ≡ true) × (part ≡ false) × (twin ≡ false) × (started ≡ false)
kept_by false part twin started t none is = absurd (let no : true ≡ false = sym is ∙ none in cc)
kept_by true true twin started t some is = absurd cc
kept_by true false true started t some is = absurd cc
kept_by true false false true t some is = absurd cc
kept_by true false false false t some is = (refl, refl, refl, refl)

kept_file : (all : List Found) (run : List ℕ) (before : List Found) (found : Found)
    → is_file (task_apart all run before found) ≡ true → IsKeptFile all run before found
kept_file all run before found is =
    let k = kept_by (is_file found.task) (is_part all run found.target) (is_target before found.target)
    (is_part before run (part_of found.target run)) found.task refl is in
    record { file = k.0; no_part = k.1; no_twin = k.2; own_part = k.3 }

-- a path that is no part of all jobs is none of those that are kept
fewer_parts : (all : List Found) (run : List ℕ) (before jobs : List Found) (p : List ℕ) → is_part jobs run p ≡ false
    → is_part (apart_behind all run before jobs) run p ≡ false
fewer_parts all run before [] p none = refl
fewer_parts all run before (job ∷ jobs) p none =
    or_parts (is_file (task_apart all run before job) && bytes_eq p (part_of job.target run))
    (is_part (apart_behind all run (before ++ job ∷ []) jobs) run p)
    (by_test (is_file (task_apart all run before job)) refl)
    (fewer_parts all run (before ++ job ∷ []) jobs p
    (or_right (is_file job.task && bytes_eq p (part_of job.target run)) (is_part jobs run p) none))
  where
    or_left : (a b : Bool) → (a || b) ≡ false → a ≡ false
    or_left false b e = refl
    or_left true b e = e

    or_right : (a b : Bool) → (a || b) ≡ false → b ≡ false
    or_right false b e = e
    or_right true b e = absurd cc

    by_test : (t : Bool) → is_file (task_apart all run before job) ≡ t
        → (is_file (task_apart all run before job) && bytes_eq p (part_of job.target run)) ≡ false
    by_test false is = rw is refl
    by_test true is = rw is (subst (λ (t : Bool). (t && bytes_eq p (part_of job.target run)) ≡ false)
        (kept_file all run before job is).file
        (or_left (is_file job.task && bytes_eq p (part_of job.target run)) (is_part jobs run p) none))

-- a file that is kept has a path that none before it has
abbrev IsOwn : (List ℕ → List ℕ) → List Found → List ℕ → Type 0
IsOwn path_of all run = (before : List Found) (found : Found) → is_file (task_apart all run before found) ≡ true
    → is_among path_of before (path_of found.target) ≡ false

-- a path that a job before these has is that of none that is kept
none_later : (path_of : List ℕ → List ℕ) (all : List Found) (run : List ℕ) (before jobs : List Found) (p : List ℕ)
    → IsOwn path_of all run → is_among path_of before p ≡ true
    → is_among path_of (apart_behind all run before jobs) p ≡ false
none_later path_of all run before [] p own has = refl
none_later path_of all run before (job ∷ jobs) p own has =
    or_parts (is_file (task_apart all run before job) && bytes_eq p (path_of job.target))
    (is_among path_of (apart_behind all run (before ++ job ∷ []) jobs) p)
    (by_test (is_file (task_apart all run before job)) refl)
    (none_later path_of all run (before ++ job ∷ []) jobs p own (among_more path_of before job p
    ∙ ap (λ b. b || (is_file job.task && bytes_eq p (path_of job.target))) has))
  where
    by_path : (t : Bool) → bytes_eq p (path_of job.target) ≡ t → is_among path_of before (path_of job.target) ≡ false
        → bytes_eq p (path_of job.target) ≡ false
    by_path false is none = is
    by_path true is none =
        let same : path_of job.target ≡ p = sym ((bytes_eq-Decides p (path_of job.target)).0 is) in
        absurd (let both : true ≡ false =
        sym has ∙ subst (λ (l : List ℕ). is_among path_of before l ≡ false) same none in cc)

    by_test : (t : Bool) → is_file (task_apart all run before job) ≡ t
        → (is_file (task_apart all run before job) && bytes_eq p (path_of job.target)) ≡ false
    by_test false is = rw is refl
    by_test true is = rw is (by_path (bytes_eq p (path_of job.target)) refl (own before job is))

same_bytes : (p : List ℕ) → bytes_eq p p ≡ true
same_bytes p = (bytes_eq-Decides p p).1 refl

no_twins : (path_of : List ℕ → List ℕ) (all : List Found) (run : List ℕ) (before jobs : List Found)
    → IsOwn path_of all run → has_twins path_of (apart_behind all run before jobs) ≡ false
no_twins path_of all run before [] own = refl
no_twins path_of all run before (job ∷ jobs) own =
    or_parts (is_file (task_apart all run before job)
    && is_among path_of (apart_behind all run (before ++ job ∷ []) jobs) (path_of job.target))
    (has_twins path_of (apart_behind all run (before ++ job ∷ []) jobs))
    (by_test (is_file (task_apart all run before job)) refl) (no_twins path_of all run (before ++ job ∷ []) jobs own)
  where
    by_test : (t : Bool) → is_file (task_apart all run before job) ≡ t
        → (is_file (task_apart all run before job)
        && is_among path_of (apart_behind all run (before ++ job ∷ []) jobs) (path_of job.target)) ≡ false
    by_test false is = rw is refl
    by_test true is = rw is (none_later path_of all run (before ++ job ∷ []) jobs (path_of job.target) own
        (among_more path_of before job (path_of job.target)
        ∙ (λ i. is_among path_of before (path_of job.target)
        || ((kept_file all run before job is).file i && same_bytes (path_of job.target) i))
        ∙ or_true (is_among path_of before (path_of job.target))))

no_parts : (all : List Found) (run : List ℕ) (kept before jobs : List Found)
    → ((p : List ℕ) → is_part all run p ≡ false → is_part kept run p ≡ false)
    → list_any (λ f. is_file f.task && is_part kept run f.target) (apart_behind all run before jobs) ≡ false
no_parts all run kept before [] fewer = refl
no_parts all run kept before (job ∷ jobs) fewer =
    or_parts (is_file (task_apart all run before job) && is_part kept run job.target)
    (list_any (λ f. is_file f.task && is_part kept run f.target) (apart_behind all run (before ++ job ∷ []) jobs))
    (by_test (is_file (task_apart all run before job)) refl) (no_parts all run kept (before ++ job ∷ []) jobs fewer)
  where
    by_test : (t : Bool) → is_file (task_apart all run before job) ≡ t
        → (is_file (task_apart all run before job) && is_part kept run job.target) ≡ false
    by_test false is = rw is refl
    by_test true is = rw is (fewer job.target (kept_file all run before job is).no_part)

pub are_apart : (jobs : List Found) (run : List ℕ) → FilesAreApart (kept_apart jobs run) run
are_apart jobs run = record {
  targets = no_twins (λ target. target) jobs run [] jobs (λ before f is. (kept_file jobs run before f is).no_twin);
  own_parts =
      no_twins (λ target. part_of target run) jobs run [] jobs
      (λ before f is. (kept_file jobs run before f is).own_part);
  parts = no_parts jobs run (kept_apart jobs run) [] jobs (fewer_parts jobs run [] jobs);
}

pub all_apart : {V E : Type 0} (jobs : List Found) (run : List ℕ) (items : V → List Found) (result : Result V E)
    → IfOk result (λ v. items v ≡ kept_apart jobs run) → IfOk result (λ v. FilesAreApart (items v) run)
all_apart jobs run items (Ok v) is = subst (λ (l : List Found). FilesAreApart l run) (sym is) (are_apart jobs run)
all_apart jobs run items (Err e) is = tt
