-- A session can be given the lanes that copy the files of a list.
use Rattle.std.proofs.Common.{
  ◌≡◌,
  ◌<◌,
  ◌≤◌,
  ◌+◌,
  ◌-◌,
  ◌*◌,
  ◌^◌,
  ◌%◌,
  ◌==◌,
  ℕ,
  zero,
  suc,
  Bool,
  true,
  false,
  List,
  [],
  ◌∷◌,
  ◌++◌,
  length,
  if◌then◌else◌,
  refl,
  arith,
}
use Rattle.std.specs.Prelude.{◌&&◌, ◌||◌, codes, map, nat_le, nat_lt, take}
use Rattle.std.specs.List.{flat_map, list_all, sum_by}
use Rattle.std.specs.Str.{bytes_eq}
use Rattle.std.proofs.lemmas.Bool.{and_parts, eqb-true}
use Rattle.std.proofs.lemmas.Bool.Decides.{nat_tests}
use Rattle.std.proofs.lemmas.List.{length-append}
use Rattle.std.proofs.lemmas.List.Folds.{list_all-append}
use Rattle.std.proofs.lemmas.List.Sums.{sum_by-append, sum_by-cons}
use Rattle.sftp_model.specs.Paths.{slash}
use Rattle.machine_model.specs.Components.{Name, components, step_into, parent_of, parts_of, walk_from, with_byte}
use Rattle.plan_model.specs.declared.call.Lane.{Lane}
use Rattle.plan_model.specs.Lanes.{are_ok, is_within, lane_weight, weight, weight_limit}
use Rattle.script_grammar.specs.Scripts.{MAX_SCRIPT_LEN}
use Rattle.mirror_jobs.specs.declared.directory.Directory.{Directory}
use Rattle.mirror_jobs.specs.declared.job.Job.{Job}
use Rattle.mirror_jobs.specs.declared.job.Job.TheVariants as job
use Rattle.mirror_jobs.specs.JobLanes.{calls_of, copy_lane, copy_lanes, jobs_of_lane, lanes_of, mkdir_call}
use Rattle.mirror_jobs.specs.Jobs.{is_bounded}
use Rattle.mirror_jobs.specs.Parents.{all_inserted, directories_above, insert_directory, is_made_before, leading_slash, parents, parents_of}

-- what a file may count: its calls, and a MKDIR for each byte of its path
abbrev pub job_cost : Job → ℕ
job_cost (job.Up path content) = 67 + 2 * length path
job_cost (job.Down path bound) = 65

abbrev pub jobs_cost : List Job → ℕ
jobs_cost [] = 0
jobs_cost (j ∷ jobs) = job_cost j + jobs_cost jobs

pub cost_more : (jobs : List Job) (j : Job) → jobs_cost (jobs ++ j ∷ []) ≡ jobs_cost jobs + job_cost j
cost_more [] j = omega arith
cost_more (x ∷ jobs) j = let rest = cost_more jobs j in omega (arith, rest)

-- ---- how many directories there are

with_byte_len : (b : ℕ) (parts : List (List ℕ)) → length (with_byte b parts) ≤ length parts + 1
with_byte_len b [] = omega arith
with_byte_len b (part ∷ parts) = omega arith

with_byte_most : (b n : ℕ) (parts : List (List ℕ)) → length parts ≤ n + 1 → length (with_byte b parts) ≤ n + 2
with_byte_most b n parts h = let one = with_byte_len b parts in omega (arith, one, h)

parts_len : (path : List ℕ) → length (parts_of path) ≤ length path + 1
parts_len [] = omega arith
parts_len (b ∷ path) = by_test (b == slash) (parts_len path)
  where
    by_test : (t : Bool) → length (parts_of path) ≤ length path + 1
        → length (if t then [] ∷ parts_of path else with_byte b (parts_of path)) ≤ suc (length path) + 1
    by_test true h = omega (arith, h)
    by_test false h = let more = with_byte_most b (length path) (parts_of path) h in omega (arith, more)

take_len : (n : ℕ) (name : Name) → length (parent_of name) ≤ length name
take_len n name = omega (arith, length-take_most (length name - 1) name)
  where
    length-take_most : (k : ℕ) (xs : Name) → length (take k xs) ≤ length xs
    length-take_most zero xs = omega arith
    length-take_most (suc k) [] = omega arith
    length-take_most (suc k) (x ∷ xs) = let rest = length-take_most k xs in omega (arith, rest)

entered_len : (at : Name) (part : List ℕ) → length (step_into at part) ≤ length at + 1
entered_len at part = by_tests (bytes_eq part [] || bytes_eq part (codes ".")) (bytes_eq part (codes ".."))
  where
    by_tests : (here up : Bool) → length (if here then at else if up then parent_of at else at ++ part ∷ []) ≤ length at
        + 1
    by_tests true up = omega arith
    by_tests false true = let fewer = take_len 0 at in omega (arith, fewer)
    by_tests false false = let one = length-append at (part ∷ []) in omega (arith, one)

walked_len : (at : Name) (parts : List (List ℕ)) → length (walk_from at parts) ≤ length at + length parts
walked_len at [] = omega arith
walked_len at (part ∷ parts) =
    let first = entered_len at part in let rest = walked_len (step_into at part) parts in omega (arith, first, rest)

components_len : (path : List ℕ) → length (components path) ≤ length path + 1
unfolding components
components_len path = let a = walked_len [] (parts_of path) in let b = parts_len path in omega (arith, a, b)

above_len : (leading : List ℕ) (at parts : Name) → length (directories_above leading at parts) ≤ length parts - 1
above_len leading at [] = omega arith
above_len leading at (part ∷ []) = omega arith
above_len leading at (part ∷ next ∷ parts) = let rest = above_len leading (at ++ part ∷ []) (next ∷ parts) in
    omega (arith, rest)

parents_of_len : (path content : List ℕ) → length (parents_of (job.Up path content)) ≤ length path
parents_of_len path content =
    let a = above_len (leading_slash path) [] (components path) in let b = components_len path in omega (arith, a, b)

inserted_len : (d : Directory) (ds : List Directory) → length (insert_directory d ds) ≤ length ds + 1
inserted_len d [] = omega arith
inserted_len d (other ∷ ds) = by_tests (bytes_eq d.path other.path) (is_made_before d other) (inserted_len d ds)
  where
    by_tests : (same before : Bool) → length (insert_directory d ds) ≤ length ds + 1
        → length (if same then other ∷ ds else if before then d ∷ other ∷ ds else other ∷ insert_directory d ds) ≤ suc
        (length ds) + 1
    by_tests true before h = omega arith
    by_tests false true h = omega arith
    by_tests false false h = omega (arith, h)

all_inserted_len : (more ds : List Directory) → length (all_inserted more ds) ≤ length more + length ds
all_inserted_len [] ds = omega arith
all_inserted_len (d ∷ more) ds =
    let one = inserted_len d (all_inserted more ds) in let rest = all_inserted_len more ds in omega (arith, one, rest)

-- ---- what lanes count

-- what the calls of a file count
abbrev calls_weight : Job → ℕ
calls_weight j = sum_by weight (calls_of j)

abbrev all_weight : List Job → ℕ
all_weight [] = 0
all_weight (j ∷ jobs) = calls_weight j + all_weight jobs

-- the calls of all files, and the directories
cost_is : (jobs : List Job) → 2 * length (parents jobs) + all_weight jobs ≤ jobs_cost jobs
cost_is [] = omega arith
cost_is (job.Up path content ∷ jobs) =
    let rest = cost_is jobs in
    let own = parents_of_len path content in
    let all = all_inserted_len (parents_of (job.Up path content)) (parents jobs) in
    omega (arith, rest, own, all)
cost_is (job.Down path bound ∷ jobs) = let rest = cost_is jobs in omega (arith, rest)

-- what lane k of so many counts for files of which the first has number n
abbrev lane_of : ℕ → ℕ → ℕ → List Job → ℕ
lane_of width k n jobs = sum_by weight (flat_map calls_of (jobs_of_lane width k n jobs))

-- and m lanes from lane k on
abbrev lanes_from : ℕ → ℕ → ℕ → ℕ → List Job → ℕ
lanes_from width k zero n jobs = 0
lanes_from width k (suc m) n jobs = lane_of width k n jobs + lanes_from width (k + 1) m n jobs

-- a weight in one of m lanes from lane k on
abbrev in_one : ℕ → ℕ → ℕ → ℕ → ℕ
in_one w r k zero = 0
in_one w r k (suc m) = (if r == k then w else 0) + in_one w r (k + 1) m

in_none : (w r k m : ℕ) → r < k → in_one w r k m ≡ 0
in_none w r k zero lt = refl
in_none w r k (suc m) lt = by_test (r == k) refl (in_none w r (k + 1) m (omega (arith, lt)))
  where
    by_test : (t : Bool) → (r == k) ≡ t → in_one w r (k + 1) m ≡ 0 → (if t then w else 0) + in_one w r (k + 1) m ≡ 0
    by_test true is h = absurd (let same = eqb-true r k is in omega (arith, same, lt))
    by_test false is h = omega (arith, h)

in_one_most : (w r k m : ℕ) → in_one w r k m ≤ w
in_one_most w r k zero = omega arith
in_one_most w r k (suc m) = by_test (r == k) refl (in_one_most w r (k + 1) m)
  where
    by_test : (t : Bool) → (r == k) ≡ t → in_one w r (k + 1) m ≤ w → (if t then w else 0) + in_one w r (k + 1) m ≤ w
    by_test true is h =
        let same = eqb-true r k is in
        let none = in_none w r (k + 1) m (omega (arith, same)) in omega (arith, none)
    by_test false is h = omega (arith, h)

lane_more : (width k n : ℕ) (j : Job) (jobs : List Job) → lane_of width k n (j ∷ jobs)
    ≡ (if n % width == k then calls_weight j else 0) + lane_of width k (n + 1) jobs
lane_more width k n j jobs = by_test (n % width == k)
  where
    by_test : (t : Bool) → sum_by weight (flat_map calls_of (if t then j ∷ jobs_of_lane width k (n + 1) jobs else
        jobs_of_lane width k (n + 1) jobs))
        ≡ (if t then calls_weight j else 0) + lane_of width k (n + 1) jobs
    by_test true = sum_by-append weight (calls_of j) (flat_map calls_of (jobs_of_lane width k (n + 1) jobs))
    by_test false = omega arith

lanes_more : (width k m n : ℕ) (j : Job) (jobs : List Job)
    → lanes_from width k m n (j ∷ jobs) ≡ in_one (calls_weight j) (n % width) k m + lanes_from width k m (n + 1) jobs
lanes_more width k zero n j jobs = refl
lanes_more width k (suc m) n j jobs =
    let here = lane_more width k n j jobs in let rest = lanes_more width (k + 1) m n j jobs in omega (arith, here, rest)

lanes_none : (width k m n : ℕ) → lanes_from width k m n [] ≡ 0
lanes_none width k zero n = refl
lanes_none width k (suc m) n = let rest = lanes_none width (k + 1) m n in omega (arith, rest)

lanes_most : (width k m n : ℕ) (jobs : List Job) → lanes_from width k m n jobs ≤ all_weight jobs
lanes_most width k m n [] = let none = lanes_none width k m n in omega (arith, none)
lanes_most width k m n (j ∷ jobs) =
    let here = lanes_more width k m n j jobs in
    let one = in_one_most (calls_weight j) (n % width) k m in
    let rest = lanes_most width k m (n + 1) jobs in
    omega (arith, here, one, rest)

copy_weight : (width k m : ℕ) (jobs : List Job) → sum_by lane_weight (copy_lanes width jobs k m)
    ≡ m + lanes_from width k m 0 jobs
copy_weight width k zero jobs = refl
copy_weight width k (suc m) jobs =
    let here = sum_by-cons lane_weight (copy_lane width jobs k) (copy_lanes width jobs (k + 1) m) in
    let rest = copy_weight width (k + 1) m jobs in
    omega (arith, here, rest)

mkdirs_weight : (ds : List Directory) → sum_by weight (map mkdir_call ds) ≡ 2 * length ds
mkdirs_weight [] = refl
mkdirs_weight (d ∷ ds) =
    let here = sum_by-cons weight (mkdir_call d) (map mkdir_call ds) in let rest = mkdirs_weight ds in
    omega (arith, here, rest)

all_lanes_weight : (width : ℕ) (jobs : List Job) → sum_by lane_weight (lanes_of width jobs) ≤ 1 + width + jobs_cost jobs
all_lanes_weight width jobs =
    let here = sum_by-cons lane_weight (record { calls = map mkdir_call (parents jobs) })
    (copy_lanes width jobs 0 width) in
    let dirs = mkdirs_weight (parents jobs) in
    let copies = copy_weight width 0 width jobs in
    let most = lanes_most width 0 width 0 jobs in
    let cost = cost_is jobs in
    omega (arith, here, dirs, copies, most, cost)

-- ---- each call is within its ranges

mkdirs_within : (ds : List Directory) → list_all is_within (map mkdir_call ds) ≡ true
mkdirs_within [] = refl
mkdirs_within (d ∷ ds) = mkdirs_within ds

bound_within : (n : ℕ) → nat_lt n (2 ^ 32 - 1) ≡ true → (nat_le 1 (n + 1) && nat_lt (n + 1) (2 ^ 32)) ≡ true
bound_within n h = grind (arith, nat_tests)

calls_within : (j : Job) → is_bounded j ≡ true → list_all is_within (calls_of j) ≡ true
calls_within (job.Up path content) h = rw (bound_within (length content) h) refl
calls_within (job.Down path bound) h = rw h refl

dealt_within : (width k n : ℕ) (jobs : List Job) → list_all is_bounded jobs ≡ true
    → list_all is_within (flat_map calls_of (jobs_of_lane width k n jobs)) ≡ true
dealt_within width k n [] h = refl
dealt_within width k n (j ∷ jobs) h =
    let both = and_parts (is_bounded j) (list_all is_bounded jobs) h in
    by_test (n % width == k) (calls_within j both.0) (dealt_within width k (n + 1) jobs both.1)
  where
    by_test : (t : Bool) → list_all is_within (calls_of j) ≡ true
        → list_all is_within (flat_map calls_of (jobs_of_lane width k (n + 1) jobs)) ≡ true
        → list_all is_within (flat_map calls_of (if t then j ∷ jobs_of_lane width k (n + 1) jobs else
        jobs_of_lane width k (n + 1) jobs)) ≡ true
    by_test true here rest = rw (
      list_all-append is_within (calls_of j)
          (flat_map calls_of (jobs_of_lane width k (n + 1) jobs)),
      here,
      rest,
    ) refl
    by_test false here rest = rest

copies_within : (width k m : ℕ) (jobs : List Job) → list_all is_bounded jobs ≡ true
    → list_all (λ (lane : Lane). list_all is_within lane.calls) (copy_lanes width jobs k m) ≡ true
copies_within width k zero jobs h = refl
copies_within width k (suc m) jobs h = rw (dealt_within width k 0 jobs h, copies_within width (k + 1) m jobs h) refl

-- ---- both

less : (n m : ℕ) → n < m → nat_lt n m ≡ true
less n m h = grind (arith, nat_tests)

pub lanes_fit : (width : ℕ) (jobs : List Job) → width ≤ 64 → list_all is_bounded jobs ≡ true
    → jobs_cost jobs ≤ MAX_SCRIPT_LEN * 66 → are_ok (lanes_of width jobs) ≡ true
lanes_fit width jobs narrow bounded few =
    let all = all_lanes_weight width jobs in
    rw (
      mkdirs_within (parents jobs),
      copies_within width 0 width jobs bounded,
      less (sum_by lane_weight (lanes_of width jobs)) weight_limit (omega (arith, all, narrow, few)),
    ) refl
