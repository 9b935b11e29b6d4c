-- Files that are dealt out to lanes, one after another.
use Rattle.std.proofs.Common.{◌≡◌, ◌<◌, ◌+◌, ◌-◌, ◌%◌, ◌==◌, ℕ, suc, Bool, true, false, List, [], ◌∷◌, ◌++◌, length, if◌then◌else◌, refl, ap, sym, ◌∙◌, arith}
use Rattle.std.specs.List.{flat_map}
use Rattle.std.proofs.lemmas.Bool.{eq-eqb}
use Rattle.std.proofs.lemmas.Grind.{flat_map-append}
use Rattle.std.proofs.lemmas.List.{append_assoc}
use Rattle.plan_model.specs.declared.call.Lane.{Lane}
use Rattle.mirror_jobs.specs.declared.job.Job.{Job}
use Rattle.mirror_jobs.specs.JobLanes.{calls_of, copy_lane, copy_lanes, jobs_of_lane}

pub none_more : (n : ℕ) → 0 + n ≡ n
none_more n = omega arith

pub dealt_append : (width k n : ℕ) (xs ys : List Job) → jobs_of_lane width k n (xs ++ ys) ≡ jobs_of_lane width k n xs
    ++ jobs_of_lane width k (n + length xs) ys
dealt_append width k n [] ys = ap (λ (m : ℕ). jobs_of_lane width k m ys) (let e : n ≡ n + 0 = omega arith in e)
dealt_append width k n (x ∷ xs) ys =
    by_test (n % width == k) (dealt_append width k (n + 1) xs ys
    ∙ ap (λ (m : ℕ). jobs_of_lane width k (n + 1) xs ++ jobs_of_lane width k m ys)
    (let e : n + 1 + length xs ≡ n + length (x ∷ xs) = omega arith in e))
  where
    by_test : (b : Bool) → jobs_of_lane width k (n + 1) (xs ++ ys) ≡ jobs_of_lane width k (n + 1) xs
        ++ jobs_of_lane width k (n + length (x ∷ xs)) ys
        → (if b then x ∷ jobs_of_lane width k (n + 1) (xs ++ ys) else jobs_of_lane width k (n + 1) (xs ++ ys))
        ≡ (if b then x ∷ jobs_of_lane width k (n + 1) xs else jobs_of_lane width k (n + 1) xs)
        ++ jobs_of_lane width k (n + length (x ∷ xs)) ys
    by_test true e = ap (λ (w : List Job). let l : List Job = x ∷ w in l) e
    by_test false e = e

pub head_dealt : (width k n : ℕ) (j : Job) (jobs : List Job) → (n % width == k) ≡ true
    → jobs_of_lane width k n (j ∷ jobs) ≡ j ∷ jobs_of_lane width k (n + 1) jobs
head_dealt width k n j jobs e = ap (λ (b : Bool). if b then j ∷ jobs_of_lane width k (n + 1) jobs else
    jobs_of_lane width k (n + 1) jobs) e

pub head_skipped : (width k n : ℕ) (j : Job) (jobs : List Job) → (n % width == k) ≡ false
    → jobs_of_lane width k n (j ∷ jobs) ≡ jobs_of_lane width k (n + 1) jobs
head_skipped width k n j jobs e = ap (λ (b : Bool). if b then j ∷ jobs_of_lane width k (n + 1) jobs else
    jobs_of_lane width k (n + 1) jobs) e

-- the lane of a job has it behind those that were dealt to it before
pub dealt_here : (width : ℕ) (before behind : List Job) (j : Job)
    → jobs_of_lane width (length before % width) 0 (before ++ j ∷ behind)
    ≡ jobs_of_lane width (length before % width) 0 before
    ++ j ∷ jobs_of_lane width (length before % width) (length before + 1) behind
dealt_here width before behind j =
    dealt_append width (length before % width) 0 before (j ∷ behind)
    ∙ ap (λ (w : List Job). jobs_of_lane width (length before % width) 0 before ++ w)
    (ap (λ (n : ℕ). jobs_of_lane width (length before % width) n (j ∷ behind)) (none_more (length before))
    ∙ head_dealt width (length before % width) (length before) j behind
    (eq-eqb (length before % width) (length before % width) refl))

-- the other lanes don't
pub dealt_elsewhere : (width k : ℕ) (before behind : List Job) (j : Job) → (length before % width == k) ≡ false
    → jobs_of_lane width k 0 (before ++ j ∷ behind) ≡ jobs_of_lane width k 0 before
    ++ jobs_of_lane width k (length before + 1) behind
dealt_elsewhere width k before behind j other = dealt_append width k 0 before (j ∷ behind)
    ∙ ap (λ (w : List Job). jobs_of_lane width k 0 before ++ w)
    (ap (λ (n : ℕ). jobs_of_lane width k n (j ∷ behind)) (none_more (length before))
    ∙ head_skipped width k (length before) j behind other)

-- the calls of a lane: those of the jobs before a job of it, the job's, and those behind it
pub calls_here : (width : ℕ) (before behind : List Job) (j : Job)
    → flat_map calls_of (jobs_of_lane width (length before % width) 0 (before ++ j ∷ behind))
    ≡ flat_map calls_of (jobs_of_lane width (length before % width) 0 before)
    ++ (calls_of j ++ flat_map calls_of (jobs_of_lane width (length before % width) (length before + 1) behind))
calls_here width before behind j =
    ap (flat_map calls_of) (dealt_here width before behind j) ∙ flat_map-append calls_of
    (jobs_of_lane width (length before % width) 0 before) (j ∷ jobs_of_lane width (length before % width)
    (length before + 1)
    behind)

-- ---- what is left to make

pub one_left : (k n : ℕ) → k < n → n - k ≡ suc (n - (k + 1))
one_left k n lt = omega arith

pub lanes_go_on : (width : ℕ) (jobs : List Job) (k n : ℕ) (done new all : List Lane) (lane : Lane) → done
    ++ copy_lanes width jobs k (n - k) ≡ all → k < n
    → lane ≡ copy_lane width jobs k → new ≡ done ++ lane ∷ [] → new ++ copy_lanes width jobs (k + 1) (n - (k + 1)) ≡ all
lanes_go_on width jobs k n done new all lane so_far lt is more =
    (λ i. more i ++ copy_lanes width jobs (k + 1) (n - (k + 1)))
    ∙ append_assoc done (lane ∷ []) (copy_lanes width jobs (k + 1) (n - (k + 1)))
    ∙ (λ i. done ++ is i ∷ copy_lanes width jobs (k + 1) (n - (k + 1)))
    ∙ ap (λ (m : ℕ). done ++ copy_lanes width jobs k m) (sym (one_left k n lt))
    ∙ so_far
