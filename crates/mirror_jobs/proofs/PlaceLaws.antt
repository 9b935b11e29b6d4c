-- Where the calls of the next file of each lane stand, and the verdicts on the files before.
use Rattle.std.proofs.Common.{
  ◌≡◌,
  ◌≢◌,
  ◌<◌,
  ◌≤◌,
  ◌+◌,
  ◌*◌,
  ◌^◌,
  ◌%◌,
  ◌==◌,
  ℕ,
  suc,
  Bool,
  true,
  false,
  List,
  [],
  ◌∷◌,
  ◌++◌,
  length,
  take,
  drop,
  get_or,
  replicate,
  if◌then◌else◌,
  refl,
  ap,
  sym,
  ◌∙◌,
  subst,
  arith,
}
use Rattle.std.specs.Prelude.{slice_index_or, slice_set}
use Rattle.std.specs.List.{flat_map}
use Rattle.std.proofs.lemmas.Bool.{eq-eqb, eqb-true}
use Rattle.std.proofs.lemmas.List.{
  append-nil,
  append_assoc,
  drop_more,
  get_or-replicate,
  get_or_default,
  get_or-set_other,
  get_or-set_same,
  length-append,
  length-replicate,
  length-set,
  length-take-le,
  take_more,
}
use Rattle.sftp_model.specs.declared.outcome.Outcome.{Outcome}
use Rattle.mirror_jobs.proofs.DealtLaws.{calls_here, dealt_elsewhere}
use Rattle.mirror_jobs.specs.declared.job.Job.{Job}
use Rattle.mirror_jobs.specs.declared.job.Job.TheVariants as job
use Rattle.mirror_jobs.specs.declared.verdict.Verdict.{Verdict}
use Rattle.mirror_jobs.specs.JobLanes.{calls_of, jobs_of_lane}
use Rattle.mirror_jobs.specs.Verdicts.{outcomes_after, verdict_of, verdicts_after, verdicts_of}

-- how many calls a lane has for these files
abbrev pub calls_for : ℕ → ℕ → List Job → ℕ
calls_for width k before = length (flat_map calls_of (jobs_of_lane width k 0 before))

-- each lane's place is behind its calls for the files so far
pub record Placed (width : ℕ) (before : List Job) (places : List ℕ) : Type 0 where
  pub count : length places ≡ width
  pub at : (k : ℕ) → k < width → get_or places k 0 ≡ calls_for width k before

none_placed : (width : ℕ) (places : List ℕ) → places ≡ replicate width 0 → Placed width [] places
none_placed width places is =
    record {
      count = ap length is ∙ length-replicate width 0;
      at = λ k lt. ap (λ (p : List ℕ). get_or p k 0) is ∙ get_or-replicate width k 0 0 lt;
    }

calls_few : (j : Job) → length (calls_of j) ≤ 2
calls_few (job.Up name content) = omega arith
calls_few (job.Down name bound) = omega arith

dealt_few : (width k n : ℕ) (jobs : List Job) → length (flat_map calls_of (jobs_of_lane width k n jobs)) ≤ 2 * length
    jobs
dealt_few width k n [] = omega arith
dealt_few width k n (j ∷ jobs) = by_test (n % width == k) (dealt_few width k (n + 1) jobs)
  where
    by_test : (b : Bool) → length (flat_map calls_of (jobs_of_lane width k (n + 1) jobs)) ≤ 2 * length jobs
        → length (flat_map calls_of (if b then j ∷ jobs_of_lane width k (n + 1) jobs else
        jobs_of_lane width k (n + 1) jobs)) ≤ 2 * suc (length jobs)
    by_test true le = omega (
      arith,
      le,
      calls_few j,
      length-append (calls_of j)
          (flat_map calls_of (jobs_of_lane width k (n + 1) jobs)),
    )
    by_test false le = omega (arith, le)

-- a place is at most twice as far as there are files
pub placed_few : (width k : ℕ) (before : List Job) (places : List ℕ) → Placed width before places → k < width
    → get_or places k 0 ≤ 2 * length before
placed_few width k before places h lt = omega (arith, h.at k lt, dealt_few width k 0 before)

-- one file more
calls_more : (width : ℕ) (before : List Job) (j : Job)
    → calls_for width (length before % width) before + length (calls_of j)
    ≡ calls_for width (length before % width) (before ++ j ∷ [])
calls_more width before j =
    let lane : ℕ = length before % width in
    let whole : calls_for width lane (before ++ j ∷ []) ≡ length
    (flat_map calls_of (jobs_of_lane width lane 0 before) ++ (calls_of j ++ [])) =
    ap length (calls_here width before [] j)
    in
    let outer : length (flat_map calls_of (jobs_of_lane width lane 0 before) ++ (calls_of j ++ []))
    ≡ calls_for width lane before + length (calls_of j ++ []) =
    length-append (flat_map calls_of (jobs_of_lane width lane 0 before)) (calls_of j ++ []) in
    let inner : length (calls_of j ++ []) ≡ length (calls_of j) = ap length (append-nil (calls_of j)) in
    sym (whole ∙ outer ∙ ap (λ (n : ℕ). calls_for width lane before + n) inner)

placed_on : (width : ℕ) (before : List Job) (j : Job) (places new : List ℕ) (place : ℕ) → Placed width before places
    → length before % width < width
    → place ≡ get_or places (length before % width) 0 → new ≡ slice_set places (length before % width)
    (place + length (calls_of j)) → Placed width (before ++ j ∷ []) new
placed_on width before j places new place h here is more =
    record {
      count = ap length more ∙ length-set places (length before % width) (place + length (calls_of j)) ∙ h.count;
      at = λ k lt. ap (λ (p : List ℕ). get_or p k 0) more ∙ by_test k lt (length before % width == k) (same k lt)
          (other k lt);
    }
  where
    by_test : (k : ℕ) → k < width → (b : Bool) → (b ≡ true → get_or
        (slice_set places (length before % width) (place + length (calls_of j))) k 0
        ≡ calls_for width k (before ++ j ∷ []))
        → (b ≡ false → get_or (slice_set places (length before % width) (place + length (calls_of j))) k 0
        ≡ calls_for width k (before ++ j ∷ []))
        → get_or (slice_set places (length before % width) (place + length (calls_of j))) k 0
        ≡ calls_for width k (before ++ j ∷ [])
    by_test k lt true yes_ no_ = yes_ refl
    by_test k lt false yes_ no_ = no_ refl

    same : (k : ℕ) → k < width → (length before % width == k) ≡ true
        → get_or (slice_set places (length before % width) (place + length (calls_of j))) k 0
        ≡ calls_for width k (before ++ j ∷ [])
    same k lt test =
        let now : length before % width ≡ k = eqb-true (length before % width) k test in
        let at_lane = get_or-set_same places (length before % width) (place + length (calls_of j)) 0
        (omega (arith, here, h.count))
        ∙ ap (λ (n : ℕ). n + length (calls_of j)) (is ∙ h.at (length before % width) here) ∙ calls_more width before j
        in
        subst (λ (m : ℕ). get_or (slice_set places (length before % width) (place + length (calls_of j))) m 0
        ≡ calls_for width m (before ++ j ∷ [])) now at_lane

    other : (k : ℕ) → k < width → (length before % width == k) ≡ false
        → get_or (slice_set places (length before % width) (place + length (calls_of j))) k 0
        ≡ calls_for width k (before ++ j ∷ [])
    other k lt test =
        let apart : k ≢ length before % width = λ e. absurd (let yes_ : (length before % width == k) ≡ true =
        eq-eqb (length before % width) k (sym e) in cc) in
        get_or-set_other places (length before % width) k (place + length (calls_of j)) 0 apart
        ∙ h.at k lt
        ∙ sym (ap (λ (l : List Job). length (flat_map calls_of l))
        (dealt_elsewhere width k before [] j test ∙ append-nil (jobs_of_lane width k 0 before)))

-- the places behind the first i files, and their verdicts
pub record SoFar (width : ℕ) (jobs : List Job) (outcomes : List (List Outcome)) (i : ℕ) (places : List ℕ)
    (verdicts : List Verdict) : Type 0 where
  pub placed : Placed width (take i jobs) places
  pub left : verdicts ++ verdicts_after width (take i jobs) (drop i jobs) outcomes ≡ verdicts_of width jobs outcomes

pub so_far_none : (width : ℕ) (jobs : List Job) (outcomes : List (List Outcome)) (places : List ℕ)
    (verdicts : List Verdict) → places ≡ replicate width 0 → verdicts ≡ []
    → SoFar width jobs outcomes 0 places verdicts
so_far_none width jobs outcomes places verdicts zeros none =
    record {
      placed = none_placed width places zeros;
      left = ap
          (λ (v : List Verdict). v ++ verdicts_of width jobs outcomes) none;
    }

pub so_far_on : (width : ℕ) (jobs : List Job) (outcomes : List (List Outcome)) (i : ℕ) (places new_places : List ℕ)
    (verdicts new_verdicts : List Verdict) (j : Job) (place : ℕ) (v : Verdict)
    → SoFar width jobs outcomes i places verdicts → i % width < width → i < length jobs → j ≡ get_or jobs i j → place
    ≡ get_or places (i % width) place
    → v ≡ verdict_of j (take (length (calls_of j)) (drop place (slice_index_or outcomes (i % width + 1) [])))
    → new_places ≡ slice_set places (i % width) (place + length (calls_of j)) → new_verdicts ≡ verdicts ++ v ∷ []
    → SoFar width jobs outcomes (i + 1) new_places new_verdicts
so_far_on width jobs outcomes i places new_places verdicts new_verdicts j place v h here lt is at said set more =
    let before : List Job = take i jobs in
    let len : length before ≡ i = length-take-le i jobs (omega (arith, lt)) in
    let taken : take (i + 1) jobs ≡ before ++ j ∷ [] = take_more jobs i j lt
    ∙ ap (λ (x : Job). before ++ x ∷ []) (sym is) in
    let dropped : drop i jobs ≡ j ∷ drop (i + 1) jobs = drop_more jobs i j lt
    ∙ ap (λ (x : Job). let l : List Job = x ∷ drop (i + 1) jobs in l) (sym is) in
    let in_lane : length before % width < width = subst (λ (n : ℕ). n % width < width) (sym len) here in
    let at_lane : place ≡ get_or places (length before % width) 0 = at
    ∙ get_or_default places (i % width) place 0 (omega (arith, here, h.placed.count))
    ∙ ap (λ (n : ℕ). get_or places (n % width) 0) (sym len) in
    let set_lane : new_places ≡ slice_set places (length before % width) (place + length (calls_of j)) = set
    ∙ ap (λ (n : ℕ). slice_set places (n % width) (place + length (calls_of j))) (sym len) in
    let said_so : v ≡ verdict_of j (outcomes_after width before j outcomes) = said
    ∙ ap (λ (n : ℕ). verdict_of j (take (length (calls_of j)) (drop place (slice_index_or outcomes n []))))
    (let e : i % width + 1 ≡ suc (i % width) = omega arith in e)
    ∙ ap (λ (n : ℕ). verdict_of j (take (length (calls_of j)) (drop place
    (slice_index_or outcomes (suc (n % width)) [])))) (sym len)
    ∙ ap (λ (p : ℕ). verdict_of j (take (length (calls_of j)) (drop p
    (slice_index_or outcomes (suc (length before % width)) []))))
    (at_lane ∙ h.placed.at (length before % width) in_lane) in
    record {
      placed = subst (λ (b : List Job). Placed width b new_places) (sym taken)
          (placed_on width before j places new_places place h.placed in_lane at_lane set_lane);
      left = (λ k. more k ++ verdicts_after width (taken k) (drop (i + 1) jobs) outcomes)
          ∙ append_assoc verdicts (v ∷ []) (verdicts_after width (before ++ j ∷ []) (drop (i + 1) jobs) outcomes)
          ∙ (λ k. verdicts ++ said_so k ∷ verdicts_after width (before ++ j ∷ []) (drop (i + 1) jobs) outcomes)
          ∙ ap (λ (l : List Job). verdicts ++ verdicts_after width before l outcomes) (sym dropped)
          ∙ h.left;
    }

-- a place and the few calls after it are a number of 64 bits
pub place_fits : (width : ℕ) (jobs : List Job) (outcomes : List (List Outcome)) (i : ℕ) (places : List ℕ)
    (verdicts : List Verdict) (place count : ℕ)
    → SoFar width jobs outcomes i places verdicts → i % width < width → i < length jobs → length jobs < 2 ^ 63 → place
    ≡ get_or places (i % width) place → count ≤ 2 → place + count < 2 ^ 64
place_fits width jobs outcomes i places verdicts place count h here lt few at le =
    let len : length (take i jobs) ≡ i = length-take-le i jobs (omega (arith, lt)) in
    let at_zero = at ∙ get_or_default places (i % width) place 0 (omega (arith, here, h.placed.count)) in
    omega (arith, at_zero, le, lt, few, len, placed_few width (i % width) (take i jobs) places h.placed here)
