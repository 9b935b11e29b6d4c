-- Where the calls of a file stand among those of its lane, and what is said of it.
use Rattle.std.proofs.Common.{◌≡◌, ◌<◌, ◌≤◌, ◌+◌, ℕ, zero, suc, List, [], ◌∷◌, ◌++◌, length, take, drop, Option, Some, None, refl, ap, sym, ◌∙◌, arith}
use Rattle.std.specs.Prelude.{slice_get}
use Rattle.std.proofs.lemmas.List.{append-nil, append_assoc}
use Rattle.sftp_model.specs.declared.outcome.Outcome.{Outcome}
use Rattle.mirror_jobs.proofs.DealtLaws.{none_more}
use Rattle.mirror_jobs.specs.declared.job.Job.{Job}
use Rattle.mirror_jobs.specs.declared.verdict.Verdict.{Verdict}
use Rattle.mirror_jobs.specs.JobLanes.{copy_lane, copy_lanes, lanes_of}
use Rattle.mirror_jobs.specs.Verdicts.{outcomes_after, verdict_of, verdicts_after}

-- ---- lists

-- a value at a place: those before it, it, and those behind it
pub record IsCutAt {A : Type 0} (xs : List A) (i : ℕ) (x : A) : Type 0 where
  pub before : List A
  pub behind : List A
  pub is : xs ≡ before ++ x ∷ behind
  pub at : length before ≡ i

abbrev pub inside : {A : Type 0} → A → Option A → A
inside other None = other
inside other (Some x) = x

pub cut_at : {A : Type 0} (xs : List A) (i : ℕ) (x : A) → slice_get xs i ≡ Some x → IsCutAt xs i x
cut_at [] i x e = absurd cc
cut_at {A} (y ∷ xs) zero x e = record {
  before = [];
  behind = xs;
  is =
      ap (λ (w : A). let l : List A = w ∷ xs in l) (ap (inside y) e);
  at = refl;
}
cut_at {A} (y ∷ xs) (suc i) x e = let c = cut_at xs i x e in
    record {
      before = y ∷ c.before;
      behind = c.behind;
      is = ap (λ (w : List A). let l : List A = y ∷ w in l) c.is;
      at =
          ap suc c.at;
    }

pub got_behind : {A : Type 0} (xs ys : List A) (x : A) → slice_get (xs ++ x ∷ ys) (length xs) ≡ Some x
got_behind [] ys x = refl
got_behind (y ∷ xs) ys x = got_behind xs ys x

pub got_next : {A : Type 0} (xs ys : List A) (x y : A) → slice_get (xs ++ x ∷ y ∷ ys) (suc (length xs)) ≡ Some y
got_next [] ys x y = refl
got_next (z ∷ xs) ys x y = got_next xs ys x y

pub drop_behind : {A : Type 0} (xs ys : List A) → drop (length xs) (xs ++ ys) ≡ ys
drop_behind [] ys = refl
drop_behind (x ∷ xs) ys = drop_behind xs ys

pub take_before : {A : Type 0} (xs ys : List A) → take (length xs) (xs ++ ys) ≡ xs
take_before [] ys = refl
take_before {A} (x ∷ xs) ys = ap (λ (w : List A). let l : List A = x ∷ w in l) (take_before xs ys)

-- what stands first among so many from a place on
pub first_taken : {A : Type 0} (n place : ℕ) (xs : List A) (x : A) (rest : List A) → take n (drop place xs) ≡ x ∷ rest
    → slice_get xs place ≡ Some x
first_taken zero place xs x rest e = absurd cc
first_taken (suc n) zero [] x rest e = absurd cc
first_taken (suc n) zero (y ∷ xs) x rest e = ap first_of e
  where
    first_of : {A : Type 0} → List A → Option A
    first_of [] = None
    first_of (y ∷ ys) = Some y
first_taken (suc n) (suc place) [] x rest e = absurd cc
first_taken (suc n) (suc place) (y ∷ xs) x rest e = first_taken (suc n) place xs x rest e

-- ---- lanes

copying_got : (width : ℕ) (jobs : List Job) (k m n : ℕ) → n < m → slice_get (copy_lanes width jobs k m) n
    ≡ Some (copy_lane width jobs (k + n))
copying_got width jobs k zero n lt = absurd (omega (arith, lt))
copying_got width jobs k (suc m) zero lt = ap (λ (i : ℕ). Some (copy_lane width jobs i))
    (let e : k ≡ k + 0 = omega arith in e)
copying_got width jobs k (suc m) (suc n) lt =
    copying_got width jobs (k + 1) m n (omega (arith, lt)) ∙ ap (λ (i : ℕ). Some (copy_lane width jobs i))
    (let e : k + 1 + n ≡ k + suc n = omega arith in e)

copying_beyond : (width : ℕ) (jobs : List Job) (k m n : ℕ) → m ≤ n → slice_get (copy_lanes width jobs k m) n ≡ None
copying_beyond width jobs k zero n le = refl
copying_beyond width jobs k (suc m) zero le = absurd (omega (arith, le))
copying_beyond width jobs k (suc m) (suc n) le = copying_beyond width jobs (k + 1) m n (omega (arith, le))

pub lane_got : (width : ℕ) (jobs : List Job) (k : ℕ) → k < width → slice_get (lanes_of width jobs) (suc k)
    ≡ Some (copy_lane width jobs k)
lane_got width jobs k lt = copying_got width jobs 0 width k lt
    ∙ ap (λ (i : ℕ). Some (copy_lane width jobs i)) (none_more k)

pub lane_beyond : (width : ℕ) (jobs : List Job) (k : ℕ) → width ≤ k → slice_get (lanes_of width jobs) (suc k) ≡ None
lane_beyond width jobs k le = copying_beyond width jobs 0 width k le

-- ---- verdicts

pub verdict_at : (width : ℕ) (first before behind : List Job) (j : Job) (outcomes : List (List Outcome)) (v : Verdict)
    → slice_get (verdicts_after width first (before ++ j ∷ behind) outcomes) (length before) ≡ Some v
    → v ≡ verdict_of j (outcomes_after width (first ++ before) j outcomes)
verdict_at width first [] behind j outcomes v e = sym (ap (inside v) e)
    ∙ ap (λ (w : List Job). verdict_of j (outcomes_after width w j outcomes)) (sym (append-nil first))
verdict_at width first (x ∷ before) behind j outcomes v e =
    verdict_at width (first ++ x ∷ []) before behind j outcomes v e
    ∙ ap (λ (w : List Job). verdict_of j (outcomes_after width w j outcomes)) (append_assoc first (x ∷ []) before)
