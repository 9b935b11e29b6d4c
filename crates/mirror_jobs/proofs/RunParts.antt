-- The turns under which files are copied, the lane that makes directories, and what is said of a file by its outcomes.
use Rattle.std.proofs.Common.{◌≡◌, ◌≢◌, ◌<◌, ◌+◌, ℕ, zero, suc, true, List, [], ◌∷◌, ◌++◌, length, take, drop, Some, refl, ap, sym, ◌∙◌, arith, inl, inr}
use Rattle.std.specs.Prelude.{map, replicate, slice_get, slice_index_or}
use Rattle.std.specs.List.{list_all}
use Rattle.std.proofs.lemmas.Bool.{and_parts}
use Rattle.std.proofs.lemmas.Bool.Decides.{eqb_tells}
use Rattle.std.proofs.lemmas.List.{append-nil, append_assoc, length-append}
use Rattle.sftp_model.specs.declared.outcome.Outcome.{Outcome}
use Rattle.sftp_model.specs.declared.outcome.Outcome.TheVariants as outcome
use Rattle.machine_model.proofs.NameLaws.{handles_tell}
use Rattle.plan_model.specs.declared.call.Call.{Call}
use Rattle.plan_model.specs.declared.call.Call.TheVariants as call
use Rattle.session_model.specs.declared.entry.Entry.{Entry}
use Rattle.session_model.specs.declared.turn.Turn.{Turn}
use Rattle.session_model.specs.declared.turn.Turn.TheVariants as turn
use Rattle.session_model.specs.Readings.{outcomes_below, outcomes_of}
use Rattle.run_ending_laws.specs.FirstMkdirs.{times_then}
use Rattle.run_ending_laws.specs.PlainCalls.{is_calm}
use Rattle.mirror_jobs.specs.declared.directory.Directory.{Directory}
use Rattle.mirror_jobs.specs.declared.job.Job.{Job}
use Rattle.mirror_jobs.specs.declared.job.Job.TheVariants as job
use Rattle.mirror_jobs.specs.declared.verdict.Verdict.TheVariants as verdict
use Rattle.mirror_jobs.specs.JobLanes.{mkdir_call, mkdir_turns, repeat_turn, round, steps_from, turns_of}
use Rattle.mirror_jobs.specs.Parents.{parents}
use Rattle.mirror_jobs.specs.Verdicts.{outcomes_after, verdict_of, verdicts_after}
use Rattle.mirror_jobs.proofs.OrderLaws.{paths_of}

-- ---- turns

pub steps_calm : (lane n : ℕ) → list_all is_calm (steps_from lane n) ≡ true
steps_calm lane zero = refl
steps_calm lane (suc n) = steps_calm (lane + 1) n

pub takes_calm : (n : ℕ) → list_all is_calm (replicate n turn.Take) ≡ true
takes_calm zero = refl
takes_calm (suc n) = takes_calm n

pub append_calm : (xs ys : List Turn) → list_all is_calm xs ≡ true → list_all is_calm ys ≡ true
    → list_all is_calm (xs ++ ys) ≡ true
append_calm [] ys all more = more
append_calm (x ∷ xs) ys all more = let both = and_parts (is_calm x) (list_all is_calm xs) all in
    rw (both.0, append_calm xs ys both.1 more) refl

pub repeated_calm : (n : ℕ) (turns : List Turn) → list_all is_calm turns ≡ true → list_all is_calm (repeat_turn n turns)
    ≡ true
repeated_calm zero turns all = refl
repeated_calm (suc n) turns all = append_calm turns (repeat_turn n turns) all (repeated_calm n turns all)

pub turns_calm : (width rounds : ℕ) (jobs : List Job) → list_all is_calm (turns_of width rounds jobs) ≡ true
turns_calm width rounds jobs =
    append_calm (repeat_turn (length (parents jobs)) mkdir_turns) (repeat_turn rounds (round width))
    (repeated_calm (length (parents jobs)) mkdir_turns refl)
    (repeated_calm rounds (round width) (append_calm (steps_from 1 width) (turn.Flush ∷ replicate width turn.Take)
    (steps_calm 1 width) (takes_calm width)))

pub times_are : (n : ℕ) (turns later : List Turn) → repeat_turn n turns ++ later ≡ times_then n turns later
times_are zero turns later = refl
times_are (suc n) turns later = append_assoc turns (repeat_turn n turns) later
    ∙ ap (λ (w : List Turn). turns ++ w) (times_are n turns later)

-- ---- the lane that makes directories

pub mkdir_calls : (ds : List Directory) → map mkdir_call ds ≡ map call.Mkdir (paths_of ds)
mkdir_calls [] = refl
mkdir_calls (d ∷ ds) = ap (λ (w : List Call). call.Mkdir d.path ∷ w) (mkdir_calls ds)

-- ---- verdicts

pub index_left : {A : Type 0} (xs ys : List A) (i : ℕ) (d : A) → i < length xs → slice_index_or (xs ++ ys) i d
    ≡ slice_index_or xs i d
index_left [] ys i d lt = absurd (omega (arith, lt))
index_left (x ∷ xs) ys zero d lt = refl
index_left (x ∷ xs) ys (suc i) d lt = index_left xs ys i d (omega (arith, lt))

pub index_last : {A : Type 0} (xs : List A) (x d : A) → slice_index_or (xs ++ x ∷ []) (length xs) d ≡ x
index_last [] x d = refl
index_last (y ∷ xs) x d = index_last xs x d

pub lanes_counted : (past : List Entry) (n : ℕ) → length (outcomes_below past n) ≡ n
lanes_counted past zero = refl
lanes_counted past (suc n) = (let l = length-append (outcomes_below past n) (outcomes_of past n ∷ []) in let old =
    lanes_counted past n in omega (arith, l, old))

pub outcomes_at : (past : List Entry) (n lane : ℕ) → lane < n → slice_index_or (outcomes_below past n) lane []
    ≡ outcomes_of past lane
outcomes_at past zero lane lt = absurd (omega (arith, lt))
outcomes_at past (suc n) lane lt = elim (eqb_tells lane n) [
  | inl t ↦ (let count : lane ≡ length (outcomes_below past n) = t.1 ∙ sym (lanes_counted past n) in
      ap (λ (i : ℕ). slice_index_or (outcomes_below past (suc n)) i []) count
      ∙ (index_last (outcomes_below past n) (outcomes_of past n) [] ∙ ap (outcomes_of past) (sym t.1)))
  | inr t ↦ (let low : lane < n = (let ne : lane ≢ n = t.1 in omega (arith, ne, lt)) in
      index_left (outcomes_below past n) (outcomes_of past n ∷ []) lane []
      (let c = lanes_counted past n in omega (arith, low, c)) ∙ outcomes_at past n lane low)
]

pub two_taken : (xs : List Outcome) (k : ℕ) (a b : Outcome) → slice_get xs k ≡ Some a → slice_get xs (suc k) ≡ Some b
    → take 2 (drop k xs) ≡ a ∷ b ∷ []
two_taken [] k a b e f = absurd cc
two_taken (x ∷ []) zero a b e f = absurd cc
two_taken (x ∷ y ∷ xs) zero a b e f = (let one : x ≡ a = cc in let two : y ≡ b = cc in λ i. one i ∷ two i ∷ [])
two_taken (x ∷ xs) (suc k) a b e f = two_taken xs k a b e f

pub copied_verdict : (path content : List ℕ) → verdict_of (job.Up path content)
    (outcome.Done ∷ outcome.Bytes content ∷ []) ≡ verdict.Copied
copied_verdict path content = rw ((handles_tell content content).1 refl) refl

pub verdict_there : (width : ℕ) (first before behind : List Job) (j : Job) (outcomes : List (List Outcome))
    → slice_get (verdicts_after width first (before ++ j ∷ behind) outcomes) (length before)
    ≡ Some (verdict_of j (outcomes_after width (first ++ before) j outcomes))
verdict_there width first [] behind j outcomes = ap (λ (w : List Job). Some
    (verdict_of j (outcomes_after width w j outcomes))) (sym (append-nil first))
verdict_there width first (x ∷ before) behind j outcomes =
    verdict_there width (first ++ x ∷ []) before behind j outcomes
    ∙ ap (λ (w : List Job). Some (verdict_of j (outcomes_after width w j outcomes)))
    (append_assoc first (x ∷ []) before)

pub one_taken : (xs : List Outcome) (k : ℕ) (a : Outcome) → slice_get xs k ≡ Some a → take 1 (drop k xs) ≡ a ∷ []
one_taken [] k a e = absurd cc
one_taken (x ∷ xs) zero a e = (let one : x ≡ a = cc in λ i. one i ∷ [])
one_taken (x ∷ xs) (suc k) a e = one_taken xs k a e
