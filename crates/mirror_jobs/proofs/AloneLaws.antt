-- The name of a file that is copied is its lane's alone.
use Rattle.std.proofs.Common.{
  ◌≡◌,
  ◌≢◌,
  ◌<◌,
  ◌+◌,
  ◌%◌,
  ◌==◌,
  ℕ,
  zero,
  suc,
  Bool,
  true,
  false,
  not,
  List,
  [],
  ◌∷◌,
  ◌++◌,
  length,
  if◌then◌else◌,
  refl,
  ap,
  sym,
  ◌∙◌,
  subst,
  arith,
  inl,
  inr,
}
use Rattle.std.specs.Prelude.{map}
use Rattle.std.specs.List.{flat_map, list_all}
use Rattle.std.proofs.lemmas.Bool.{and_parts, cases_lt, false_from_ne_true}
use Rattle.std.proofs.lemmas.Bool.Decides.{eqb_tells}
use Rattle.machine_model.proofs.NameLaws.{names_tell}
use Rattle.machine_model.proofs.WithinLaws.{within_join}
use Rattle.std.proofs.lemmas.List.{append-nil}
use Rattle.machine_model.specs.Components.{Name, is_within, same_name}
use Rattle.machine_model.specs.FirstTree.{are_apart, stand_apart}
use Rattle.plan_model.specs.declared.call.Call.{Call}
use Rattle.session_model.specs.Calls.{calls_of as lane_calls_of}
use Rattle.run_laws.specs.NameCalls.{all_keep_off, may_own, none_writes}
use Rattle.run_laws.specs.ReadsBack.{IsAlone, calls_in}
use Rattle.mirror_jobs.specs.declared.job.Job.{Job}
use Rattle.mirror_jobs.specs.declared.job.Job.TheVariants as job
use Rattle.mirror_jobs.specs.JobLanes.{calls_of, jobs_of_lane, lanes_of, mkdir_call}
use Rattle.mirror_jobs.specs.Jobs.{name_of}
use Rattle.mirror_jobs.specs.Parents.{parents, parents_of}
use Rattle.mirror_jobs.proofs.CutLaws.{lane_beyond, lane_got}
use Rattle.mirror_jobs.proofs.DealtLaws.{dealt_elsewhere}
use Rattle.mirror_jobs.proofs.ParentRunLaws.{apart_both, is_apart, mkdirs_off, other_here, others_parents, own_parents, parents_all}

-- ---- lists

pub all_append : {A : Type 0} (test : A → Bool) (xs ys : List A) → list_all test xs ≡ true → list_all test ys ≡ true
    → list_all test (xs ++ ys) ≡ true
all_append test [] ys all more = more
all_append test (x ∷ xs) ys all more = let both = and_parts (test x) (list_all test xs) all in
    rw (both.0, all_append test xs ys both.1 more) refl

-- ---- other files

-- the file has another name
abbrev pub is_other : Name → Job → Bool
is_other name j = not (same_name (name_of j) name)

-- and neither has the one within the other
pub record AreOthers (name : Name) (jobs : List Job) : Type 0 where
  pub other : list_all (is_other name) jobs ≡ true
  pub outside : list_all (λ j. not (is_within name (name_of j))) jobs ≡ true

apart_other : (name : Name) (j : Job) → is_within name (name_of j) ≡ false → is_other name j ≡ true
apart_other name j out =
    ap not (false_from_ne_true (same_name (name_of j) name) (λ same. let within : is_within name (name_of j) ≡ true =
    subst (λ (w : Name). is_within name w ≡ true) (append-nil name ∙ sym ((names_tell (name_of j) name).0 same))
    (within_join name []) in let both : true ≡ false = sym within ∙ out in cc))

behind_others : (name : Name) (jobs : List Job) → list_all (are_apart name) (map name_of jobs) ≡ true
    → AreOthers name jobs
behind_others name [] all = record { other = refl; outside = refl }
behind_others name (j ∷ jobs) all =
    let both = and_parts (are_apart name (name_of j)) (list_all (are_apart name) (map name_of jobs)) all in
    let out = (apart_both name (name_of j) both.0).0 in
    let more = behind_others name jobs both.1 in
    record { other = rw (apart_other name j out, more.other) refl; outside = rw (out, more.outside) refl }

-- those before a file
pub before_others : (before behind : List Job) (j : Job) → stand_apart (map name_of (before ++ j ∷ behind)) ≡ true
    → AreOthers (name_of j) before
before_others [] behind j all = record { other = refl; outside = refl }
before_others (x ∷ before) behind j all =
    let both = and_parts (list_all (are_apart (name_of x)) (map name_of (before ++ j ∷ behind)))
    (stand_apart (map name_of (before ++ j ∷ behind))) all in
    let out = (apart_both (name_of x) (name_of j) (in_middle before both.0)).1 in
    let more = before_others before behind j both.1 in
    record { other = rw (apart_other (name_of j) x out, more.other) refl; outside = rw (out, more.outside) refl }
  where
    in_middle : (xs : List Job) → list_all (are_apart (name_of x)) (map name_of (xs ++ j ∷ behind)) ≡ true
        → are_apart (name_of x) (name_of j) ≡ true
    in_middle [] all = (and_parts (are_apart (name_of x) (name_of j))
        (list_all (are_apart (name_of x)) (map name_of behind)) all).0
    in_middle (y ∷ xs) all = in_middle xs (and_parts (are_apart (name_of x) (name_of y))
        (list_all (are_apart (name_of x)) (map name_of (xs ++ j ∷ behind))) all).1

-- and those behind it
pub after_others : (before behind : List Job) (j : Job) → stand_apart (map name_of (before ++ j ∷ behind)) ≡ true
    → AreOthers (name_of j) behind
after_others [] behind j all = behind_others (name_of j) behind
    (and_parts (list_all (are_apart (name_of j)) (map name_of behind)) (stand_apart (map name_of behind)) all).0
after_others (x ∷ before) behind j all =
    after_others before behind j (and_parts (list_all (are_apart (name_of x)) (map name_of (before ++ j ∷ behind)))
    (stand_apart (map name_of (before ++ j ∷ behind))) all).1

-- ---- their calls

calls_keep_off : (name : Name) (jobs : List Job) → list_all (is_other name) jobs ≡ true
    → all_keep_off name [] (flat_map calls_of jobs) ≡ true
calls_keep_off name [] all = refl
calls_keep_off name (job.Up path content ∷ jobs) all =
    let both = and_parts (is_other name (job.Up path content)) (list_all (is_other name) jobs) all in
    rw (other_here name path both.0, calls_keep_off name jobs both.1) refl
calls_keep_off name (job.Down path bound ∷ jobs) all =
    let both = and_parts (is_other name (job.Down path bound)) (list_all (is_other name) jobs) all in
    rw (other_here name path both.0, calls_keep_off name jobs both.1) refl

pub calls_write_none : (name : Name) (jobs : List Job) → list_all (is_other name) jobs ≡ true
    → none_writes name (flat_map calls_of jobs) ≡ true
calls_write_none name [] all = refl
calls_write_none name (job.Up path content ∷ jobs) all =
    let both = and_parts (is_other name (job.Up path content)) (list_all (is_other name) jobs) all in
    rw (both.0, calls_write_none name jobs both.1) refl
calls_write_none name (job.Down path bound ∷ jobs) all =
    let both = and_parts (is_other name (job.Down path bound)) (list_all (is_other name) jobs) all in
    calls_write_none name jobs both.1

calls_own : (name : Name) (jobs : List Job) → list_all (may_own name) (flat_map calls_of jobs) ≡ true
calls_own name [] = refl
calls_own name (job.Up path content ∷ jobs) = calls_own name jobs
calls_own name (job.Down path bound ∷ jobs) = calls_own name jobs

-- of some jobs, those that a lane has
dealt_other : (name : Name) (width k n : ℕ) (jobs : List Job) → list_all (is_other name) jobs ≡ true
    → list_all (is_other name) (jobs_of_lane width k n jobs) ≡ true
dealt_other name width k n [] all = refl
dealt_other name width k n (j ∷ jobs) all =
    let both = and_parts (is_other name j) (list_all (is_other name) jobs) all in
    by_test (n % width == k) both.0 (dealt_other name width k (n + 1) jobs both.1)
  where
    by_test : (b : Bool) → is_other name j ≡ true → list_all (is_other name) (jobs_of_lane width k (n + 1) jobs) ≡ true
        → list_all (is_other name) (if b then j ∷ jobs_of_lane width k (n + 1) jobs else
        jobs_of_lane width k (n + 1) jobs) ≡ true
    by_test true here more = rw (here, more) refl
    by_test false here more = more

-- ---- a file among the others

pub record IsAmong (jobs before behind : List Job) (j : Job) : Type 0 where
  pub is : jobs ≡ before ++ j ∷ behind
  pub apart : stand_apart (map name_of (before ++ j ∷ behind)) ≡ true

parents_off : (before behind : List Job) (j : Job) → stand_apart (map name_of (before ++ j ∷ behind)) ≡ true
    → all_keep_off (name_of j) [] (map mkdir_call (parents (before ++ j ∷ behind))) ≡ true
parents_off before behind j apart =
    mkdirs_off (name_of j) (parents (before ++ j ∷ behind))
    (parents_all (is_apart (name_of j)) (before ++ j ∷ behind)
    (all_append (λ x. list_all (is_apart (name_of j)) (parents_of x)) before (j ∷ behind)
    (outside_all before (before_others before behind j apart).outside)
    (rw (own_parents j, outside_all behind (after_others before behind j apart).outside) refl)))
  where
    outside_all : (jobs : List Job) → list_all (λ x. not (is_within (name_of j) (name_of x))) jobs ≡ true
        → list_all (λ x. list_all (is_apart (name_of j)) (parents_of x)) jobs ≡ true
    outside_all [] all = refl
    outside_all (x ∷ jobs) all =
        let both = and_parts (not (is_within (name_of j) (name_of x)))
        (list_all (λ x. not (is_within (name_of j) (name_of x))) jobs) all in
        rw (others_parents (name_of j) x (not_true (is_within (name_of j) (name_of x)) both.0), outside_all jobs both.1)
        refl
      where
        not_true : (b : Bool) → not b ≡ true → b ≡ false
        not_true true e = absurd cc
        not_true false e = refl

-- the calls of the lane of a file are its lane's
pub lane_calls : (width : ℕ) (before behind : List Job) (j : Job) → length before % width < width
    → calls_in (lanes_of width (before ++ j ∷ behind)) (suc (length before % width))
    ≡ flat_map calls_of (jobs_of_lane width (length before % width) 0 (before ++ j ∷ behind))
lane_calls width before behind j lt = ap lane_calls_of (lane_got width (before ++ j ∷ behind) (length before % width)
    lt)

-- the name is the lane's alone
pub alone : (width : ℕ) (before behind : List Job) (j : Job) → length before % width < width
    → stand_apart (map name_of (before ++ j ∷ behind)) ≡ true
    → IsAlone (lanes_of width (before ++ j ∷ behind)) (name_of j) (suc (length before % width))
alone width before behind j lt apart = record {
  own = subst (λ (w : List Call). list_all (may_own (name_of j)) w ≡ true)
      (sym (lane_calls width before behind j lt)) (calls_own (name_of j)
      (jobs_of_lane width (length before % width) 0 (before ++ j ∷ behind)));
  others = others;
}
  where
    elsewhere : (k : ℕ) → (length before % width == k) ≡ false
        → all_keep_off (name_of j) [] (flat_map calls_of (jobs_of_lane width k 0 (before ++ j ∷ behind))) ≡ true
    elsewhere k other =
        subst (λ (w : List Job). all_keep_off (name_of j) [] (flat_map calls_of w) ≡ true)
        (sym (dealt_elsewhere width k before behind j other))
        (calls_keep_off (name_of j) (jobs_of_lane width k 0 before ++ jobs_of_lane width k (length before + 1) behind)
        (all_append (is_other (name_of j)) (jobs_of_lane width k 0 before)
        (jobs_of_lane width k (length before + 1) behind)
        (dealt_other (name_of j) width k 0 before (before_others before behind j apart).other)
        (dealt_other (name_of j) width k (length before + 1) behind (after_others before behind j apart).other)))

    others : (other : ℕ) → other ≢ suc (length before % width)
        → all_keep_off (name_of j) [] (calls_in (lanes_of width (before ++ j ∷ behind)) other) ≡ true
    others zero ne = parents_off before behind j apart
    others (suc k) ne =
        elim (cases_lt k width) [
          | inl low ↦
              subst (λ (w : List Call). all_keep_off (name_of j) [] w ≡ true)
              (sym (ap lane_calls_of (lane_got width (before ++ j ∷ behind) k low)))
              (elsewhere k (elim (eqb_tells (length before % width) k) [
                | inl t ↦ absurd (ne (let same : length before % width ≡ k = t.1 in omega (arith, same)))
                | inr t ↦
                    t.0
              ]))
          | inr high ↦ subst (λ (w : List Call). all_keep_off (name_of j) [] w ≡ true)
              (sym (ap lane_calls_of (lane_beyond width (before ++ j ∷ behind) k high))) refl
        ]

-- no call of the lane writes it before the file's own
pub none_before : (width : ℕ) (before behind : List Job) (j : Job) → stand_apart (map name_of (before ++ j ∷ behind))
    ≡ true
    → none_writes (name_of j) (flat_map calls_of (jobs_of_lane width (length before % width) 0 before)) ≡ true
none_before width before behind j apart =
    calls_write_none (name_of j) (jobs_of_lane width (length before % width) 0 before)
    (dealt_other (name_of j) width (length before % width) 0 before (before_others before behind j apart).other)

-- nor behind them
pub none_behind : (width : ℕ) (before behind : List Job) (j : Job) → stand_apart (map name_of (before ++ j ∷ behind))
    ≡ true
    → none_writes (name_of j) (flat_map calls_of (jobs_of_lane width (length before % width) (length before + 1)
    behind)) ≡ true
none_behind width before behind j apart =
    calls_write_none (name_of j) (jobs_of_lane width (length before % width) (length before + 1) behind)
    (dealt_other (name_of j) width (length before % width) (length before + 1) behind
    (after_others before behind j apart).other)
