-- The calls of the lanes that copy files, as those of a plain run: which file each is of.
use Rattle.std.proofs.Common.{
  ◌≡◌,
  ◌≢◌,
  ◌<◌,
  ◌≤◌,
  ◌+◌,
  ◌%◌,
  ◌==◌,
  ℕ,
  zero,
  suc,
  Bool,
  true,
  false,
  not,
  List,
  [],
  ◌∷◌,
  ◌++◌,
  length,
  drop,
  Some,
  None,
  if◌then◌else◌,
  refl,
  ap,
  sym,
  ◌∙◌,
  subst,
  arith,
  inl,
  inr,
}
use Rattle.std.specs.Prelude.{◌⊎◌, map, slice_get}
use Rattle.std.specs.List.{flat_map, list_all}
use Rattle.std.proofs.lemmas.Bool.{and_parts, cases_lt}
use Rattle.std.proofs.lemmas.Bool.Decides.{eqb_tells}
use Rattle.std.proofs.lemmas.List.{length-append}
use Rattle.std.proofs.lemmas.Nat.{mod_below}
use Rattle.machine_model.specs.Components.{Name, components}
use Rattle.machine_model.specs.FirstTree.{stand_apart}
use Rattle.plan_model.proofs.Among.{Among}
use Rattle.plan_model.specs.declared.call.Call.{Call}
use Rattle.plan_model.specs.declared.call.Call.TheVariants as call
use Rattle.session_model.specs.Calls.{calls_of as lane_calls_of}
use Rattle.run_laws.specs.NameCalls.{none_writes, writes}
use Rattle.run_laws.proofs.OffRequests.{told_apart}
use Rattle.run_laws.specs.ReadsBack.{IsAlone, call_in, calls_in}
use Rattle.run_ending_laws.specs.Claims.{AreClaimed, NameClaims, LaterWriteNone, claims_sum}
use Rattle.run_ending_laws.specs.PlainCalls.{is_plain_call}
use Rattle.mirror_jobs.specs.declared.directory.Directory.{Directory}
use Rattle.mirror_jobs.specs.declared.job.Job.{Job}
use Rattle.mirror_jobs.specs.declared.job.Job.TheVariants as job
use Rattle.mirror_jobs.specs.JobLanes.{calls_of, jobs_of_lane, lanes_of, mkdir_call}
use Rattle.mirror_jobs.specs.Jobs.{are_ok, name_of}
use Rattle.mirror_jobs.specs.Parents.{parents}
use Rattle.mirror_jobs.specs.Verdicts.{lane_after, place_after}
use Rattle.mirror_jobs.specs.GoodJobs.{up_bytes}
use Rattle.mirror_jobs.proofs.AloneLaws.{after_others, alone, before_others, is_other, none_before, none_behind}
use Rattle.mirror_jobs.proofs.CopyLaws.{lane_is, ok_apart}
use Rattle.mirror_jobs.proofs.CutLaws.{lane_beyond, lane_got}

-- ---- names with their lengths

-- the names that go up, each with the length of its content
abbrev pub claims_of : List Job → NameClaims
claims_of [] = []
claims_of (job.Up name content ∷ jobs) = (components name, length content) ∷ claims_of jobs
claims_of (job.Down name bound ∷ jobs) = claims_of jobs

pub claims_are : (jobs : List Job) → claims_sum (claims_of jobs) ≡ up_bytes jobs
claims_are [] = refl
claims_are (job.Up name content ∷ jobs) = (let more = claims_are jobs in omega (arith, more))
claims_are (job.Down name bound ∷ jobs) = claims_are jobs

claims_have : (before behind : List Job) (name content : List ℕ)
    → (let c : Name × ℕ = (components name, length content) in
    Among c (claims_of (before ++ job.Up name content ∷ behind)))
claims_have [] behind name content = inl refl
claims_have (job.Up other bytes ∷ before) behind name content = inr (claims_have before behind name content)
claims_have (job.Down other bound ∷ before) behind name content = claims_have before behind name content

-- ---- each call is plain

copies_plain : (jobs : List Job) → list_all is_plain_call (flat_map calls_of jobs) ≡ true
copies_plain [] = refl
copies_plain (job.Up name content ∷ jobs) = copies_plain jobs
copies_plain (job.Down name bound ∷ jobs) = copies_plain jobs

mkdirs_plain : (ds : List Directory) → list_all is_plain_call (map mkdir_call ds) ≡ true
mkdirs_plain [] = refl
mkdirs_plain (d ∷ ds) = mkdirs_plain ds

pub lanes_plain : (width : ℕ) (jobs : List Job) (lane : ℕ) →
    list_all is_plain_call (calls_in (lanes_of width jobs) lane) ≡ true
lanes_plain width jobs zero = mkdirs_plain (parents jobs)
lanes_plain width jobs (suc k) = elim (cases_lt k width) [
  | inl low ↦ subst (λ (w : List Call). list_all is_plain_call w ≡ true)
      (sym (ap lane_calls_of (lane_got width jobs k low))) (copies_plain (jobs_of_lane width k 0 jobs))
  | inr high ↦ subst (λ (w : List Call). list_all is_plain_call w ≡ true)
      (sym (ap lane_calls_of (lane_beyond width jobs k high))) refl
]

-- ---- which file a write is of

-- the file among these, of which the first has number n, and the call's number in lane m
record IsOf (width m n : ℕ) (jobs : List Job) (k : ℕ) (path content : List ℕ) : Type 0 where
  before : List Job
  behind : List Job
  is : jobs ≡ before ++ job.Up path content ∷ behind
  lane : (n + length before) % width ≡ m
  place : k ≡ length (flat_map calls_of (jobs_of_lane width m n before))

of_more : (width m n : ℕ) (j : Job) (jobs : List Job) (k : ℕ) (path content : List ℕ) → (n % width == m) ≡ false
    → IsOf width m (n + 1) jobs k path content
    → IsOf width m n (j ∷ jobs) k path content
of_more width m n j jobs k path content other f = record {
  before = j ∷ f.before;
  behind = f.behind;
  is = ap (λ (w : List Job). j ∷ w) f.is;
  lane = ap (λ (i : ℕ). i % width) (let same : n + length (j ∷ f.before) ≡ n + 1 + length f.before = omega arith in
      same) ∙ f.lane;
  place = f.place ∙ ap (λ (b : Bool). length (flat_map calls_of
      (if b then j ∷ jobs_of_lane width m (n + 1) f.before else jobs_of_lane width m (n + 1) f.before))) (sym other);
}

of_later : (width m n : ℕ) (j : Job) (jobs : List Job) (k : ℕ) (path content : List ℕ) → (n % width == m) ≡ true
    → IsOf width m (n + 1) jobs k path content
    → IsOf width m n (j ∷ jobs) (length (calls_of j) + k) path content
of_later width m n j jobs k path content here f = record {
  before = j ∷ f.before;
  behind = f.behind;
  is = ap (λ (w : List Job). j ∷ w) f.is;
  lane = ap (λ (i : ℕ). i % width) (let same : n + length (j ∷ f.before) ≡ n + 1 + length f.before = omega arith in
      same) ∙ f.lane;
  place = (let l : length (calls_of j ++ flat_map calls_of (jobs_of_lane width m (n + 1) f.before))
      ≡ length (calls_of j) + length (flat_map calls_of (jobs_of_lane width m (n + 1) f.before)) =
      length-append (calls_of j) (flat_map calls_of (jobs_of_lane width m (n + 1) f.before)) in
      let p = f.place in
      let sum : length (calls_of j) + k ≡ length (calls_of j ++ flat_map calls_of
      (jobs_of_lane width m (n + 1) f.before)) = omega (arith, l, p) in
      sum ∙ ap (λ (b : Bool). length (flat_map calls_of (if b then j ∷ jobs_of_lane width m (n + 1) f.before else
      jobs_of_lane width m (n + 1) f.before))) (sym here));
}

write_of : (width m n : ℕ) (jobs : List Job) (k : ℕ) (path content : List ℕ)
    → slice_get (flat_map calls_of (jobs_of_lane width m n jobs)) k ≡ Some (call.FsWrite path content)
    → IsOf width m n jobs k path content
write_of width m n [] k path content e = absurd cc
write_of width m n (j ∷ jobs) k path content e = by_test (eqb_tells (n % width) m)
    (λ i more. write_of width m (n + 1) jobs i path content more)
  where
    here : (j : Job) (k : ℕ) → n % width ≡ m → (n % width == m) ≡ true
        → slice_get (calls_of j ++ flat_map calls_of (jobs_of_lane width m (n + 1) jobs)) k
        ≡ Some (call.FsWrite path content)
        → ((i : ℕ) → slice_get (flat_map calls_of (jobs_of_lane width m (n + 1) jobs)) i
        ≡ Some (call.FsWrite path content) → IsOf width m (n + 1) jobs i path content)
        → IsOf width m n (j ∷ jobs) k path content
    here (job.Up name bytes) zero at is e again =
        (let same : call.FsWrite name bytes ≡ call.FsWrite path content = cc in
        let name_is : name ≡ path = cc in
        let bytes_are : bytes ≡ content = cc in
        record {
          before = [];
          behind = jobs;
          is = ap (λ (w : List ℕ). job.Up w bytes ∷ jobs) name_is ∙ ap (λ (w : List ℕ). job.Up path w ∷ jobs) bytes_are;
          lane = ap (λ (i : ℕ). i % width) (let none : n + 0 ≡ n = omega arith in none) ∙ at;
          place = refl;
        })
    here (job.Up name bytes) (suc zero) at is e again = absurd cc
    here (job.Up name bytes) (suc (suc k)) at is e again =
        subst (λ (i : ℕ). IsOf width m n (job.Up name bytes ∷ jobs) i path content)
        (let same : 2 + k ≡ suc (suc k) = omega arith in same)
        (of_later width m n (job.Up name bytes) jobs k path content is (again k e))
    here (job.Down name bound) zero at is e again = absurd cc
    here (job.Down name bound) (suc k) at is e again =
        subst (λ (i : ℕ). IsOf width m n (job.Down name bound ∷ jobs) i path content)
        (let same : 1 + k ≡ suc k = omega arith in same)
        (of_later width m n (job.Down name bound) jobs k path content is (again k e))

    by_test : (((n % width == m) ≡ true) × (n % width ≡ m)) ⊎ (((n % width == m) ≡ false) × (n % width ≢ m))
        → ((i : ℕ) → slice_get (flat_map calls_of (jobs_of_lane width m (n + 1) jobs)) i
        ≡ Some (call.FsWrite path content) → IsOf width m (n + 1) jobs i path content)
        → IsOf width m n (j ∷ jobs) k path content
    by_test (inl t) again = here j k t.1 t.0 (rw (t.0) at e) again
    by_test (inr t) again = of_more width m n j jobs k path content t.0 (again k (rw (t.0) at e))

-- a file that goes up, whose write is this call
pub record IsWriteOf (width : ℕ) (jobs : List Job) (lane k : ℕ) (path content : List ℕ) : Type 0 where
  pub before : List Job
  pub behind : List Job
  pub is : jobs ≡ before ++ job.Up path content ∷ behind
  pub at_lane : lane_after width before ≡ lane
  pub at_place : place_after width before ≡ k

no_write : (ds : List Directory) (k : ℕ) (path content : List ℕ) → slice_get (map mkdir_call ds) k
    ≡ Some (call.FsWrite path content) → ⊥
no_write [] k path content e = cc
no_write (d ∷ ds) zero path content e = cc
no_write (d ∷ ds) (suc k) path content e = no_write ds k path content e

pub write_is_of : (width : ℕ) (jobs : List Job) (lane k : ℕ) (path content : List ℕ)
    → call_in (lanes_of width jobs) lane k ≡ Some (call.FsWrite path content)
    → IsWriteOf width jobs lane k path content
write_is_of width jobs zero k path content e = absurd (no_write (parents jobs) k path content e)
write_is_of width jobs (suc m) k path content e = elim (cases_lt m width) [
  | inr high ↦ absurd (let none : slice_get (calls_in (lanes_of width jobs) (suc m)) k ≡ None =
      ap (λ (w : List Call). slice_get w k) (ap lane_calls_of (lane_beyond width jobs m high)) in let both : None
      ≡ Some (call.FsWrite path content) = sym none ∙ e in cc)
  | inl low ↦
      (let f = write_of width m 0 jobs k path content (ap (λ (w : List Call). slice_get w k)
      (sym (ap lane_calls_of (lane_got width jobs m low))) ∙ e) in
      let lane : length f.before % width ≡ m = ap (λ (i : ℕ). i % width)
      (let none : length f.before ≡ 0 + length f.before = omega arith in none) ∙ f.lane in
      record {
        before = f.before;
        behind = f.behind;
        is = f.is;
        at_lane = ap suc lane;
        at_place = ap (λ (i : ℕ). length (flat_map calls_of (jobs_of_lane width i 0 f.before))) lane ∙ sym f.place;
      })
]

-- ---- what comes after the write

-- neither after it nor after the read that follows it
behind_write : (xs : List Call) (a b : Call) (ys : List Call) → drop (suc (length xs)) (xs ++ a ∷ b ∷ ys) ≡ b ∷ ys
behind_write [] a b ys = refl
behind_write (x ∷ xs) a b ys = behind_write xs a b ys

behind_read : (xs : List Call) (a b : Call) (ys : List Call) → drop (suc (suc (length xs))) (xs ++ a ∷ b ∷ ys) ≡ ys
behind_read [] a b ys = refl
behind_read (x ∷ xs) a b ys = behind_read xs a b ys

pub later_write_none : (width : ℕ) (before behind : List Job) (path content : List ℕ) → length before % width < width
    → stand_apart (map name_of (before ++ job.Up path content ∷ behind)) ≡ true
    → LaterWriteNone (lanes_of width (before ++ job.Up path content ∷ behind)) (components path)
    (lane_after width before) (place_after width before)
    × LaterWriteNone (lanes_of width (before ++ job.Up path content ∷ behind)) (components path)
    (lane_after width before) (suc (place_after width before))
later_write_none width before behind path content lt apart =
    let calls = lane_is width before behind (job.Up path content) lt in
    let none : none_writes (components path) later ≡ true = none_behind width before behind (job.Up path content) apart
    in (
      subst (λ (w : List Call). none_writes (components path) w ≡ true)
          (sym (ap (drop (suc (length earlier))) calls ∙ behind_write earlier (call.FsWrite path content)
          (call.FsRead path (length content + 1)) later)) none,
      subst (λ (w : List Call). none_writes (components path) w ≡ true)
          (sym (ap (drop (suc (suc (length earlier)))) calls ∙ behind_read earlier (call.FsWrite path content)
          (call.FsRead path (length content + 1)) later)) none,
    )
  where
    earlier : List Call
    earlier = flat_map calls_of (jobs_of_lane width (length before % width) 0 before)

    later : List Call
    later = flat_map calls_of (jobs_of_lane width (length before % width) (length before + 1) behind)

-- ---- the names of all writes

below : (width n : ℕ) → 1 ≤ width → n % width < width
below width n some = mod_below n width (let lt : 0 < width = omega (arith, some) in lt)

apart_at : (jobs before behind : List Job) (j : Job) → are_ok jobs ≡ true → jobs ≡ before ++ j ∷ behind
    → stand_apart (map name_of (before ++ j ∷ behind)) ≡ true
apart_at jobs before behind j ok is = subst (λ (w : List Job). stand_apart (map name_of w) ≡ true) is (ok_apart jobs ok)

pub lanes_claimed : (width : ℕ) (jobs : List Job) → 1 ≤ width → are_ok jobs ≡ true
    → AreClaimed (lanes_of width jobs) (claims_of jobs)
lanes_claimed width jobs some ok = record {
  alone = λ lane k path content e. alone_at lane k path content (write_is_of width jobs lane k path content e);
  once = λ lane k path content e. once_at lane k path content (write_is_of width jobs lane k path content e);
  bound = λ lane k path content e. (let w = write_is_of width jobs lane k path content e in (
    (components path, length content),
    (
      subst (λ (js : List Job). (let c : Name × ℕ = (components path, length content) in Among c (claims_of js)))
          (sym w.is) (claims_have w.before w.behind path content),
      refl,
      omega arith,
    ),
  ));
}
  where
    alone_at : (lane k : ℕ) (path content : List ℕ) → (w : IsWriteOf width jobs lane k path content)
        → IsAlone (lanes_of width jobs) (components path) lane
    alone_at lane k path content w =
        subst (λ (l : ℕ). IsAlone (lanes_of width jobs) (components path) l) w.at_lane
        (subst (λ (js : List Job). IsAlone (lanes_of width js) (components path) (lane_after width w.before)) (sym w.is)
        (alone width w.before w.behind (job.Up path content) (below width (length w.before) some)
        (apart_at jobs w.before w.behind (job.Up path content) ok w.is)))

    once_at : (lane k : ℕ) (path content : List ℕ) → (w : IsWriteOf width jobs lane k path content)
        → LaterWriteNone (lanes_of width jobs) (components path) lane k
    once_at lane k path content w =
        subst (λ (l : ℕ). LaterWriteNone (lanes_of width jobs) (components path) l k) w.at_lane
        (subst (λ (n : ℕ). LaterWriteNone (lanes_of width jobs) (components path) (lane_after width w.before) n)
        w.at_place
        (subst (λ (js : List Job). LaterWriteNone (lanes_of width js) (components path) (lane_after width w.before)
        (place_after width w.before)) (sym w.is)
        (later_write_none width w.before w.behind path content (below width (length w.before) some)
        (apart_at jobs w.before w.behind (job.Up path content) ok w.is)).0))

-- ---- a file that comes down

claims_apart : (name : Name) (jobs : List Job) → list_all (is_other name) jobs ≡ true → (claim : Name × ℕ)
    → Among claim (claims_of jobs) → claim.0 ≢ name
claims_apart name [] all claim h = absurd h
claims_apart name (job.Up path content ∷ jobs) all claim (inl e) =
    let both = and_parts (is_other name (job.Up path content)) (list_all (is_other name) jobs) all in
    λ same. told_apart path name both.0 (ap (λ (c : Name × ℕ). c.0) (sym e) ∙ same)
claims_apart name (job.Up path content ∷ jobs) all claim (inr h) =
    claims_apart name jobs (and_parts (is_other name (job.Up path content)) (list_all (is_other name) jobs) all).1 claim
    h
claims_apart name (job.Down path bound ∷ jobs) all claim h =
    claims_apart name jobs (and_parts (is_other name (job.Down path bound)) (list_all (is_other name) jobs) all).1 claim
    h

claims_two : (xs ys : List Job) → claims_of (xs ++ ys) ≡ claims_of xs ++ claims_of ys
claims_two [] ys = refl
claims_two (job.Up path content ∷ xs) ys = ap (λ (w : NameClaims). (components path, length content) ∷ w)
    (claims_two xs ys)
claims_two (job.Down path bound ∷ xs) ys = claims_two xs ys

among_two : (c : Name × ℕ) (xs ys : NameClaims) → Among c (xs ++ ys) → Among c xs ⊎ Among c ys
among_two c [] ys h = inr h
among_two c (x ∷ xs) ys (inl e) = inl (inl e)
among_two c (x ∷ xs) ys (inr h) = elim (among_two c xs ys h) [ inl a ↦ inl (inr a) | inr b ↦ inr b ]

-- no file that goes up has its name
pub unclaimed : (before behind : List Job) (path : List ℕ) (bound : ℕ)
    → stand_apart (map name_of (before ++ job.Down path bound ∷ behind)) ≡ true
    → (claim : Name × ℕ) → Among claim (claims_of (before ++ job.Down path bound ∷ behind)) → claim.0 ≢ components path
unclaimed before behind path bound apart claim h =
    by_part (among_two claim (claims_of before) (claims_of behind)
    (subst (λ (w : NameClaims). Among claim w) (claims_two before (job.Down path bound ∷ behind)) h))
  where
    by_part : Among claim (claims_of before) ⊎ Among claim (claims_of behind) → claim.0 ≢ components path
    by_part (inl a) = claims_apart (components path) before (before_others before behind (job.Down path bound)
        apart).other claim a
    by_part (inr b) = claims_apart (components path) behind (after_others before behind (job.Down path bound)
        apart).other claim b

-- and its lane writes it never
pub never_written : (width : ℕ) (before behind : List Job) (path : List ℕ) (bound : ℕ) → length before % width < width
    → stand_apart (map name_of (before ++ job.Down path bound ∷ behind)) ≡ true
    → none_writes (components path) (calls_in (lanes_of width (before ++ job.Down path bound ∷ behind))
    (lane_after width before)) ≡ true
never_written width before behind path bound lt apart =
    subst (λ (w : List Call). none_writes (components path) w ≡ true)
    (sym (lane_is width before behind (job.Down path bound) lt))
    (append_none (flat_map calls_of (jobs_of_lane width (length before % width) 0 before))
    (call.FsRead path bound ∷ flat_map calls_of (jobs_of_lane width (length before % width) (length before + 1) behind))
    (none_before width before behind (job.Down path bound) apart)
    (none_behind width before behind (job.Down path bound) apart))
  where
    append_none : (xs ys : List Call) → none_writes (components path) xs ≡ true → none_writes (components path) ys
        ≡ true → none_writes (components path) (xs ++ ys) ≡ true
    append_none [] ys all more = more
    append_none (x ∷ xs) ys all more =
        let both = and_parts (not (writes (components path) x)) (none_writes (components path) xs) all in
        rw (both.0, append_none xs ys both.1 more) refl
