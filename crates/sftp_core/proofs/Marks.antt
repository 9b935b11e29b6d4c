-- What stands in a queue, and what its marks make of a table.
use Rattle.std.proofs.Common.{◌≡◌, inl, inr, ℕ, Bool, true, false, cond, List, [], ◌∷◌, ◌++◌, refl, sym, ap, ◌∙◌, Option, Some, None}
use Rattle.std.specs.Prelude.{◌||◌}
use Rattle.std.specs.Option.{option_map}
use Rattle.std.specs.Ordering.{nat_cmp, eq_by_cmp}
use Rattle.std.specs.Cmp.{nat_cmp_total}
use Rattle.std.specs.FinMap as fin
use Rattle.std.specs.FinMap.{nat_cmp-IsAntisymmetric}
use Rattle.std.proofs.lemmas.Bool.{cases_eq}
use Rattle.sftp_core.specs.declared.id_record.IdRecord.{IdRecord}
use Rattle.sftp_core.specs.declared.id_record.IdRecord.TheVariants.{Waiting, Answered, Granted}
use Rattle.sftp_core.specs.Table.{IdRecords, sent_record, all_sent, is_unsent, is_unsent_at, is_queued, AllListed, with_mark, marked_here, marked_all}
use Rattle.sftp_core.proofs.Sent.{get_sent}
use Rattle.sftp_core.proofs.Slots.{apart, alike}

-- ---- a queue
before_or : (a b : Bool) → (a || b) ≡ false → a ≡ false
before_or true b h = h
before_or false b h = refl

after_or : (a b : Bool) → (a || b) ≡ false → b ≡ false
after_or true b h = absurd cc
after_or false b h = h

module _ {X : Type 0} where
  stands-last : (id k : ℕ) (x : X) (queue : List (ℕ × X)) → is_queued id (queue ++ (k, x) ∷ []) ≡ is_queued id queue
      || eq_by_cmp nat_cmp id k
  stands-last id k x [] = last (eq_by_cmp nat_cmp id k)
    where
      last : (b : Bool) → (b || false) ≡ b
      last true = refl
      last false = refl
  stands-last id k x (e ∷ queue) = ap (λ b. eq_by_cmp nat_cmp id e.0 || b) (stands-last id k x queue)
      ∙ deep (eq_by_cmp nat_cmp id e.0) _ _
    where
      deep : (a b c : Bool) → (a || (b || c)) ≡ ((a || b) || c)
      deep true b c = refl
      deep false b c = refl

  -- what doesn't stand in the longer queue doesn't stand in its prefix
  pub not_before : (id k : ℕ) (x : X) (queue later : List (ℕ × X)) → later ≡ queue ++ (k, x) ∷ [] → is_queued id later
      ≡ false → is_queued id queue ≡ false
  not_before id k x queue later is h = before_or _ _ (sym (ap (is_queued id) is ∙ stands-last id k x queue) ∙ h)

  -- the last stands in it
  pub is_last : (k : ℕ) (x : X) (queue later : List (ℕ × X)) → later ≡ queue ++ (k, x) ∷ [] → {A : Type 0}
      → is_queued k later ≡ false → A
  is_last k x queue later is h =
      let apart_here : eq_by_cmp nat_cmp k k ≡ false = after_or (is_queued k queue) (eq_by_cmp nat_cmp k k)
      (sym (ap (is_queued k) is ∙ stands-last k k x queue) ∙ h) in
      let clash : true ≡ false = sym (alike k) ∙ apart_here in
      absurd cc

-- ---- each change keeps that each unsent request is listed
pub listed-insert : {X : Type 0} (queue later : List (ℕ × X)) (t : IdRecords) (k : ℕ) (v : IdRecord) → AllListed queue t
    → ((id : ℕ) → is_queued id later ≡ false → is_queued id queue ≡ false)
    → (is_queued k later ≡ false → is_unsent v ≡ false)
    → AllListed later (fin.insert t k v)
listed-insert queue later t k v all less one id out =
    elim (cases_eq id k) [
      | inl same ↦
          let here : fin.get (fin.insert t k v) id ≡ Some v = fin.get-insert nat_cmp_total t k v id
          ∙ ap (λ b. cond b (Some v) (fin.get t id)) (ap (λ x. eq_by_cmp nat_cmp x k) same ∙ alike k) in
          ap is_unsent_at here ∙ one (sym (ap (λ x. is_queued x later) same) ∙ out)
      | inr differs ↦
          let there : fin.get (fin.insert t k v) id ≡ fin.get t id = fin.get-insert nat_cmp_total t k v id
          ∙ ap (λ b. cond b (Some v) (fin.get t id)) (apart id k differs) in
          ap is_unsent_at there ∙ all id (less id out)
    ]

pub listed-remove : {X : Type 0} (queue : List (ℕ × X)) (t : IdRecords) (k : ℕ) → AllListed queue t
    → AllListed queue (fin.remove t k)
listed-remove queue t k all id out =
    ap is_unsent_at (fin.get-remove nat_cmp_total t k id) ∙ by_test (eq_by_cmp nat_cmp id k)
  where
    by_test : (b : Bool) → is_unsent_at (cond b None (fin.get t id)) ≡ false
    by_test true = refl
    by_test false = all id out

pub listed-sent : {X : Type 0} (queue : List (ℕ × X)) (t : IdRecords) → AllListed queue (all_sent t)
listed-sent queue t id out = ap is_unsent_at (get_sent t id) ∙ each (fin.get t id)
  where
    each : (o : Option IdRecord) → is_unsent_at (option_map sent_record o) ≡ false
    each None = refl
    each (Some (Waiting expected sent wanted)) = refl
    each (Some (Answered expected r)) = refl
    each (Some (Granted handle users)) = refl

-- ---- marks
get-mark : (t : IdRecords) (k q : ℕ) → fin.get (with_mark t k) q
    ≡ cond (eq_by_cmp nat_cmp q k) (option_map sent_record (fin.get t q)) (fin.get t q)
get-mark t k q = by_place (fin.get t k) refl
  where
    by_place : (o : Option IdRecord) → fin.get t k ≡ o → fin.get (marked_here t k o) q
        ≡ cond (eq_by_cmp nat_cmp q k) (option_map sent_record (fin.get t q)) (fin.get t q)
    by_place None is =
        elim (cases_eq q k) [
          | inl same ↦
              let none : fin.get t q ≡ None = ap (fin.get t) same ∙ is in
              let here : eq_by_cmp nat_cmp q k ≡ true = ap (λ x. eq_by_cmp nat_cmp x k) same ∙ alike k in
              rw (here, none) refl
          | inr differs ↦ rw (apart q k differs) refl
        ]
    by_place (Some p) is =
        elim (cases_eq q k) [
          | inl same ↦
              let there : fin.get t q ≡ Some p = ap (fin.get t) same ∙ is in
              let here : eq_by_cmp nat_cmp q k ≡ true = ap (λ x. eq_by_cmp nat_cmp x k) same ∙ alike k in
              fin.get-insert nat_cmp_total t k (sent_record p) q ∙ rw (here, there) refl
          | inr differs ↦ fin.get-insert nat_cmp_total t k (sent_record p) q ∙ rw (apart q k differs) refl
        ]

sent_twice : (o : Option IdRecord) → option_map sent_record (option_map sent_record o) ≡ option_map sent_record o
sent_twice None = refl
sent_twice (Some (Waiting expected sent wanted)) = refl
sent_twice (Some (Answered expected r)) = refl
sent_twice (Some (Granted handle users)) = refl

get-marks : {X : Type 0} (t : IdRecords) (queue : List (ℕ × X)) (q : ℕ) → fin.get (marked_all t queue) q
    ≡ cond (is_queued q queue) (option_map sent_record (fin.get t q)) (fin.get t q)
get-marks t [] q = refl
get-marks t (e ∷ queue) q =
    get-marks (with_mark t e.0) queue q
    ∙ ap (λ o. cond (is_queued q queue) (option_map sent_record o) o) (get-mark t e.0 q)
    ∙ join (eq_by_cmp nat_cmp q e.0) (is_queued q queue) (fin.get t q)
  where
    join : (a b : Bool) (o : Option IdRecord) → cond b (option_map sent_record (cond a (option_map sent_record o) o))
        (cond a (option_map sent_record o) o) ≡ cond (a || b) (option_map sent_record o) o
    join true true o = sent_twice o
    join true false o = refl
    join false true o = refl
    join false false o = refl

-- to mark each listed request is to mark them all
pub marks_all : {X : Type 0} (queue : List (ℕ × X)) (t : IdRecords) → AllListed queue t → marked_all t queue
    ≡ all_sent t
marks_all queue t all =
    fin.same_map nat_cmp_total nat_cmp-IsAntisymmetric _ _ (λ q. get-marks t queue q ∙ each q (is_queued q queue) refl
    ∙ sym (get_sent t q))
  where
    same : (o : Option IdRecord) → is_unsent_at o ≡ false → o ≡ option_map sent_record o
    same None h = refl
    same (Some (Waiting expected true wanted)) h = refl
    same (Some (Waiting expected false wanted)) h = absurd cc
    same (Some (Answered expected r)) h = refl
    same (Some (Granted handle users)) h = refl

    each : (q : ℕ) (b : Bool) → is_queued q queue ≡ b → cond b (option_map sent_record (fin.get t q)) (fin.get t q)
        ≡ option_map sent_record (fin.get t q)
    each q true is = refl
    each q false is = same (fin.get t q) (all q is)
