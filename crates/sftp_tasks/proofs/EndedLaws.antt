-- A lane ends no more calls than it has.
use Rattle.std.proofs.Common.{
  ◌≡◌,
  ◌≢◌,
  ◌<◌,
  ◌≤◌,
  ◌==◌,
  ◌+◌,
  ℕ,
  zero,
  suc,
  Bool,
  true,
  false,
  List,
  [],
  ◌∷◌,
  ◌++◌,
  length,
  Option,
  Some,
  None,
  if◌then◌else◌,
  refl,
  ap,
  sym,
  subst,
  arith,
  eqb-true,
}
use Rattle.std.specs.Prelude.{MatchOption, slice_get}
use Rattle.std.proofs.lemmas.List.{length-append}
use Rattle.sftp_model.specs.declared.outcome.Outcome.{Outcome}
use Rattle.sftp_model.specs.declared.slot.Facts.{Facts}
use Rattle.sftp_model.specs.declared.slot.Move.{Move}
use Rattle.sftp_model.specs.declared.slot.Site.{Site}
use Rattle.plan_model.specs.Moves.{Answers, Own}
use Rattle.plan_model.specs.declared.call.Call.{Call}
use Rattle.session_model.specs.declared.entry.Entry.{Entry}
use Rattle.session_model.specs.declared.entry.Entry.TheVariants as entry
use Rattle.session_model.specs.declared.event.Event.TheVariants.{Cancel, End}
use Rattle.session_model.specs.Calls.{Setting, calls_added_to, calls_of, current, lane_calls, move_at}
use Rattle.session_model.specs.Grants.{next_due}
use Rattle.session_model.specs.Journals.{IsJournal, MayCome, MustClose, cancelled_end}
use Rattle.session_model.specs.Readings.{count_ended, last_cancel}

-- the item at n is there
there : {A : Type 0} (xs : List A) (n : ℕ) → slice_get xs n ≢ None → n < length xs
there [] n some = absurd (some refl)
there (x ∷ xs) zero some = omega arith
there (x ∷ xs) (suc n) some = let less = there xs n some in omega (arith, less)

-- there is nothing at the end and after it
pub none_left : {A : Type 0} (xs : List A) (n : ℕ) → slice_get xs n ≡ None → length xs ≤ n
none_left [] n none = omega arith
none_left (x ∷ xs) zero none = absurd cc
none_left (x ∷ xs) (suc n) none = let less = none_left xs n none in omega (arith, less)

some_move : (c : Option Call) (site : Site) (facts : Facts) (own : Own) (answers : Answers) (m : Move)
    → move_at c site facts own answers ≡ Some m → c ≢ None
some_move None site facts own answers m e none = absurd cc
some_move (Some c) site facts own answers m e none = cc none

abbrev lane_in : Entry → ℕ
lane_in (entry.Event (End l c o)) = l
lane_in other = 0

same_some : (a b : ℕ) → Some a ≡ Some b → a ≡ b
same_some a b e = cc e

-- the lane whose Cancel is the newest entry has a call left
cancel_current : (s : Setting) (past : List Entry) (lane : ℕ) → IsJournal s past → last_cancel past ≡ Some lane
    → current s past lane ≢ None
cancel_current s (entry.Event (Cancel l) ∷ past) lane j is =
    subst (λ (k : ℕ). current s past k ≢ None) (same_some l lane is) (may (last_cancel past) (next_due s past) j.0)
  where
    may : (c g : Option ℕ) → MatchOption c (MatchOption g (MayCome s past (entry.Event (Cancel l)))
        (λ grant. MustClose past grant (entry.Event (Cancel l))))
        (λ k. entry.Event (Cancel l) ≡ cancelled_end past k) → current s past l ≢ None
    may None None h = h.0
    may None (Some g) h = absurd (cc h.1.1)
    may (Some k) g h = absurd (cc h)
cancel_current s past lane j is = absurd cc

-- a call that ends was the lane's next
end_current : (s : Setting) (past : List Entry) (lane call : ℕ) (o : Outcome)
    → IsJournal s (entry.Event (End lane call o) ∷ past)
    → current s past lane ≢ None
end_current s past lane call o j = may (last_cancel past) (next_due s past) refl j.0
  where
    may : (c g : Option ℕ) → last_cancel past ≡ c → MatchOption c
        (MatchOption g (MayCome s past (entry.Event (End lane call o)))
        (λ grant. MustClose past grant (entry.Event (End lane call o))))
        (λ k. entry.Event (End lane call o) ≡ cancelled_end past k) → current s past lane ≢ None
    may None None is h = some_move _ _ _ _ _ _ h.1.1
    may None (Some g) is h = absurd (cc h.1.1)
    may (Some k) g is h = subst (λ (l : ℕ). current s past l ≢ None) (sym (ap lane_in h))
        (cancel_current s past k j.1 is)

-- no more calls of a lane end than it has
pub ended_most : (s : Setting) (past : List Entry) (lane : ℕ) → IsJournal s past
    → count_ended past lane ≤ length (lane_calls s past lane)
ended_most s [] lane j = omega arith
ended_most s (entry.Event (End l call o) ∷ past) lane j = by_test (l == lane) refl (ended_most s past lane j.1)
  where
    by_test : (b : Bool) → (l == lane) ≡ b → count_ended past lane ≤ length (lane_calls s past lane)
        → (if b then count_ended past lane + 1 else count_ended past lane) ≤ length (lane_calls s past lane)
    by_test true is most =
        let same : l ≡ lane = eqb-true l lane is in
        let less = there (lane_calls s past lane) (count_ended past lane)
        (subst (λ (k : ℕ). current s past k ≢ None) same (end_current s past l call o j)) in
        omega (arith, less)
    by_test false is most = most
ended_most s (entry.Added l c ∷ past) lane j = by_test (l == lane) (ended_most s past lane j.1)
  where
    by_test : (b : Bool) → count_ended past lane ≤ length (lane_calls s past lane)
        → count_ended past lane ≤ length (calls_of (slice_get s.lanes lane)
        ++ (if b then calls_added_to past lane ++ c ∷ [] else calls_added_to past lane))
    by_test true most =
        let long = length-append (calls_of (slice_get s.lanes lane)) (calls_added_to past lane) in
        let longer = length-append (calls_added_to past lane) (c ∷ []) in
        omega (
          arith,
          most,
          long,
          longer,
          length-append (calls_of (slice_get s.lanes lane))
              (calls_added_to past lane ++ c ∷ []),
        )
    by_test false most = most
ended_most s (_ ∷ past) lane j = ended_most s past lane j.1
