-- How a call ended whose outcome is reported.
use Rattle.std.proofs.Common.{
  ◌≡◌,
  ◌≢◌,
  ◌==◌,
  ◌+◌,
  ℕ,
  zero,
  suc,
  Bool,
  true,
  false,
  List,
  [],
  ◌∷◌,
  ◌++◌,
  length,
  Option,
  Some,
  None,
  if◌then◌else◌,
  refl,
  ap,
  sym,
  ◌∙◌,
  subst,
  arith,
  inl,
  inr,
}
use Rattle.std.specs.Prelude.{◌⊎◌, MatchOption, slice_get}
use Rattle.std.specs.List.{list_all}
use Rattle.std.proofs.lemmas.Bool.Decides.{eqb_tells}
use Rattle.std.proofs.lemmas.List.{length-append}
use Rattle.sftp_model.specs.declared.outcome.Outcome.{Outcome}
use Rattle.sftp_model.specs.declared.outcome.Outcome.TheVariants as outcome
use Rattle.sftp_model.specs.declared.slot.Facts.{Facts}
use Rattle.sftp_model.specs.declared.slot.Move.TheVariants.{Done}
use Rattle.sftp_model.specs.declared.slot.Site.{Site}
use Rattle.plan_model.specs.Moves.{Answers, Own}
use Rattle.plan_model.specs.declared.call.Call.{Call}
use Rattle.session_model.specs.declared.entry.Entry.{Entry}
use Rattle.session_model.specs.declared.entry.Entry.TheVariants as entry
use Rattle.session_model.specs.declared.event.Event.TheVariants.{End}
use Rattle.session_model.specs.Calls.{Setting, call_at, current, lane_calls, move_at, move_of, site_of}
use Rattle.session_model.specs.Grants.{next_due}
use Rattle.session_model.specs.Journals.{IsJournal, IsNext, MayCome, MustClose, cancelled_end}
use Rattle.session_model.specs.Readings.{answer, count_ended, last_cancel, outcomes_of, own}
use Rattle.run_laws.specs.CallsAmong.{HasEnded}
use Rattle.run_laws.specs.Listings.{site_at}
use Rattle.run_laws.proofs.JournalCalls.{ended_calls, site_began}
use Rattle.run_laws.proofs.UsedLaws.{some_is}
use Rattle.run_laws.specs.RoundTrips.{outcome_at}
use Rattle.run_laws.proofs.LaneCalls.{all_before, call_stays}
use Rattle.run_laws.proofs.OffRequests.{is_still}

-- ---- lists

get_last : {A : Type 0} (xs : List A) (x : A) (n : ℕ) (y : A) → slice_get (xs ++ x ∷ []) n ≡ Some y
    → (slice_get xs n ≡ Some y) ⊎ ((length xs ≡ n) × (x ≡ y))
get_last [] x zero y e = inr (refl, some_is x y e)
get_last [] x (suc n) y e = absurd cc
get_last (z ∷ xs) x zero y e = inl e
get_last (z ∷ xs) x (suc n) y e = elim (get_last xs x n y e) [ inl old ↦ inl old | inr new ↦ inr (ap suc new.0, new.1) ]

-- a lane has as many outcomes as calls of it ended
pub outcomes_count : (past : List Entry) (lane : ℕ) → length (outcomes_of past lane) ≡ count_ended past lane
outcomes_count [] lane = refl
outcomes_count (entry.Event (End l k o) ∷ past) lane = by_test (l == lane) (outcomes_count past lane)
  where
    by_test : (b : Bool) → length (outcomes_of past lane) ≡ count_ended past lane
        → length (if b then outcomes_of past lane ++ o ∷ [] else outcomes_of past lane)
        ≡ (if b then count_ended past lane + 1 else count_ended past lane)
    by_test true same = (let l = length-append (outcomes_of past lane) (o ∷ []) in omega (arith, l, same))
    by_test false same = same
outcomes_count (_ ∷ past) lane = outcomes_count past lane

-- ---- one end

-- an End that is none of a cancelled call comes by its plan, and no Cancel stands before it
calm_next : (c g : Option ℕ) (P : Type 0) (Q R : ℕ → Type 0) → MatchOption c (MatchOption g P Q) R → ((n : ℕ) → Q n → ⊥)
    → ((n : ℕ) → R n → ⊥) → (c ≡ None) × P
calm_next None None P Q R h f e = (refl, h)
calm_next None (Some n) P Q R h f e = absurd (f n h)
calm_next (Some n) g P Q R h f e = absurd (e n h)

end_may : (s : Setting) (past : List Entry) (lane k : ℕ) (o : Outcome) → o ≢ outcome.Cancelled
    → IsNext s past (entry.Event (End lane k o)) → (last_cancel past ≡ None)
    × MayCome s past (entry.Event (End lane k o))
end_may s past lane k o ne h =
    calm_next (last_cancel past) (next_due s past) _ (λ g. MustClose past g (entry.Event (End lane k o)))
    (λ l. entry.Event (End lane k o) ≡ cancelled_end past l) h
    (λ g m. cc (m.1.1)) (λ l e. ne (let same : o ≡ outcome.Cancelled = cc in same))

-- the End of a call by its plan, and the journal before it and after it
pub record EndsAt (s : Setting) (past : List Entry) (lane k : ℕ) (o : Outcome) : Type 0 where
  pub more : List Entry
  pub before : List Entry
  pub is : more ++ entry.Event (End lane (count_ended before lane) o) ∷ before ≡ past
  pub at : count_ended before lane ≡ k
  pub calm : last_cancel before ≡ None
  pub site : Site
  pub moves : move_of s before lane ≡ Some (Done o site)

ends_later : (s : Setting) (past : List Entry) (e : Entry) (lane k : ℕ) (o : Outcome) → EndsAt s past lane k o
    → EndsAt s (e ∷ past) lane k o
ends_later s past e lane k o t = record {
  more = e ∷ t.more;
  before = t.before;
  is =
      ap (λ (l : List Entry). e ∷ l) t.is;
  at = t.at;
  calm = t.calm;
  site = t.site;
  moves = t.moves;
}

ends_here : (s : Setting) (past : List Entry) (lane n k : ℕ) (o : Outcome) → o ≢ outcome.Cancelled
    → count_ended past lane ≡ k
    → IsNext s past (entry.Event (End lane n o)) → EndsAt s (entry.Event (End lane n o) ∷ past) lane k o
ends_here s past lane n k o ne at next =
    let may = end_may s past lane n o ne next in
    record {
      more = [];
      before = past;
      is = ap (λ (x : ℕ). entry.Event (End lane x o) ∷ past) (sym may.1.0);
      at = at;
      calm = may.0;
      site = may.1.1.0;
      moves = may.1.1.1;
    }

-- an outcome that is reported of a call stands at its End
pub ends_at : (s : Setting) (past : List Entry) (lane k : ℕ) (o : Outcome) → IsJournal s past → o ≢ outcome.Cancelled
    → outcome_at past lane k ≡ Some o → EndsAt s past lane k o
ends_at s [] lane k o j ne e = absurd cc
ends_at s (entry.Event (End l n p) ∷ past) lane k o j ne e =
    elim (eqb_tells l lane) [
      | inl t ↦ elim (get_last (outcomes_of past lane) p k o (rw t.0 at e)) [
        | inl old ↦ ends_later s past (entry.Event (End l n p)) lane k o (ends_at s past lane k o j.1 ne old)
        | inr new ↦ (let at : count_ended past lane ≡ k = sym (outcomes_count past lane) ∙ new.0 in
            subst (λ (x : ℕ). EndsAt s (entry.Event (End x n p) ∷ past) lane k o) (sym t.1)
            (subst (λ (x : Outcome). EndsAt s (entry.Event (End lane n x) ∷ past) lane k o) (sym new.1)
            (ends_here s past lane n k o ne at (subst (λ (x : Outcome). IsNext s past (entry.Event (End lane n x)))
            new.1 (subst (λ (x : ℕ). IsNext s past (entry.Event (End x n p))) t.1 j.0)))))
      ]
      | inr t ↦ ends_later s past (entry.Event (End l n p)) lane k o (ends_at s past lane k o j.1 ne (rw t.0 at e))
    ]
ends_at s (x ∷ past) lane k o j ne e = ends_later s past x lane k o (ends_at s past lane k o j.1 ne e)

-- ---- the call that ended

call_there : (o : Option Call) (site : Site) (facts : Facts) (own : Own) (answers : Answers) (ended : Outcome)
    (left : Site) → move_at o site facts own answers ≡ Some (Done ended left) → (c : Call) × (o ≡ Some c)
call_there None site facts own answers ended left e = absurd cc
call_there (Some c) site facts own answers ended left e = (c, refl)

-- what the lane held as the call began
pub began_at : (s : Setting) (past : List Entry) (lane k : ℕ) (o : Outcome) (t : EndsAt s past lane k o)
    → site_at s past lane k ≡ site_of s t.before lane
began_at s past lane k o t =
    subst (λ (l : List Entry). site_at s l lane k ≡ site_of s t.before lane) t.is
    (subst (λ (n : ℕ). site_at s (t.more ++ entry.Event (End lane (count_ended t.before lane) o) ∷ t.before) lane n
    ≡ site_of s t.before lane) t.at (site_began s t.more t.before lane o))

-- a call that ended, uncancelled, made its requests by its plan and ended so
pub record EndedByPlan (s : Setting) (past : List Entry) (lane k : ℕ) (c : Call) (o : Outcome) : Type 0 where
  pub before : List Entry
  pub began : site_at s past lane k ≡ site_of s before lane
  pub still : list_all is_still (lane_calls s past lane) ≡ true → list_all is_still (lane_calls s before lane) ≡ true
  pub did : HasEnded c (site_of s before lane) s.facts (own past lane k) (answer past) o

pub call_ended : (s : Setting) (past : List Entry) (lane k : ℕ) (c : Call) (o : Outcome) → IsJournal s past
    → call_at s past lane k ≡ Some c → o ≢ outcome.Cancelled → outcome_at past lane k ≡ Some o
    → EndedByPlan s past lane k c o
call_ended s past lane k c o j is ne e =
    let t : EndsAt s past lane k o = ends_at s past lane k o j ne e in
    let end : Entry = entry.Event (End lane (count_ended t.before lane) o) in
    let whole : List Entry = t.more ++ end ∷ t.before in
    let found = call_there (current s t.before lane) (site_of s t.before lane) s.facts
    (own t.before lane (count_ended t.before lane)) (answer t.before) o t.site t.moves in
    let later : call_at s whole lane (count_ended t.before lane) ≡ Some found.0 =
    call_stays s t.more (end ∷ t.before) lane (count_ended t.before lane) found.0 found.1 in
    let there : call_at s past lane k ≡ Some found.0 =
    subst (λ (l : List Entry). call_at s l lane k ≡ Some found.0) t.is
    (subst (λ (x : ℕ). call_at s whole lane x ≡ Some found.0) t.at later)
    in
    let same : found.0 ≡ c = some_is found.0 c (sym there ∙ is) in
    let did : HasEnded (found.0) (site_of s t.before lane) s.facts (own whole lane (count_ended t.before lane))
    (answer whole) o =
    ended_calls s t.before t.more lane found.0 o (subst (IsJournal s) (sym t.is) j) t.calm found.1
    in
    record {
      before = t.before;
      began = began_at s past lane k o t;
      still = λ w. all_before is_still s t.more (end ∷ t.before) lane
          (subst (λ (l : List Entry). list_all is_still (lane_calls s l lane) ≡ true) (sym t.is) w);
      did =
          subst (λ (d : Call). HasEnded d (site_of s t.before lane) s.facts (own past lane k) (answer past) o) same
          (subst (λ (l : List Entry). HasEnded (found.0) (site_of s t.before lane) s.facts (own l lane k) (answer l) o)
          t.is
          (subst (λ (x : ℕ). HasEnded (found.0) (site_of s t.before lane) s.facts (own whole lane x) (answer whole) o)
          t.at did));
    }
