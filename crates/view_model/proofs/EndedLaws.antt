-- No more calls of a lane end than it has, and one that is added to a lane without a call ends once.
use Rattle.std.proofs.Common.{
  ◌≡◌,
  ◌≢◌,
  ◌<◌,
  ◌≤◌,
  ◌+◌,
  ◌==◌,
  ℕ,
  zero,
  suc,
  Bool,
  true,
  false,
  List,
  [],
  ◌∷◌,
  ◌++◌,
  length,
  None,
  if◌then◌else◌,
  refl,
  ap,
  ◌∙◌,
  subst,
  arith,
  inl,
  inr,
}
use Rattle.std.specs.Prelude.{slice_get}
use Rattle.std.proofs.lemmas.Bool.{eq-eqb}
use Rattle.std.proofs.lemmas.Bool.Decides.{eqb_tells}
use Rattle.std.proofs.lemmas.List.{length-append}
use Rattle.sftp_model.specs.declared.outcome.Outcome.{Outcome}
use Rattle.plan_model.specs.declared.call.Call.{Call}
use Rattle.session_model.specs.declared.entry.Entry.{Entry}
use Rattle.session_model.specs.declared.entry.Entry.TheVariants as entry
use Rattle.session_model.specs.declared.event.Event.TheVariants.{End}
use Rattle.session_model.specs.Calls.{Setting, calls_added_to, calls_of, current, lane_calls}
use Rattle.session_model.specs.Journals.{IsJournal}
use Rattle.session_model.specs.Readings.{count_ended, outcomes_of}
use Rattle.session_model.specs.Runs.{RoundsTo}
use Rattle.session_model.specs.Turns.{RunProgress}
use Rattle.session_model.proofs.HolderLaws.{IsEnding, ending}
use Rattle.view_model.specs.OneCall.{HasEndedOnce}
use Rattle.view_model.proofs.AddedLaws.{GoesOn, rounds_go}

-- ---- lists

got_below : {A : Type 0} (xs : List A) (k : ℕ) → slice_get xs k ≢ None → k < length xs
got_below [] k ne = absurd (ne refl)
got_below (y ∷ xs) zero ne = omega arith
got_below (y ∷ xs) (suc k) ne = (let below = got_below xs k ne in omega (arith, below))

none_beyond : {A : Type 0} (xs : List A) (k : ℕ) → slice_get xs k ≡ None → length xs ≤ k
none_beyond [] k e = omega arith
none_beyond (y ∷ xs) zero e = absurd cc
none_beyond (y ∷ xs) (suc k) e = (let le = none_beyond xs k e in omega (arith, le))

-- a lane has as many outcomes as calls of it ended
outcomes_count : (past : List Entry) (lane : ℕ) → length (outcomes_of past lane) ≡ count_ended past lane
outcomes_count [] lane = refl
outcomes_count (entry.Event (End l k o) ∷ past) lane = by_test (l == lane) (outcomes_count past lane)
  where
    by_test : (b : Bool) → length (outcomes_of past lane) ≡ count_ended past lane
        → length (if b then outcomes_of past lane ++ o ∷ [] else outcomes_of past lane)
        ≡ (if b then count_ended past lane + 1 else count_ended past lane)
    by_test true same = (let l = length-append (outcomes_of past lane) (o ∷ []) in omega (arith, l, same))
    by_test false same = same
outcomes_count (_ ∷ past) lane = outcomes_count past lane

-- ---- ends

calls_length : (s : Setting) (past : List Entry) (lane : ℕ) → length (lane_calls s past lane)
    ≡ length (calls_of (slice_get s.lanes lane)) + length (calls_added_to past lane)
calls_length s past lane = length-append (calls_of (slice_get s.lanes lane)) (calls_added_to past lane)

pub ended_within : (s : Setting) (past : List Entry) (lane : ℕ) → IsJournal s past
    → count_ended past lane ≤ length (lane_calls s past lane)
ended_within s [] lane j = omega arith
ended_within s (entry.Event (End l call o) ∷ past) lane j =
    elim (eqb_tells l lane) [
      | inl t ↦
          (let e : IsEnding s past l call = ending s past l call o j in
          let lt : count_ended past l < length (lane_calls s past l) =
          got_below (lane_calls s past l) (count_ended past l) e.some in
          let here : count_ended past lane < length (lane_calls s past lane) =
          subst (λ (n : ℕ). count_ended past n < length (lane_calls s past n)) t.1 lt in
          rw (t.0) (let le : count_ended past lane + 1 ≤ length (lane_calls s past lane) = omega (arith, here) in le))
      | inr t ↦ rw (t.0) (ended_within s past lane j.1)
    ]
ended_within s (entry.Added l c ∷ past) lane j =
    let le = ended_within s past lane j.1 in
    let a = calls_length s past lane in
    let b = calls_length s (entry.Added l c ∷ past) lane in
    let more = grows (l == lane) in
    omega (arith, le, a, b, more)
  where
    grows : (t : Bool) → length (calls_added_to past lane) ≤ length
        (if t then calls_added_to past lane ++ c ∷ [] else calls_added_to past lane)
    grows true = (let n = length-append (calls_added_to past lane) (c ∷ []) in omega (arith, n))
    grows false = omega arith
ended_within s (_ ∷ past) lane j = ended_within s past lane j.1

-- ---- one call more

one_of : (more : List Outcome) → length more ≡ 1 → (o : Outcome) × (more ≡ o ∷ [])
one_of [] e = absurd (omega (arith, e))
one_of (o ∷ []) e = (o, refl)
one_of (o ∷ next ∷ more) e = absurd (omega (arith, e))

added_here : (past : List Entry) (lane : ℕ) (c : Call) → calls_added_to (entry.Added lane c ∷ past) lane
    ≡ calls_added_to past lane ++ c ∷ []
added_here past lane c = ap (λ (b : Bool). if b then calls_added_to past lane ++ c ∷ [] else calls_added_to past lane)
    (eq-eqb lane lane refl)

pub ended_once : (s : Setting) (lane rounds : ℕ) (c : Call) (past : List Entry) (added_stage now : RunProgress)
    → added_stage.past ≡ entry.Added lane c ∷ past → IsJournal s now.past → IsJournal s past → current s past lane
    ≡ None
    → RoundsTo s lane rounds added_stage now → current s now.past lane ≡ None → HasEndedOnce lane c past now.past
ended_once s lane rounds c past added_stage now is j j0 none to done =
    record {
      outcome = one.0;
      outcomes = grown.1 ∙ ap (λ (w : List Outcome). outcomes_of past lane ++ w) one.1;
      calls = calls;
      held = g.held_so;
      uncancelled = g.uncancelled;
    }
  where
    g : GoesOn (entry.Added lane c ∷ past) now.past
    g = subst (λ (w : List Entry). GoesOn w now.past) is (rounds_go s lane rounds added_stage now to)

    calls : calls_added_to now.past lane ≡ calls_added_to past lane ++ c ∷ []
    calls = g.added_so lane ∙ added_here past lane c

    grown : (more : List Outcome) × (outcomes_of now.past lane ≡ outcomes_of past lane ++ more)
    grown = g.ended_so lane

    one : (o : Outcome) × (grown.0 ≡ o ∷ [])
    one =
        one_of grown.0
        (let a = outcomes_count past lane in
        let b = outcomes_count now.past lane in
        let more : length (outcomes_of now.past lane) ≡ length (outcomes_of past lane ++ grown.0) = ap length grown.1 in
        let sum = length-append (outcomes_of past lane) grown.0 in
        let low = none_beyond (lane_calls s past lane) (count_ended past lane) none in
        let high = ended_within s past lane j0 in
        let low' = none_beyond (lane_calls s now.past lane) (count_ended now.past lane) done in
        let high' = ended_within s now.past lane j in
        let x = calls_length s past lane in
        let y = calls_length s now.past lane in
        let z : length (calls_added_to now.past lane) ≡ length (calls_added_to past lane ++ c ∷ []) = ap length calls in
        let w = length-append (calls_added_to past lane) (c ∷ []) in
        omega (arith, a, b, more, sum, low, high, low', high', x, y, z, w))
