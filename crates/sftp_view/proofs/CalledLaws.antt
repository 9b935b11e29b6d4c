-- The calls of a session of one lane ask for fewer handles than there are: each call for one at most.
use Rattle.std.proofs.Common.{
  ◌≡◌,
  ◌<◌,
  ◌≤◌,
  ◌==◌,
  ◌+◌,
  ℕ,
  Bool,
  true,
  false,
  List,
  [],
  ◌∷◌,
  ◌++◌,
  length,
  Option,
  Some,
  None,
  if◌then◌else◌,
  refl,
  ap,
  sym,
  ◌∙◌,
  subst,
  arith,
}
use Rattle.std.proofs.lemmas.Bool.{eq-eqb}
use Rattle.sftp_model.specs.declared.request.Request.{Request}
use Rattle.sftp_model.specs.declared.slot.Move.TheVariants.{Ask}
use Rattle.machine_answers.specs.MachineState.{MAX_HANDLES}
use Rattle.plan_model.specs.Moves.{Own}
use Rattle.plan_model.specs.declared.call.Call.{Call}
use Rattle.plan_model.specs.declared.call.Lane.{Lane}
use Rattle.session_model.proofs.CallLaws.{next_submit}
use Rattle.session_model.proofs.ClosedLaws.{lane_there}
use Rattle.session_model.specs.Calls.{Setting, calls_added_to, current, lane_calls, move_at, move_of, site_of}
use Rattle.session_model.specs.Journals.{IsJournal}
use Rattle.session_model.specs.Readings.{answer, count_submitted, count_ended, own}
use Rattle.session_model.specs.declared.entry.Entry.{Entry}
use Rattle.session_model.specs.declared.entry.Entry.TheVariants as entry
use Rattle.session_model.specs.declared.event.Event.TheVariants.{End, Submit}
use Rattle.session_model.specs.declared.event.Owner.TheVariants as owner
use Rattle.machine_laws.proofs.Asking.{asks_first, asks_handle}
use Rattle.machine_laws.proofs.Serving.{called, handles_asked}
use Rattle.view_model.specs.Calls.{AreFew, call_limit}
use Rattle.view_model.proofs.EndedLaws.{ended_within}
use Rattle.sftp_view.specs.Doings.{one_lane}

-- 1 where a call has asked for something
abbrev some_of : Own → ℕ
some_of [] = 0
some_of (a ∷ later) = 1

some_le : (requests : Own) → some_of requests ≤ 1
some_le [] = omega arith
some_le (a ∷ later) = omega arith

-- a handle is asked for by a call's first request alone
one_handle : (requests : Own) (a : ℕ × Request) (b : Bool) → (b ≡ true → requests ≡ [])
    → some_of requests + (if b then 1 else 0) ≤ some_of (requests ++ a ∷ [])
one_handle [] a true first = omega arith
one_handle [] a false first = omega arith
one_handle (x ∷ later) a true first = absurd (let none = first refl in cc)
one_handle (x ∷ later) a false first = omega arith

-- of one lane each call is its own
lane_is : (s : Setting) (past : List Entry) (lane : ℕ) (r : Request) → s.lanes ≡ one_lane → IsJournal s past
    → move_of s past lane ≡ Some (Ask r) → lane ≡ 0
lane_is s past lane r one j asks =
    let there : lane < length s.lanes = lane_there s past lane j (λ none. no_move none) in
    let count : length s.lanes ≡ 1 = ap (λ (w : List Lane). length w) one in
    omega (arith, there, count)
  where
    no_move : current s past lane ≡ None → ⊥
    no_move none = (let still : None ≡ Some (Ask r) =
        ap (λ (c : Option Call). move_at c (site_of s past lane) s.facts (own past lane (count_ended past lane))
        (answer past)) (sym none) ∙ asks in cc)

-- by the calls that ended, and one where the next has asked
by_ends : (s : Setting) (past : List Entry) → s.lanes ≡ one_lane → IsJournal s past
    → called past ≤ count_ended past 0 + some_of (own past 0 (count_ended past 0))
by_ends s [] one j = omega arith
by_ends s (entry.Event (Submit (owner.Call l call) id r) ∷ past) one j =
    let old = by_ends s past one j.1 in
    let may = next_submit s past l call id r j.0 in
    let here : l ≡ 0 = lane_is s past l r one j.1 may.1 in
    let now : call ≡ count_ended past 0 = may.0 ∙ ap (count_ended past) here in
    let lane_same : (l == 0) ≡ true = eq-eqb l 0 here in
    let same : (call == count_ended past 0) ≡ true = eq-eqb call (count_ended past 0) now in
    let first : asks_handle r ≡ true → own past 0 (count_ended past 0) ≡ [] =
    subst (λ (k : ℕ). asks_handle r ≡ true → own past k (count_ended past k) ≡ []) here (asks_first s past l r may.1) in
    let more : some_of (own past 0 (count_ended past 0)) + handles_asked r ≤ some_of
    (own past 0 (count_ended past 0) ++ (count_submitted past, r) ∷ []) =
    one_handle (own past 0 (count_ended past 0)) (count_submitted past, r) (asks_handle r) first in
    rw (lane_same, same) (omega (arith, old, more))
by_ends s (entry.Event (Submit owner.Setup id r) ∷ past) one j = by_ends s past one j.1
by_ends s (entry.Event (Submit owner.Close id r) ∷ past) one j = by_ends s past one j.1
by_ends s (entry.Event (End l call o) ∷ past) one j = by_test (l == 0) (by_ends s past one j.1)
  where
    by_test : (b : Bool) → called past ≤ count_ended past 0 + some_of (own past 0 (count_ended past 0))
        → called past ≤ (if b then count_ended past 0 + 1 else count_ended past 0) + some_of
        (own past 0 (if b then count_ended past 0 + 1 else count_ended past 0))
    by_test true old = (let some = some_le (own past 0 (count_ended past 0)) in omega (arith, old, some))
    by_test false old = old
by_ends s (_ ∷ past) one j = by_ends s past one j.1

-- so they are few where few calls were added
pub few_called : (s : Setting) (past : List Entry) → s.lanes ≡ one_lane → IsJournal s past
    → AreFew call_limit (calls_added_to past 0) → called past < MAX_HANDLES
few_called s past one j few =
    let ends = by_ends s past one j in
    let some = some_le (own past 0 (count_ended past 0)) in
    let within = ended_within s past 0 j in
    let calls : length (lane_calls s past 0) ≡ length (calls_added_to past 0) =
    ap (λ (w : List Lane). length (lane_calls (record s { lanes = w }) past 0)) one in
    let le = few.few in
    omega (arith, ends, some, within, calls, le)
