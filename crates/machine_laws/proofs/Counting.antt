-- The calls of a run ask for fewer handles than there are: each call for one at most.
use Rattle.std.proofs.Common.{
  ◌≡◌,
  ◌≢◌,
  ◌<◌,
  ◌≤◌,
  ◌==◌,
  ℕ,
  zero,
  suc,
  ◌+◌,
  Bool,
  true,
  false,
  List,
  [],
  ◌∷◌,
  ◌++◌,
  length,
  Option,
  Some,
  None,
  refl,
  ap,
  sym,
  ◌∙◌,
  subst,
  arith,
  if◌then◌else◌,
  inl,
  inr,
}
use Rattle.std.specs.Prelude.{slice_get}
use Rattle.std.specs.List.{sum_by, list_all}
use Rattle.std.proofs.lemmas.Bool.Decides.{eqb_tells}
use Rattle.std.proofs.lemmas.Bool.{ne_eqb, eq-eqb}
use Rattle.std.proofs.lemmas.List.Sums.{sum_by-cons}
use Rattle.sftp_model.specs.declared.request.Request.{Request}
use Rattle.sftp_model.specs.declared.slot.Move.{Move}
use Rattle.sftp_model.specs.declared.slot.Move.TheVariants.{Ask}
use Rattle.plan_model.specs.Moves.{Own}
use Rattle.plan_model.specs.declared.call.Call.{Call}
use Rattle.plan_model.specs.declared.call.Call.TheVariants.{BufWrite, BufWriteAll}
use Rattle.plan_model.specs.declared.call.Lane.{Lane}
use Rattle.session_model.specs.declared.turn.Turn.{Turn}
use Rattle.session_model.specs.declared.event.Owner.TheVariants as owner
use Rattle.session_model.specs.declared.event.Event.TheVariants.{Submit, End}
use Rattle.session_model.specs.declared.entry.Entry.{Entry}
use Rattle.session_model.specs.declared.entry.Entry.TheVariants as entry
use Rattle.session_model.specs.Readings.{count_submitted, answer, own, count_ended}
use Rattle.session_model.specs.Calls.{Setting, calls_of, current, move_at, move_of, site_of}
use Rattle.session_model.specs.Journals.{IsJournal, IsNext}
use Rattle.session_model.proofs.CallLaws.{next_submit}
use Rattle.plan_model.specs.Lanes.{weight, lane_weight, weight_limit, is_within, are_ok}
use Rattle.session_model.specs.Runs.{IsRun}
use Rattle.machine_answers.specs.MachineState.{MAX_HANDLES}
use Rattle.run_laws.proofs.PlainRuns.{IsPlain, plain_calls, run_plain}
use Rattle.machine_laws.proofs.Asking.{asks_handle, asks_first}
use Rattle.machine_laws.proofs.Replying.{both_of, is_less}
use Rattle.machine_laws.proofs.Serving.{handles_asked, called}

-- ---- each call asks for one handle at most

-- how many handles the calls of a lane asked for
abbrev pub called_by : List Entry → ℕ → ℕ
called_by [] lane = 0
called_by (entry.Event (Submit (owner.Call l call) id r) ∷ past) lane = if l == lane then
    called_by past lane + handles_asked r else called_by past lane
called_by (_ ∷ past) lane = called_by past lane

-- 1 where a call has asked for something
abbrev pub some_of : Own → ℕ
some_of [] = 0
some_of (a ∷ later) = 1

some_le : (requests : Own) → some_of requests ≤ 1
some_le [] = omega arith
some_le (a ∷ later) = omega arith

-- a handle is asked for by a call's first request alone
one_handle : (requests : Own) (a : ℕ × Request) (b : Bool) → (b ≡ true → requests ≡ [])
    → some_of requests + (if b then 1 else 0) ≤ some_of (requests ++ a ∷ [])
one_handle [] a true first = omega arith
one_handle [] a false first = omega arith
one_handle (x ∷ later) a true first = absurd (let none = first refl in cc)
one_handle (x ∷ later) a false first = omega arith

asks_one : (s : Setting) (past : List Entry) (lane call id : ℕ) (r : Request)
    → IsNext s past (entry.Event (Submit (owner.Call lane call) id r))
    → some_of (own past lane (count_ended past lane)) + handles_asked r ≤ some_of
    (own past lane (count_ended past lane) ++ (count_submitted past, r) ∷ [])
asks_one s past lane call id r next =
    one_handle (own past lane (count_ended past lane)) (count_submitted past, r) (asks_handle r)
    (asks_first s past lane r (next_submit s past lane call id r next).1)

-- by the calls that ended, and one where the next has asked
by_ends : (s : Setting) (past : List Entry) (lane : ℕ) → IsJournal s past
    → called_by past lane ≤ count_ended past lane + some_of (own past lane (count_ended past lane))
by_ends s [] lane j = omega arith
by_ends s (entry.Event (Submit (owner.Call l call) id r) ∷ past) lane j =
    let old = by_ends s past lane j.1 in
    elim (eqb_tells l lane) [
      | inl t ↦
          let now : call ≡ count_ended past l = (next_submit s past l call id r j.0).0 in
          let same : (call == count_ended past lane) ≡ true = eq-eqb call (count_ended past lane)
          (now ∙ ap (count_ended past) t.1) in
          let one : some_of (own past lane (count_ended past lane)) + handles_asked r ≤ some_of
          (own past lane (count_ended past lane) ++ (count_submitted past, r) ∷ []) =
          subst (λ (k : ℕ). some_of (own past k (count_ended past k)) + handles_asked r ≤ some_of
          (own past k (count_ended past k) ++ (count_submitted past, r) ∷ [])) t.1 (asks_one s past l call id r j.0) in
          rw (t.0, same) (omega (arith, old, one))
      | inr t ↦ rw t.0 old
    ]
by_ends s (entry.Event (Submit owner.Setup id r) ∷ past) lane j = by_ends s past lane j.1
by_ends s (entry.Event (Submit owner.Close id r) ∷ past) lane j = by_ends s past lane j.1
by_ends s (entry.Event (End l call o) ∷ past) lane j =
    let old = by_ends s past lane j.1 in
    elim (eqb_tells l lane) [
      | inl t ↦ rw t.0 (let one = some_le (own past lane (count_ended past lane)) in omega (arith, old, one))
      | inr t ↦ rw t.0 old
    ]
by_ends s (_ ∷ past) lane j = by_ends s past lane j.1

there_below : (calls : List Call) (n : ℕ) (c : Call) → slice_get calls n ≡ Some c → n < length calls
there_below [] n c e = absurd cc
there_below (x ∷ calls) zero c e = omega arith
there_below (x ∷ calls) (suc n) c e = let below = there_below calls n c e in omega (arith, below)

has_call : (c : Option Call) (m : Option Move) (r : Request) → m ≡ Some (Ask r) → (c ≡ None → m ≡ None) → (x : Call)
    × (c ≡ Some x)
has_call None m r e f = absurd (let none : m ≡ None = f refl in cc)
has_call (Some c) m r e f = (c, refl)

-- a lane whose call asks has a call left
asks_below : (s : Setting) (past : List Entry) (lane : ℕ) (r : Request) → IsPlain past → move_of s past lane
    ≡ Some (Ask r) → count_ended past lane < length (calls_of (slice_get s.lanes lane))
asks_below s past lane r p e =
    let c = has_call (current s past lane) (move_of s past lane) r e
    (λ none. ap (λ (c : Option Call). move_at c (site_of s past lane) s.facts (own past lane (count_ended past lane))
    (answer past)) none) in
    there_below (calls_of (slice_get s.lanes lane)) (count_ended past lane) c.0
    (ap (λ (w : List Call). slice_get w (count_ended past lane)) (sym (plain_calls s past lane p)) ∙ c.1)

by_calls : (s : Setting) (past : List Entry) (lane : ℕ) → IsPlain past → IsJournal s past
    → called_by past lane ≤ length (calls_of (slice_get s.lanes lane))
by_calls s [] lane p j = omega arith
by_calls s (entry.Event (Submit (owner.Call l call) id r) ∷ past) lane p j =
    elim (eqb_tells l lane) [
      | inl t ↦
          let old = by_ends s past l j.1 in
          let one = asks_one s past l call id r j.0 in
          let most = some_le (own past l (count_ended past l) ++ (count_submitted past, r) ∷ []) in
          let below = asks_below s past l r p (next_submit s past l call id r j.0).1 in
          let within : called_by past l + handles_asked r ≤ length (calls_of (slice_get s.lanes l)) =
          omega (arith, old, one, most, below) in
          rw t.0 (subst (λ (k : ℕ). called_by past k + handles_asked r ≤ length (calls_of (slice_get s.lanes k))) t.1
          within)
      | inr t ↦ rw t.0 (by_calls s past lane p j.1)
    ]
by_calls s (entry.Event (Submit owner.Setup id r) ∷ past) lane p j = by_calls s past lane p j.1
by_calls s (entry.Event (Submit owner.Close id r) ∷ past) lane p j = by_calls s past lane p j.1
by_calls s (entry.Added l c ∷ past) lane p j = absurd p
by_calls s (_ ∷ past) lane p j = by_calls s past lane p j.1

-- ---- all lanes

-- the sum over lanes, the first of which is number k
abbrev sum_from : (ℕ → ℕ) → ℕ → List Lane → ℕ
sum_from f k [] = 0
sum_from f k (lane ∷ lanes) = f k + sum_from f (k + 1) lanes

sum_same : (f g : ℕ → ℕ) (k : ℕ) (lanes : List Lane) → ((q : ℕ) → k ≤ q → f q ≡ g q) → sum_from f k lanes
    ≡ sum_from g k lanes
sum_same f g k [] same = refl
sum_same f g k (lane ∷ lanes) same =
    let here = same k (omega arith) in let more = sum_same f g (k + 1) lanes (λ q le. same q (omega (arith, le))) in
    omega (arith, here, more)

sum_more : (f g : ℕ → ℕ) (k p n : ℕ) (lanes : List Lane) → k ≤ p → p < k + length lanes → f p ≡ g p + n
    → ((q : ℕ) → p ≢ q → f q ≡ g q) → sum_from f k lanes ≡ sum_from g k lanes + n
sum_more f g k p n [] le lt one same = absurd (omega (arith, le, lt))
sum_more f g k p n (lane ∷ lanes) le lt one same =
    elim (eqb_tells p k) [
      | inl t ↦
          let here : f k ≡ g k + n = subst (λ (i : ℕ). f i ≡ g i + n) t.1 one in
          let others = sum_same f g (k + 1) lanes (λ q above. same q
          (λ e. absurd (let is : p ≡ k = t.1 in omega (arith, above, e, is)))) in omega (arith, here, others)
      | inr t ↦
          let ne : p ≢ k = t.1 in
          let here = same k ne in
          let more = sum_more f g (k + 1) p n lanes (omega (arith, le, ne)) (omega (arith, lt)) one same in
          omega (arith, here, more)
    ]

sum_none : (k : ℕ) (lanes : List Lane) → sum_from (λ q. 0) k lanes ≡ 0
sum_none k [] = refl
sum_none k (lane ∷ lanes) = let more = sum_none (k + 1) lanes in omega (arith, more)

lane_there : (lanes : List Lane) (lane n : ℕ) → n < length (calls_of (slice_get lanes lane)) → lane < length lanes
lane_there [] lane n lt = absurd (omega (arith, lt))
lane_there (l ∷ lanes) zero n lt = omega arith
lane_there (l ∷ lanes) (suc lane) n lt = let below = lane_there lanes lane n lt in omega (arith, below)

one_more : (past : List Entry) (l id call : ℕ) (r : Request)
    → called_by (entry.Event (Submit (owner.Call l call) id r) ∷ past) l ≡ called_by past l + handles_asked r
one_more past l id call r = rw (eq-eqb l l refl) refl

one_other : (past : List Entry) (l id call : ℕ) (r : Request) (q : ℕ) → l ≢ q
    → called_by (entry.Event (Submit (owner.Call l call) id r) ∷ past) q ≡ called_by past q
one_other past l id call r q ne = rw (ne_eqb l q ne) refl

called_sum : (s : Setting) (past : List Entry) → IsPlain past → IsJournal s past → called past
    ≡ sum_from (called_by past) 0 s.lanes
called_sum s [] p j = sym (sum_none 0 s.lanes)
called_sum s (entry.Event (Submit (owner.Call l call) id r) ∷ past) p j =
    let old = called_sum s past p j.1 in
    let below = asks_below s past l r p (next_submit s past l call id r j.0).1 in
    let there = lane_there s.lanes l (count_ended past l) below in
    let more = sum_more (called_by (entry.Event (Submit (owner.Call l call) id r) ∷ past)) (called_by past) 0 l
    (handles_asked r) s.lanes (omega arith) (omega (arith, there)) (one_more past l id call r)
    (one_other past l id call r) in
    omega (arith, old, more)
called_sum s (entry.Event (Submit owner.Setup id r) ∷ past) p j = called_sum s past p j.1
called_sum s (entry.Event (Submit owner.Close id r) ∷ past) p j = called_sum s past p j.1
called_sum s (entry.Added l c ∷ past) p j = absurd p
called_sum s (_ ∷ past) p j = called_sum s past p j.1

two_at_least : (c : Call) → 2 ≤ weight c
two_at_least (BufWrite slot bytes) = omega arith
two_at_least (BufWriteAll slot bytes) = omega arith
two_at_least other = omega arith

calls_weigh : (calls : List Call) → length calls ≤ sum_by weight calls
calls_weigh [] = omega arith
calls_weigh (c ∷ calls) =
    let more = calls_weigh calls in
    let two = two_at_least c in
    let one : sum_by weight (c ∷ calls) ≡ weight c + sum_by weight calls = sum_by-cons weight c calls in
    omega (arith, more, two, one)

sum_weighs : (f : ℕ → ℕ) (k : ℕ) (lanes : List Lane) → ((i : ℕ) → f (k + i) ≤ length (calls_of (slice_get lanes i)))
    → sum_from f k lanes ≤ sum_by lane_weight lanes
sum_weighs f k [] h = omega arith
sum_weighs f k (lane ∷ lanes) h =
    let here : f (k + 0) ≤ length lane.calls = h 0 in
    let zero_is : f (k + 0) ≡ f k = ap f (omega arith) in
    let one = calls_weigh lane.calls in
    let more = sum_weighs f (k + 1) lanes (λ i. subst (λ (n : ℕ). f n ≤ length (calls_of (slice_get lanes i)))
    (omega arith) (h (suc i))) in
    let both : sum_by lane_weight (lane ∷ lanes) ≡ (1 + sum_by weight lane.calls) + sum_by lane_weight lanes =
    sum_by-cons lane_weight lane lanes in
    omega (arith, here, zero_is, one, more, both)

-- of lanes that a session can be given
pub run_calls : (s : Setting) (turns : List Turn) (past : List Entry) → IsRun s turns past → IsJournal s past
    → are_ok s.lanes ≡ true → called past < MAX_HANDLES
run_calls s turns past run j ok =
    let p = run_plain s turns past run in
    let sum = called_sum s past p j in
    let weighs = sum_weighs (called_by past) 0 s.lanes (λ i. let is : i ≡ 0 + i = omega arith in
    subst (λ (k : ℕ). called_by past k ≤ length (calls_of (slice_get s.lanes i))) is (by_calls s past i p j)) in
    let most : sum_by lane_weight s.lanes < weight_limit = is_less _ _
    (both_of (list_all (λ lane. list_all is_within lane.calls) s.lanes) _ ok).1 in
    omega (arith, sum, weighs, most)
