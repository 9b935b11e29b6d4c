-- Behind a whole run each grant has one CLOSE, and each handle was closed as often as it was granted.
use Rattle.std.proofs.Common.{
  append_assoc,
  ◌≡◌,
  ◌≢◌,
  ◌<◌,
  ◌≤◌,
  ℕ,
  suc,
  ◌+◌,
  ◌==◌,
  Bool,
  true,
  false,
  List,
  [],
  ◌∷◌,
  ◌++◌,
  Option,
  Some,
  None,
  refl,
  ap,
  sym,
  ◌∙◌,
  subst,
  arith,
  if◌then◌else◌,
  inl,
  inr,
}
use Rattle.std.specs.Prelude.{◌||◌, ◌&&◌, not, length, slice_get}
use Rattle.std.specs.Str.{bytes_eq}
use Rattle.std.proofs.lemmas.Bool.{eq-eqb, ne_eqb, eqb-true, and_parts, and_right, or_cases, both_ways, false_from_ne_true, not-true, not-false, cases_eq}
use Rattle.std.proofs.lemmas.Bool.Decides.{eqb_tells}
use Rattle.sftp_model.specs.declared.request.Request.{Request}
use Rattle.sftp_model.specs.declared.request.Request.TheVariants as request
use Rattle.sftp_model.specs.declared.reply.Reply.{Reply}
use Rattle.sftp_model.specs.declared.reply.Reply.TheVariants as reply
use Rattle.sftp_model.specs.Slots.{has_grant}
use Rattle.plan_model.specs.Moves.{handle_of}
use Rattle.plan_model.specs.declared.call.Call.{Call}
use Rattle.session_model.specs.declared.event.Owner.{Owner}
use Rattle.session_model.specs.declared.event.Owner.TheVariants as owner
use Rattle.session_model.specs.declared.event.Event.TheVariants.{Submit, Take, End}
use Rattle.session_model.specs.declared.entry.Entry.{Entry}
use Rattle.session_model.specs.declared.entry.Entry.TheVariants as entry
use Rattle.session_model.specs.declared.turn.Turn.{Turn}
use Rattle.session_model.specs.Readings.{count_submitted, asked_at, answer, is_at, is_by, own, count_ended, was_let_go, count_sent, count_below}
use Rattle.session_model.specs.Calls.{Setting, calls_added_to, calls_of, call_at, current, site_of, held_site, move_at, move_of}
use Rattle.session_model.specs.Grants.{is_granted, is_grant, is_asked_by, is_unended_asker, holds, is_held, is_one_of, closed_grants}
use Rattle.session_model.specs.Journals.{IsJournal, IsNext, IsOver}
use Rattle.session_model.specs.Runs.{IsRun}
use Rattle.session_model.proofs.CallLaws.{next_submit, next_take}
use Rattle.session_model.proofs.ClosedLaws.{IsClosing, closing, gone_unheld, closed_once, some_counted, count_by-cons}
use Rattle.session_model.specs.Closes.{with_granted, granted_handles, closed_handles, times, AreClosed, closes_of}
use Rattle.session_model.proofs.CountLaws.{count_same, count_one, count_some}
use Rattle.session_model.proofs.GrantLaws.{any_where}
use Rattle.session_model.proofs.HolderLaws.{may_of, got_more, ending}
use Rattle.session_model.proofs.LetGoLaws.{settled_each, granted_below}
use Rattle.session_model.proofs.OverLaws.{runs_are_journals, runs_are_over}
use Rattle.session_model.proofs.SettledLaws.{journals_settle}
use Rattle.session_model.proofs.PlannedLaws.{held_less}
use Rattle.session_model.proofs.RequestLaws.{sent_asked, answer_beyond, answer_new, answer_other}

-- ---- lanes that were let go

-- a lane that was let go has no call and holds nothing in its slots
let_go_idle : (s : Setting) (past : List Entry) (lane g : ℕ) → IsJournal s past → was_let_go past lane ≡ true
    → (current s past lane ≡ None) × (has_grant (site_of s past lane) g ≡ false)
let_go_idle s [] lane g j h = absurd cc
let_go_idle s (entry.Event (End l c o) ∷ past) lane g j h =
    let old = let_go_idle s past lane g j.1 h in
    elim (eqb_tells l lane) [
      | inl t ↦ absurd ((ending s past l c o j).some (subst (λ (k : ℕ). current s past k ≡ None) (sym t.1) old.0))
      | inr t ↦ rw t.0 old
    ]
let_go_idle s (entry.Added l c ∷ past) lane g j h =
    let may = may_of s past (entry.Added l c) j.0 (λ k m. cc (m.1.1)) (λ k same. cc same) in
    elim (eqb_tells l lane) [
      | inl t ↦ absurd (both_ways (was_let_go past lane) (ap (was_let_go past) (sym t.1) ∙ may.1) h)
      | inr t ↦ rw t.0 (let_go_idle s past lane g j.1 h)
    ]
let_go_idle s (entry.LetGo l ∷ past) lane g j h =
    let may = may_of s past (entry.LetGo l) j.0 (λ k m. cc (m.1.1)) (λ k same. cc same) in
    elim (eqb_tells l lane) [
      | inl t ↦ (subst (λ (k : ℕ). current s past k ≡ None) t.1 may.1, rw t.0 refl)
      | inr t ↦ rw t.0 (let_go_idle s past lane g j.1 (rw t.0 at h))
    ]
let_go_idle s (_ ∷ past) lane g j h = let_go_idle s past lane g j.1 h

got_none : (xs ys : List Call) (c : Call) (b : Bool) (n : ℕ) → slice_get (xs ++ (if b then ys ++ c ∷ [] else ys)) n
    ≡ None → slice_get (xs ++ ys) n ≡ None
got_none xs ys c false n e = e
got_none xs ys c true n e =
    elim (got_more (xs ++ ys) (c ∷ []) n) [
      | inl same ↦ sym same
          ∙ ap (λ calls. slice_get calls n) (append_assoc xs ys (c ∷ [])) ∙ e
      | inr none ↦ none
    ]

called_by : (s : Setting) (past : List Entry) (by : Owner) (id : ℕ) (r : Request) (lane call : ℕ)
    → IsNext s past (entry.Event (Submit by id r)) → is_by by lane call ≡ true → call_at s past lane call ≢ None
called_by s past (owner.Call l c) id r lane call next e = λ none.
    let may = next_submit s past l c id r next in
    let p = and_parts (l == lane) (c == call) e in
    let same : l ≡ lane = eqb-true l lane p.0 in
    let is : c ≡ call = eqb-true c call p.1 in
    let gone : current s past l ≡ None = subst (λ (k : ℕ). call_at s past l k ≡ None) (sym is ∙ may.0)
    (subst (λ (k : ℕ). call_at s past k call ≡ None) (sym same) none) in
    let still : move_of s past l ≡ None = ap (λ x. move_at x (site_of s past l) s.facts
    (own past l (count_ended past l)) (answer past)) gone in
    cc (may.1)
called_by s past owner.Setup id r lane call next e = absurd cc
called_by s past owner.Close id r lane call next e = absurd cc

-- what asked for something is a call of its lane
pub asker_called : (s : Setting) (past : List Entry) (lane call g : ℕ) → IsJournal s past
    → is_asked_by (asked_at past g) lane call ≡ true → call_at s past lane call ≢ None
asker_called s [] lane call g j e = absurd cc
asker_called s (entry.Event (Submit by id r) ∷ past) lane call g j e =
    elim (eqb_tells g (count_submitted past)) [
      | inl t ↦ called_by s past by id r lane call j.0 (rw t.0 at e)
      | inr t ↦
          asker_called s past lane call g j.1 (rw t.0 at e)
    ]
asker_called s (entry.Added l c ∷ past) lane call g j e = λ none. asker_called s past lane call g j.1 e
    (got_none (calls_of (slice_get s.lanes lane)) (calls_added_to past lane) c (l == lane) call none)
asker_called s (_ ∷ past) lane call g j e = asker_called s past lane call g j.1 e

-- once each lane was let go, nothing is held
over_unheld : (s : Setting) (past : List Entry) (g : ℕ) → IsJournal s past → IsOver s past → is_held s past g ≡ false
over_unheld s past g j over =
    false_from_ne_true (is_held s past g)
    (λ h. let who = any_where (holds s past g) (length s.lanes) h in
    let w : ℕ = who.0 in
    let idle = let_go_idle s past w g j (over.0 w who.1.0) in
    elim (or_cases (has_grant (held_site s past w) g) (is_unended_asker past w g) who.1.1) [
      | inl has ↦ both_ways (has_grant (site_of s past w) g) idle.1
          (held_less (current s past w) (own past w (count_ended past w)) (site_of s past w) g has)
      | inr asks ↦ asker_called s past w (count_ended past w) g j asks idle.0
    ])

-- ---- where the session is over

over_closed : (s : Setting) (past : List Entry) (g : ℕ) → IsJournal s past → IsOver s past → is_grant past g ≡ true
    → is_one_of (closed_grants s past) g ≡ true
over_closed s past g j over granted =
    let unheld : is_held s past g ≡ false = over_unheld s past g j over in
    not-false (is_one_of (closed_grants s past) g) (rw (granted, unheld) at
    (settled_each s past g (journals_settle s past j over.1)))

-- where the session is over each grant has one CLOSE
pub over_closed_exactly : (s : Setting) (past : List Entry) (g : ℕ) → IsJournal s past → IsOver s past
    → is_grant past g ≡ true → closes_of s past g ≡ 1
over_closed_exactly s past g j over granted =
    let most : closes_of s past g ≤ 1 = closed_once s past g j in
    let least : 1 ≤ closes_of s past g = some_counted (closed_grants s past) g (over_closed s past g j over granted)
    in omega arith

-- behind a whole run each grant has one CLOSE
pub closed_exactly : (s : Setting) (turns : List Turn) (past : List Entry) (g : ℕ) → IsRun s turns past
    → is_grant past g ≡ true → closes_of s past g ≡ 1
closed_exactly s turns past g run = over_closed_exactly s past g (runs_are_journals s turns past run)
    (runs_are_over s turns past run)

-- ---- handles

-- the reply brings the handle
abbrev brings : List ℕ → Option Reply → Bool
brings handle (Some (reply.Handle h)) = bytes_eq handle h
brings handle other = false

-- the place is that of a grant of the handle without a CLOSE
abbrev is_open : Setting → List Entry → List ℕ → ℕ → Bool
is_open s past handle place = not (is_one_of (closed_grants s past) place) && brings handle (answer past place)

brings_grant : (handle : List ℕ) (a : Option Reply) → brings handle a ≡ true → is_granted a ≡ true
brings_grant handle (Some (reply.Handle h)) e = refl
brings_grant handle other e = absurd cc

brings_of : (handle h : List ℕ) (a : Option Reply) → is_granted a ≡ true → handle_of a ≡ h → brings handle a
    ≡ bytes_eq handle h
brings_of handle h (Some (reply.Handle x)) granted e = ap (bytes_eq handle) e
brings_of handle h other granted e = absurd cc

granted_count : (handle : List ℕ) (r : Reply) (handles : List (List ℕ)) → times handle (with_granted r handles)
    ≡ (if brings handle (Some r) then 1 else 0) + times handle handles
granted_count handle (reply.Handle h) handles = count_by-cons (bytes_eq handle) h handles
granted_count handle other handles = omega arith

-- one test alone among the first n may pass in f alone
count_at : (f g : ℕ → Bool) (n p : ℕ) (b : Bool) → p < n → f p ≡ b → g p ≡ false → ((q : ℕ) → p ≢ q → g q ≡ f q)
    → count_below f n ≡ (if b then 1 else 0) + count_below g n
count_at f g n p true lt pass miss same = let more = count_one f g n p lt pass miss same in omega (arith, more)
count_at f g n p false lt pass miss same =
    let alike : count_below f n ≡ count_below g n = count_same f g n
    (λ q small. elim (eqb_tells p q) [
      | inl t ↦ ap f (sym t.1) ∙ pass ∙ sym miss ∙ ap g t.1
      | inr t ↦
          sym (same q t.1)
    ]) in omega arith

count_past : (f : ℕ → Bool) (n : ℕ) → f n ≡ false → count_below f (n + 1) ≡ count_below f n
count_past f n e = let next : n + 1 ≡ suc n = omega arith in ap (count_below f) next ∙ rw e (omega arith)

-- a handle was granted as often as it was closed and stands open
abbrev IsBalanced : Setting → List Entry → List ℕ → Type 0
IsBalanced s past handle = times handle (granted_handles past)
    ≡ times handle (closed_handles past) + count_below (is_open s past handle) (count_submitted past)

take_balance : (s : Setting) (past : List Entry) (id : ℕ) (r : Reply) (handle : List ℕ)
    → IsJournal s (entry.Event (Take id r) ∷ past) → IsBalanced s past handle
    → IsBalanced s (entry.Event (Take id r) ∷ past) handle
take_balance s past id r handle j old =
    let now : List Entry = entry.Event (Take id r) ∷ past in
    let may = (next_take s past id r j.0).0 in
    let p : ℕ = may.0 in
    let few : count_sent past ≤ count_submitted past = sent_asked past in
    let small : p < count_sent past = may.1.0.1 in
    let unclosed : is_one_of (closed_grants s past) p ≡ false = false_from_ne_true (is_one_of (closed_grants s past) p)
    (λ h. both_ways (is_grant past p) (ap is_granted may.1.0.2) (gone_unheld s past p j.1 h).0) in
    let opens : is_open s now handle p ≡ brings handle (Some r) =
    ap (λ b. not b && brings handle (answer now p)) unclosed ∙ ap (brings handle) (answer_new past id p r may.1.0.0)
    in
    let was : is_open s past handle p ≡ false = and_right (not (is_one_of (closed_grants s past) p))
    (brings handle (answer past p)) (ap (brings handle) may.1.0.2) in
    let counts = count_at (is_open s now handle) (is_open s past handle) (count_submitted past) p
    (brings handle (Some r)) (omega arith) opens was
    (λ q ne. ap (λ a. not (is_one_of (closed_grants s past) q) && brings handle a)
    (sym (answer_other past id p q r may.1.0.0 ne))) in
    let brought = granted_count handle r (granted_handles past) in
    omega (arith, counts, brought, old)

submit_balance : (s : Setting) (past : List Entry) (by : Owner) (id : ℕ) (r : Request) (handle : List ℕ)
    → IsJournal s (entry.Event (Submit by id r) ∷ past) → IsBalanced s past handle
    → IsBalanced s (entry.Event (Submit by id r) ∷ past) handle
submit_balance s past by id (request.Close h) handle j old =
    let now : List Entry = entry.Event (Submit by id (request.Close h)) ∷ past in
    let c : IsClosing s past by id h = closing s past by id h j (λ k. gone_unheld s past k j.1) in
    let g : ℕ = c.grant in
    let at : (q : ℕ) → is_open s now handle q ≡ (not (is_at (Some g) q || is_one_of (closed_grants s past) q)
    && brings handle (answer past q)) = λ q. ap (λ x. not (is_at x q || is_one_of (closed_grants s past) q)
    && brings handle (answer past q)) c.is in
    let was : is_open s past handle g ≡ bytes_eq handle h = ap (λ b. not b && brings handle (answer past g)) c.unclosed
    ∙ brings_of handle h (answer past g) c.unheld.0 c.bears in
    let counts = count_at (is_open s past handle) (is_open s now handle) (count_submitted past) g (bytes_eq handle h)
    (granted_below past g c.unheld.0) was (at g ∙ rw (eq-eqb g g refl) refl) (λ q ne. at q ∙ rw (ne_eqb g q ne) refl)
    in
    let more = count_by-cons (bytes_eq handle) h (closed_handles past) in
    let beyond = count_past (is_open s now handle) (count_submitted past)
    (and_right _ _ (ap (brings handle) (answer_beyond past (count_submitted past) (omega arith)))) in
    omega (arith, counts, more, beyond, old)
submit_balance s past by id other handle j old =
    old ∙ ap (λ n. times handle (closed_handles past) + n) (sym
    (count_past (is_open s past handle) (count_submitted past) (and_right _ _
    (ap (brings handle) (answer_beyond past (count_submitted past) (omega arith))))))

balance : (s : Setting) (past : List Entry) (handle : List ℕ) → IsJournal s past → IsBalanced s past handle
balance s [] handle j = refl
balance s (entry.Event (Submit by id r) ∷ past) handle j = submit_balance s past by id r handle j
    (balance s past handle j.1)
balance s (entry.Event (Take id r) ∷ past) handle j = take_balance s past id r handle j (balance s past handle j.1)
balance s (_ ∷ past) handle j = balance s past handle j.1

-- no handle was closed more often than it was granted
pub handles_most : (s : Setting) (past : List Entry) (handle : List ℕ) → IsJournal s past
    → times handle (closed_handles past) ≤ times handle (granted_handles past)
handles_most s past handle j = let sum = balance s past handle j in omega (arith, sum)

-- where the session is over each handle was closed as often as it was granted
pub over_handles_closed : (s : Setting) (past : List Entry) → IsJournal s past → IsOver s past → AreClosed past
over_handles_closed s past j over handle =
    let all : (k : ℕ) → is_open s past handle k ≡ true → ⊥ = λ k h.
    (let p = and_parts (not (is_one_of (closed_grants s past) k)) (brings handle (answer past k)) h in
    both_ways (is_one_of (closed_grants s past) k) (not-true (is_one_of (closed_grants s past) k) p.0)
    (over_closed s past k j over (brings_grant handle (answer past k) p.1))) in
    let none : count_below (is_open s past handle) (count_submitted past) ≡ 0 =
    elim (cases_eq (count_below (is_open s past handle) (count_submitted past)) 0) [
      | inl is ↦ is
      | inr ne ↦ (let some = count_some (is_open s past handle) (count_submitted past) (omega (arith, ne)) in
          absurd (all some.0 some.1.1))
    ] in
    let sum = balance s past handle j in omega (arith, sum, none)

-- behind a whole run each handle was closed as often as it was granted
pub handles_closed : (s : Setting) (turns : List Turn) (past : List Entry) → IsRun s turns past → AreClosed past
handles_closed s turns past run = over_handles_closed s past (runs_are_journals s turns past run)
    (runs_are_over s turns past run)
