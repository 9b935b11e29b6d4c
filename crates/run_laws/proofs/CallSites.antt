-- What a lane holds between two of its calls, and what an `open` and a `buffer` that ended well left of a slot.
use Rattle.std.proofs.Common.{
  append_assoc,
  ◌≡◌,
  ◌≢◌,
  ◌<◌,
  ◌≤◌,
  ◌+◌,
  ◌==◌,
  ℕ,
  zero,
  suc,
  Bool,
  true,
  false,
  List,
  [],
  ◌∷◌,
  ◌++◌,
  length,
  Option,
  Some,
  None,
  if◌then◌else◌,
  refl,
  ap,
  sym,
  ◌∙◌,
  subst,
  arith,
  inl,
  inr,
}
use Rattle.std.specs.Prelude.{slice_get}
use Rattle.std.proofs.lemmas.Bool.Decides.{eqb_tells}
use Rattle.std.proofs.lemmas.List.{append-nil}
use Rattle.sftp_model.specs.declared.outcome.Outcome.{Outcome}
use Rattle.sftp_model.specs.declared.reply.Reply.{Reply}
use Rattle.sftp_model.specs.declared.slot.Move.TheVariants.{Done}
use Rattle.plan_model.specs.declared.call.Call.{Call}
use Rattle.session_model.specs.declared.entry.Entry.{Entry}
use Rattle.session_model.specs.declared.entry.Entry.TheVariants as entry
use Rattle.session_model.specs.declared.event.Event.TheVariants.{End}
use Rattle.session_model.specs.Calls.{Setting, call_at, calls_of, current, move_at, site_of}
use Rattle.session_model.specs.Journals.{IsJournal, MayCome}
use Rattle.session_model.specs.Readings.{answer, count_ended, outcomes_of, own}
use Rattle.session_model.proofs.CallLaws.{end_site, ended_end}
use Rattle.session_model.proofs.HolderLaws.{may_of}
use Rattle.run_laws.specs.Listings.{site_at}
use Rattle.run_laws.proofs.JournalCalls.{answers_stay, ended_grows, own_stays, site_later, site_now}
use Rattle.run_laws.proofs.PlainRuns.{IsPlain, plain_calls}
use Rattle.run_laws.specs.RoundTrips.{outcome_at}
use Rattle.run_laws.proofs.CallEnds.{EndsAt, outcomes_count}
use Rattle.run_laws.proofs.CallRequests.{journal_before}
use Rattle.run_laws.proofs.LaneCalls.{call_stays}
use Rattle.plan_model.specs.CallPlans.{next}

-- ---- outcomes so far

outcomes_grow : (more before : List Entry) (lane : ℕ) → (later : List Outcome)
    × (outcomes_of (more ++ before) lane ≡ outcomes_of before lane ++ later)
outcomes_grow [] before lane = ([], sym (append-nil (outcomes_of before lane)))
outcomes_grow (entry.Event (End l k o) ∷ more) before lane = by_test (l == lane) (outcomes_grow more before lane)
  where
    by_test : (b : Bool) → (later : List Outcome) × (outcomes_of (more ++ before) lane ≡ outcomes_of before lane
        ++ later)
        → (later : List Outcome) × ((if b then outcomes_of (more ++ before) lane ++ o ∷ [] else
        outcomes_of (more ++ before) lane) ≡ outcomes_of before lane ++ later)
    by_test true old = (
      old.0 ++ o ∷ [],
      ap (λ (xs : List Outcome). xs ++ o ∷ []) old.1
          ∙ append_assoc (outcomes_of before lane) old.0 (o ∷ []),
    )
    by_test false old = old
outcomes_grow (_ ∷ more) before lane = outcomes_grow more before lane

got_front : {A : Type 0} (xs ys : List A) (k : ℕ) (x : A) → slice_get (xs ++ ys) k ≡ Some x → k < length xs
    → slice_get xs k ≡ Some x
got_front [] ys k x e lt = absurd (omega (arith, lt))
got_front (y ∷ xs) ys zero x e lt = e
got_front (y ∷ xs) ys (suc k) x e lt = got_front xs ys k x e (omega (arith, lt))

-- the outcome of a call that had ended before
pub outcome_before : (more before : List Entry) (lane k : ℕ) (o : Outcome) → outcome_at (more ++ before) lane k ≡ Some o
    → k < count_ended before lane → outcome_at before lane k ≡ Some o
outcome_before more before lane k o e lt =
    let g = outcomes_grow more before lane in
    let n : length (outcomes_of before lane) ≡ count_ended before lane = outcomes_count before lane in
    got_front (outcomes_of before lane) g.0 k o (ap (λ (xs : List Outcome). slice_get xs k) (sym g.1) ∙ e)
    (omega (arith, lt, n))

-- ---- plain journals

pub plain_before : (more before : List Entry) → IsPlain (more ++ before) → IsPlain before
plain_before [] before p = p
plain_before (entry.Added lane c ∷ more) before p = absurd p
plain_before (_ ∷ more) before p = plain_before more before p

-- the calls of a lane that were handed in
abbrev pub given_call : Setting → ℕ → ℕ → Option Call
given_call s lane k = slice_get (calls_of (slice_get s.lanes lane)) k

pub plain_call : (s : Setting) (past : List Entry) (lane k : ℕ) (c : Call) → IsPlain past → given_call s lane k ≡ Some c
    → call_at s past lane k ≡ Some c
plain_call s past lane k c p e = ap (λ (calls : List Call). slice_get calls k) (plain_calls s past lane p) ∙ e

-- ---- the site within a call

-- what a lane holds stays until its call has ended
site_stays : (s : Setting) (more before : List Entry) (lane : ℕ) (c : Call) → IsJournal s (more ++ before)
    → count_ended (more ++ before) lane ≡ count_ended before lane → call_at s before lane (count_ended before lane)
    ≡ Some c
    → site_of s (more ++ before) lane ≡ site_of s before lane
site_stays s [] before lane c j at is = refl
site_stays s (entry.Event (End l k p) ∷ more) before lane c j at is =
    elim (eqb_tells l lane) [
      | inl t ↦ absurd (let now : count_ended (more ++ before) lane + 1 ≡ count_ended before lane = rw t.0 at at in
          let grows : count_ended before lane ≤ count_ended (more ++ before) lane = ended_grows more before lane in
          omega (arith, now, grows))
      | inr t ↦ rw t.0 (site_stays s more before lane c j.1 (rw t.0 at at) is)
    ]
site_stays s (entry.LetGo l ∷ more) before lane c j at is =
    elim (eqb_tells l lane) [
      | inl t ↦ absurd (gone (subst (λ (x : ℕ). current s (more ++ before) x ≡ None) t.1 may.1))
      | inr t ↦ rw t.0 (site_stays s more before lane c j.1 at is)
    ]
  where
    may : MayCome s (more ++ before) (entry.LetGo l)
    may = may_of s (more ++ before) (entry.LetGo l) j.0 (λ g m. cc (m.1.1)) (λ la e. cc e)

    there : current s (more ++ before) lane ≡ Some c
    there = ap (call_at s (more ++ before) lane) at ∙ call_stays s more before lane (count_ended before lane) c is

    gone : current s (more ++ before) lane ≡ None → ⊥
    gone none = (let both : None ≡ Some c = sym none ∙ there in cc)
site_stays s (entry.Added l d ∷ more) before lane c j at is = site_stays s more before lane c j.1 at is
site_stays s (_ ∷ more) before lane c j at is = site_stays s more before lane c j.1 at is

-- and is what it held as the call began
pub site_within : (s : Setting) (more before : List Entry) (lane k : ℕ) (c : Call) → IsJournal s (more ++ before)
    → count_ended before lane ≡ k → call_at s before lane k ≡ Some c → site_at s (more ++ before) lane k
    ≡ site_of s before lane
site_within s [] before lane k c j at is = subst (λ (n : ℕ). site_at s before lane n ≡ site_of s before lane) at
    (site_now s before lane)
site_within s (e ∷ more) before lane k c j at is =
    elim (eqb_tells (count_ended (e ∷ (more ++ before)) lane) k) [
      | inl t ↦ subst (λ (n : ℕ). site_at s (e ∷ (more ++ before)) lane n ≡ site_of s (e ∷ (more ++ before)) lane) t.1
          (site_now s (e ∷ (more ++ before)) lane)
          ∙ site_stays s (e ∷ more) before lane c j (t.1 ∙ sym at)
          (subst (λ (n : ℕ). call_at s before lane n ≡ Some c) (sym at) is)
      | inr t ↦ site_later s e (more ++ before) lane k (let grows : count_ended before lane ≤ count_ended
          ((e ∷ more) ++ before)
          lane = ended_grows (e ∷ more) before lane in let ne : count_ended (e ∷ (more ++ before)) lane ≢ k = t.1 in
          omega (arith, grows, ne, at))
          ∙ site_within s more before lane k c j.1 at is
    ]

-- ---- the site after an end

-- what an end left is what the lane holds until its next one
pub site_left : (s : Setting) (past : List Entry) (lane k : ℕ) (o : Outcome) (c : Call) (t : EndsAt s past lane k o)
    → IsJournal s past → IsPlain past → count_ended past lane ≡ k + 1 → given_call s lane (k + 1) ≡ Some c
    → site_of s past lane ≡ t.site
site_left s past lane k o c t j p at is =
    let end : Entry = entry.Event (End lane (count_ended t.before lane) o) in
    let whole : List Entry = t.more ++ end ∷ t.before in
    let plain : IsPlain (end ∷ t.before) = plain_before t.more (end ∷ t.before) (subst IsPlain (sym t.is) p) in
    let one : count_ended (end ∷ t.before) lane ≡ k + 1 = (let here = t.at in
    let step : count_ended (end ∷ t.before) lane
    ≡ count_ended t.before lane + 1 = ended_end t.before lane (count_ended t.before lane) o in
    omega (arith, here, step)) in
    let count : count_ended whole lane ≡ count_ended (end ∷ t.before) lane =
    ap (λ (l : List Entry). count_ended l lane) t.is ∙ (at ∙ sym one) in
    let next_is : call_at s (end ∷ t.before) lane (count_ended (end ∷ t.before) lane) ≡ Some c =
    subst (λ (n : ℕ). call_at s (end ∷ t.before) lane n ≡ Some c) (sym one)
    (plain_call s (end ∷ t.before) lane (k + 1) c plain is) in
    ap (λ (l : List Entry). site_of s l lane) (sym t.is) ∙ (site_stays s t.more (end ∷ t.before) lane c
    (subst (IsJournal s) (sym t.is) j) count next_is ∙ end_site s t.before lane o t.site t.calm t.moves)

-- ---- the call that ended there

-- the call's plan was done
pub plan_done : (s : Setting) (past : List Entry) (lane k : ℕ) (o : Outcome) (c : Call) (t : EndsAt s past lane k o)
    → IsPlain past → given_call s lane k ≡ Some c
    → (current s t.before lane ≡ Some c) × (next c (site_of s t.before lane) s.facts
    (own t.before lane (count_ended t.before lane)) (answer t.before) ≡ Done o t.site)
plan_done s past lane k o c t p is =
    let end : Entry = entry.Event (End lane (count_ended t.before lane) o) in
    let plain : IsPlain t.before = plain_before (end ∷ []) t.before
    (plain_before t.more (end ∷ t.before) (subst IsPlain (sym t.is) p)) in
    let now : current s t.before lane ≡ Some c = subst (λ (n : ℕ). call_at s t.before lane n ≡ Some c) (sym t.at)
    (plain_call s t.before lane k c plain is) in
    let moves : move_at (Some c) (site_of s t.before lane) s.facts (own t.before lane (count_ended t.before lane))
    (answer t.before) ≡ Some (Done o t.site) =
    ap (λ (x : Option Call). move_at x (site_of s t.before lane) s.facts (own t.before lane (count_ended t.before lane))
    (answer t.before)) (sym now) ∙ t.moves
    in (now, cc moves)

-- what a call had asked before is what it asked
pub own_since : (s : Setting) (past : List Entry) (lane n m : ℕ) (o : Outcome) (t : EndsAt s past lane n o)
    → IsJournal s past → m < n + 1 → own past lane m ≡ own t.before lane m
own_since s past lane n m o t j lt =
    let end : Entry = entry.Event (End lane (count_ended t.before lane) o) in
    let one : count_ended (end ∷ t.before) lane ≡ count_ended t.before lane + 1 =
    ended_end t.before lane (count_ended t.before lane) o in
    let further : m < count_ended (end ∷ t.before) lane = (let here = t.at in omega (arith, lt, one, here)) in
    ap (λ (l : List Entry). own l lane m) (sym t.is) ∙ own_stays s t.more (end ∷ t.before) lane m
    (subst (IsJournal s) (sym t.is) j) further

pub answer_since : (s : Setting) (past : List Entry) (lane n : ℕ) (o : Outcome) (t : EndsAt s past lane n o)
    → IsJournal s past → (place : ℕ) (r : Reply) → answer t.before place ≡ Some r → answer past place ≡ Some r
answer_since s past lane n o t j place r e =
    let end : Entry = entry.Event (End lane (count_ended t.before lane) o) in
    subst (λ (l : List Entry). answer l place ≡ Some r) t.is (answers_stay s t.more (end ∷ t.before)
    (subst (IsJournal s) (sym t.is) j) place r e)

pub journal_at : (s : Setting) (past : List Entry) (lane n : ℕ) (o : Outcome) (t : EndsAt s past lane n o)
    → IsJournal s past → IsJournal s t.before
journal_at s past lane n o t j = let at_end : IsJournal s (entry.Event (End lane (count_ended t.before lane) o) ∷
    t.before) =
    journal_before s t.more (entry.Event (End lane (count_ended t.before lane) o) ∷ t.before)
    (subst (IsJournal s) (sym t.is) j) in at_end.1

pub plain_at : (s : Setting) (past : List Entry) (lane n : ℕ) (o : Outcome) (t : EndsAt s past lane n o) → IsPlain past
    → IsPlain t.before
plain_at s past lane n o t p = plain_before (entry.Event (End lane (count_ended t.before lane) o) ∷ []) t.before
    (plain_before t.more (entry.Event (End lane (count_ended t.before lane) o) ∷ t.before) (subst IsPlain (sym t.is) p))

-- an earlier call's outcome was reported before
pub outcome_at_end : (s : Setting) (past : List Entry) (lane n k : ℕ) (o q : Outcome) (t : EndsAt s past lane n o)
    → k < n → outcome_at past lane k ≡ Some q → outcome_at t.before lane k ≡ Some q
outcome_at_end s past lane n k o q t lt e =
    let end : Entry = entry.Event (End lane (count_ended t.before lane) o) in
    let one : count_ended (end ∷ t.before) lane ≡ count_ended t.before lane + 1 =
    ended_end t.before lane (count_ended t.before lane) o in
    let here : count_ended t.before lane ≡ n = t.at in
    outcome_before (end ∷ []) t.before lane k q (outcome_before t.more (end ∷ t.before) lane k q
    (subst (λ (l : List Entry). outcome_at l lane k ≡ Some q) (sym t.is) e) (omega (arith, lt, one, here)))
    (omega (arith, lt, here))
