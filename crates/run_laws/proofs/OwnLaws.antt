-- The requests of a call by their places.
use Rattle.std.proofs.Common.{◌≡◌, ◌==◌, ◌+◌, ℕ, Bool, true, false, List, [], ◌∷◌, ◌++◌, Some, if◌then◌else◌, refl, ap, sym, ◌∙◌, subst, arith, inl, inr}
use Rattle.std.proofs.lemmas.Bool.{and_parts, eq-eqb, eqb-true, or_left, or_right}
use Rattle.std.proofs.lemmas.Bool.Decides.{eqb_tells}
use Rattle.sftp_model.specs.declared.request.Request.{Request}
use Rattle.sftp_model.specs.declared.request.Request.TheVariants as request
use Rattle.plan_model.specs.Moves.{Own}
use Rattle.session_model.specs.declared.entry.Entry.{Entry}
use Rattle.session_model.specs.declared.entry.Entry.TheVariants as entry
use Rattle.session_model.specs.declared.event.Event.TheVariants.{Submit}
use Rattle.session_model.specs.declared.event.Owner.{Owner}
use Rattle.session_model.specs.declared.event.Owner.TheVariants as owner
use Rattle.session_model.specs.Calls.{Setting, current, site_of}
use Rattle.session_model.specs.Grants.{is_asked_by}
use Rattle.session_model.specs.Journals.{IsJournal}
use Rattle.session_model.specs.Readings.{AskedRequest, answer, count_submitted, asked_at, count_ended, is_by, own}
use Rattle.session_model.proofs.CallLaws.{asker_owns, has_place, next_submit}
use Rattle.session_model.proofs.HolderLaws.{own_asked}
use Rattle.session_model.proofs.PlannedLaws.{asks_close}
use Rattle.session_model.proofs.RequestLaws.{asked_new, asked_other}
use Rattle.run_laws.proofs.SentLaws.{AreKnown, AreRising, known_as, known_push, rising_push}
use Rattle.run_laws.proofs.ServedSteps.{HasRequest}
use Rattle.run_laws.proofs.UsedLaws.{front_of, some_is}

-- a call's requests stand in the order of their places
pub own_listed : (past : List Entry) (lane n : ℕ) → AreRising (own past lane n)
    × AreKnown past (count_submitted past) (own past lane n)
own_listed [] lane n = (tt, tt)
own_listed (entry.Event (Submit by id q) ∷ past) lane n = by_test (is_by by lane n) (own_listed past lane n)
  where
    now : List Entry
    now = entry.Event (Submit by id q) ∷ past

    later : AreKnown past (count_submitted past) (own past lane n)
        → AreKnown now (count_submitted past + 1) (own past lane n)
    later known = known_as past now (count_submitted past) (count_submitted past + 1) (own past lane n) (omega arith)
        (λ place lt. asked_other past by id place q lt) known

    by_test : (b : Bool) → AreRising (own past lane n) × AreKnown past (count_submitted past) (own past lane n)
        → AreRising (if b then own past lane n ++ (count_submitted past, q) ∷ [] else own past lane n)
        × AreKnown now (count_submitted past + 1) (if b then own past lane n ++ (count_submitted past, q) ∷ [] else
        own past lane n)
    by_test false l = (l.0, later l.1)
    by_test true l = (
      rising_push past (count_submitted past) q (own past lane n) l.0 l.1,
      known_push now (count_submitted past + 1) (own past lane n) (count_submitted past, q) (later l.1)
          (omega arith, (record { by = by; id = id; request = q }, (asked_new past by id q, refl))),
    )
own_listed (e ∷ past) lane n = let l = own_listed past lane n in (
  l.0,
  known_as past (e ∷ past) (count_submitted past) (count_submitted past) (own past lane n) (omega arith)
      (λ place lt. refl) l.1,
)

-- ---- which requests are a call's

place_has : (o : Own) (place : ℕ) → has_place o place ≡ true → HasRequest o place
place_has [] place e = absurd cc
place_has (a ∷ o) place e = elim (eqb_tells a.0 place) [
  | inl t ↦ inl t.1
  | inr t ↦
      inr (place_has o place (rw t.0 at e))
]

has_it : (o : Own) (place : ℕ) → HasRequest o place → has_place o place ≡ true
has_it [] place has = absurd has
has_it (a ∷ o) place (inl e) = or_left (a.0 == place) (has_place o place) (eq-eqb a.0 place e)
has_it (a ∷ o) place (inr h) = or_right (a.0 == place) (has_place o place) (has_it o place h)

pub call_has : (past : List Entry) (lane n place : ℕ) (own_is : Own) → own past lane n ≡ own_is
    → is_asked_by (asked_at past place) lane n ≡ true → HasRequest own_is place
call_has past lane n place own_is is mine = subst (λ (o : Own). HasRequest o place) is
    (place_has (own past lane n) place (asker_owns past lane n place mine))

pub has_call : (past : List Entry) (lane n place : ℕ) (own_is : Own) → own past lane n ≡ own_is
    → HasRequest own_is place → is_asked_by (asked_at past place) lane n ≡ true
has_call past lane n place own_is is has = own_asked past lane n place
    (has_it (own past lane n) place (subst (λ (o : Own). HasRequest o place) (sym is) has))

-- ---- a CLOSE is the first request of its call

closing_first : (s : Setting) (past : List Entry) (by : Owner) (id lane n : ℕ) (h : List ℕ) (first : ℕ × Request)
    (later : Own) → IsJournal s (entry.Event (Submit by id (request.Close h)) ∷ past) → is_by by lane n ≡ true
    → own past lane n ++ (count_submitted past, request.Close h) ∷ [] ≡ first ∷ later → count_submitted past ≡ first.0
closing_first s past (owner.Call l c) id lane n h first later j test is =
    let both = and_parts (l == lane) (c == n) test in
    let at_lane : l ≡ lane = eqb-true l lane both.0 in
    let at_call : c ≡ n = eqb-true c n both.1 in
    let may = next_submit s past l c id (request.Close h) j.0 in
    let a = asks_close (current s past l) (site_of s past l) s.facts (own past l (count_ended past l)) (answer past) h
    may.1 in
    let none : own past l c ≡ [] = ap (own past l) may.0 ∙ a.1.1.fresh in
    let empty : own past lane n ≡ [] = subst (λ (k : ℕ). own past k n ≡ []) at_lane
    (subst (λ (k : ℕ). own past l k ≡ []) at_call none) in
    elim (front_of (own past lane n) (count_submitted past, request.Close h) first later is) [
      | inl new ↦ ap (λ (x : ℕ × Request). x.0) new.1
      | inr old ↦ absurd (let clash : [] ≡ first ∷ old.0 = sym empty ∙ old.1 in cc)
    ]
closing_first s past owner.Setup id lane n h first later j test is = absurd cc
closing_first s past owner.Close id lane n h first later j test is = absurd cc

pub close_is_first : (s : Setting) (past : List Entry) (lane n place : ℕ) (a : AskedRequest) (h : List ℕ)
    (first : ℕ × Request)
    (later : Own) → IsJournal s past → own past lane n ≡ first ∷ later → is_asked_by (asked_at past place) lane n ≡ true
    → asked_at past place ≡ Some a → a.request ≡ request.Close h → place ≡ first.0
close_is_first s [] lane n place a h first later j is mine at closes = absurd cc
close_is_first s (entry.Event (Submit by id q) ∷ past) lane n place a h first later j is mine at closes =
    elim (eqb_tells place (count_submitted past)) [
      | inl t ↦ (let same = some_is (record { by = by; id = id; request = q }) a (rw t.0 at at) in
          let request_is : q ≡ request.Close h = ap (λ (x : AskedRequest). x.request) same ∙ closes in
          let test : is_by by lane n ≡ true = rw t.0 at mine in
          let here : own past lane n ++ (count_submitted past, q) ∷ [] ≡ first ∷ later = rw test at is in
          t.1 ∙ closing_first s past by id lane n h first later (subst
          (λ (r : Request). IsJournal s (entry.Event (Submit by id r) ∷ past)) request_is j) test
          (subst (λ (r : Request). own past lane n ++ (count_submitted past, r) ∷ [] ≡ first ∷ later) request_is here))
      | inr t ↦ by_test (is_by by lane n) is (rw t.0 at mine) (λ l e old. close_is_first s past lane n place a h first l
          j.1 e old (rw t.0 at at) closes)
    ]
  where
    by_test : (b : Bool) → (if b then own past lane n ++ (count_submitted past, q) ∷ [] else own past lane n)
        ≡ first ∷ later
        → is_asked_by (asked_at past place) lane n ≡ true
        → ((l : Own) → own past lane n ≡ first ∷ l → is_asked_by (asked_at past place) lane n ≡ true → place ≡ first.0)
        → place ≡ first.0
    by_test false is old again = again later is old
    by_test true is old again =
        elim (front_of (own past lane n) (count_submitted past, q) first later is) [
          | inl none ↦ absurd (let has = asker_owns past lane n place old in let clash : false ≡ true =
              sym (ap (λ (o : Own). has_place o place) none.0) ∙ has in cc)
          | inr some ↦ again some.0 some.1 old
        ]
close_is_first s (_ ∷ past) lane n place a h first later j is mine at closes =
    close_is_first s past lane n place a h first later j.1 is mine at closes
