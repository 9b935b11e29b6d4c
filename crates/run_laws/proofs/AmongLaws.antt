-- The requests of a call stand among those of others in a run that serves a journal.
use Rattle.std.proofs.Common.{
  ◌≡◌,
  ◌≢◌,
  ◌<◌,
  ◌≤◌,
  ◌==◌,
  ℕ,
  Bool,
  true,
  false,
  not,
  List,
  [],
  ◌∷◌,
  ◌++◌,
  Option,
  Some,
  if◌then◌else◌,
  refl,
  ap,
  sym,
  ◌∙◌,
  subst,
  arith,
  inl,
  inr,
}
use Rattle.std.specs.Prelude.{◌&&◌}
use Rattle.std.proofs.lemmas.Bool.{and_parts, false_from_ne_true, ne_eqb}
use Rattle.std.proofs.lemmas.Bool.Decides.{eqb_tells}
use Rattle.sftp_model.specs.declared.reply.Reply.TheVariants as reply
use Rattle.sftp_model.specs.declared.request.Request.{Request}
use Rattle.sftp_model.specs.declared.request.Request.TheVariants as request
use Rattle.machine_model.specs.Components.{Name}
use Rattle.plan_model.specs.Moves.{Answers, Own}
use Rattle.session_model.specs.declared.entry.Entry.{Entry}
use Rattle.session_model.specs.Calls.{Setting}
use Rattle.session_model.specs.Grants.{is_asked_by}
use Rattle.session_model.specs.Journals.{IsJournal}
use Rattle.session_model.specs.Readings.{AskedRequest, answer, count_submitted, asked_at, own}
use Rattle.run_laws.specs.Bearing.{grant_used_at}
use Rattle.run_laws.specs.CallsAmong.{asked_by}
use Rattle.run_laws.specs.GrantUses.{AreAmong, IsCallOn, PassesBy}
use Rattle.run_laws.specs.Steps.{Step, asked_in}
use Rattle.run_laws.proofs.CutLaws.{known_has, known_parts, above_parts, has_parts, one_at, rising_parts}
use Rattle.run_laws.proofs.OwnLaws.{call_has, close_is_first, has_call, own_listed}
use Rattle.run_laws.proofs.SentLaws.{AllAbove, AreAll, AreKnown, AreRising, IsAt}
use Rattle.run_laws.proofs.ServedSteps.{HasRequest}
use Rattle.run_laws.proofs.UseLaws.{MayBeUsed, UseWell, above_has}
use Rattle.run_laws.proofs.UsedLaws.{open_own, some_is}

-- ---- the grant of a call that opens first

-- a call whose further requests use what its first one brought
pub record Brings (past : List Entry) (lane n : ℕ) (first : ℕ × Request) (later : Own) : Type 0 where
  pub own_is : own past lane n ≡ first ∷ later
  pub granted : (place : ℕ) → HasRequest later place → (h : List ℕ) × (answer past first.0 ≡ Some (reply.Handle h))

-- the call's further requests use it, the others what they used
abbrev pub with_own : List Entry → ℕ → ℕ → ℕ → (ℕ → Option ℕ) → ℕ → Option ℕ
with_own past lane n first grant_of place = if is_asked_by (asked_at past place) lane n && not (place == first) then
    Some first else grant_of place

pub later_above : (past : List Entry) (lane n place : ℕ) (first : ℕ × Request) (later : Own) → own past lane n
    ≡ first ∷ later → HasRequest later place → first.0 < place
later_above past lane n place first later is has =
    let rising : AreRising (first ∷ later) = subst AreRising is (own_listed past lane n).0 in
    above_has first.0 place later rising.0 has

later_is : (past : List Entry) (lane n place : ℕ) (first : ℕ × Request) (later : Own) → own past lane n ≡ first ∷ later
    → is_asked_by (asked_at past place) lane n ≡ true → place ≢ first.0 → HasRequest later place
later_is past lane n place first later is mine apart = elim (call_has past lane n place (first ∷ later) is mine)
    [ inl e ↦ absurd (apart (sym e)) | inr h ↦ h ]

-- what stands before a call's first request is none of its own
pub not_begun : (past : List Entry) (lane n place : ℕ) (first : ℕ × Request) (later : Own) → own past lane n
    ≡ first ∷ later → place < first.0 → is_asked_by (asked_at past place) lane n ≡ false
not_begun past lane n place first later is lt =
    false_from_ne_true (is_asked_by (asked_at past place) lane n)
    (λ mine. by_has (call_has past lane n place (first ∷ later) is mine))
  where
    by_has : HasRequest (first ∷ later) place → ⊥
    by_has (inl e) = (let here : first.0 ≡ place = e in omega (arith, lt, here))
    by_has (inr h) = (let above : first.0 < place = later_above past lane n place first later is h in
        omega (arith, lt, above))

-- nor is what stands behind it and isn't one of its further ones
pub not_own : (past : List Entry) (lane n place : ℕ) (first : ℕ × Request) (later : Own) → own past lane n
    ≡ first ∷ later → first.0 < place → (HasRequest later place → ⊥) → is_asked_by (asked_at past place) lane n ≡ false
not_own past lane n place first later is above out =
    false_from_ne_true (is_asked_by (asked_at past place) lane n)
    (λ mine. by_has (call_has past lane n place (first ∷ later) is mine))
  where
    by_has : HasRequest (first ∷ later) place → ⊥
    by_has (inl e) = (let here : first.0 ≡ place = e in omega (arith, above, here))
    by_has (inr h) = out h

not_first : (place first : ℕ) → not (place == first) ≡ true → place ≢ first
not_first place first e = elim (eqb_tells place first) [
  | inl t ↦ absurd (let clash : false ≡ true = rw t.0 at e in cc)
  | inr t ↦ t.1
]

pub own_with : (past : List Entry) (lane n place : ℕ) (first : ℕ × Request) (later : Own) (grant_of : ℕ → Option ℕ)
    → own past lane n ≡ first ∷ later → HasRequest later place → with_own past lane n first.0 grant_of place
    ≡ Some first.0
own_with past lane n place first later grant_of is has =
    let lt : first.0 < place = later_above past lane n place first later is has in
    rw (
      has_call past lane n place (first ∷ later) is (inr has),
      ne_eqb place first.0 (λ same. absurd (omega (arith, lt, same))),
    ) refl

pub other_with : (past : List Entry) (lane n place first : ℕ) (grant_of : ℕ → Option ℕ)
    → is_asked_by (asked_at past place) lane n ≡ false → with_own past lane n first grant_of place ≡ grant_of place
other_with past lane n place first grant_of e = rw e refl

pub with_own_well : (s : Setting) (past : List Entry) (lane n : ℕ) (first : ℕ × Request) (later : Own)
    (grant_of : ℕ → Option ℕ) → IsJournal s past → Brings past lane n first later → UseWell s past grant_of
    → UseWell s past (with_own past lane n first.0 grant_of)
with_own_well s past lane n first later grant_of j b well = record { may = may; closes = closes }
  where
    own_may : (place g : ℕ) → is_asked_by (asked_at past place) lane n ≡ true → place ≢ first.0 → first.0 ≡ g
        → MayBeUsed s past place g
    own_may place g mine apart same =
        let has : HasRequest later place = later_is past lane n place first later b.own_is mine apart in
        let brought = b.granted place has in
        subst (MayBeUsed s past place) same
        (record {
          before = later_above past lane n place first later b.own_is has;
          lane = lane;
          call = n;
          asker = has_call past lane n first.0 (first ∷ later) b.own_is (inl refl);
          handle = brought.0;
          came = brought.1;
          unclosed = open_own s past lane n place first later j b.own_is mine;
        })

    may : (place g : ℕ) → place < count_submitted past → with_own past lane n first.0 grant_of place ≡ Some g
        → MayBeUsed s past place g
    may place g below e = by_test (is_asked_by (asked_at past place) lane n && not (place == first.0)) refl e
      where
        by_test : (t : Bool) → (is_asked_by (asked_at past place) lane n && not (place == first.0)) ≡ t
            → (if t then Some first.0 else grant_of place) ≡ Some g → MayBeUsed s past place g
        by_test true is e = let both = and_parts (is_asked_by (asked_at past place) lane n) (not (place == first.0)) is
            in own_may place g both.0 (not_first place first.0 both.1) (some_is first.0 g e)
        by_test false is e = well.may place g below e

    closes : (place : ℕ) (a : AskedRequest) (h : List ℕ) → asked_at past place ≡ Some a → a.request ≡ request.Close h
        → with_own past lane n first.0 grant_of place ≡ grant_used_at s past place h
    closes place a h at close = by_test (is_asked_by (asked_at past place) lane n && not (place == first.0)) refl
      where
        by_test : (t : Bool) → (is_asked_by (asked_at past place) lane n && not (place == first.0)) ≡ t
            → (if t then Some first.0 else grant_of place) ≡ grant_used_at s past place h
        by_test true is =
            let both = and_parts (is_asked_by (asked_at past place) lane n) (not (place == first.0)) is in
            absurd (not_first place first.0 both.1 (close_is_first s past lane n place a h first later j b.own_is both.0
            at close))
        by_test false is = well.closes place a h at close

-- ---- requests among others

-- Steps from a place on, in which the rest of a call's requests stand, each using the grant; what is none of the call's
-- passes by.
pub among_by : (past : List Entry) (hi m lo from : ℕ) (answers : Answers) (grant_of : ℕ → Option ℕ)
    (elsewhere : ℕ → Bool) (name : Name) (grant : ℕ) (all : Own) (steps : List Step) (later : Own)
    → from ≤ lo → AllAbove lo (asked_in steps) → AreRising (asked_in steps) → AreKnown past hi (asked_in steps)
    → AreRising later → AreKnown past m later
    → ((place : ℕ) → HasRequest later place → HasRequest (asked_in steps) place)
    → ((place : ℕ) → lo < place → HasRequest all place → HasRequest later place)
    → ((place : ℕ) → HasRequest later place → grant_of place ≡ Some grant)
    → ((t : Step) → IsAt past (asked_by t) → from < t.place → t.place < hi → (HasRequest all t.place → ⊥)
    → PassesBy answers grant_of elsewhere name t) → AreAmong answers grant_of elsewhere name grant later steps
among_by past hi m lo from answers grant_of elsewhere name grant all [] [] le above rising known rising' known' within
    sub own_use others = tt
among_by past hi m lo from answers grant_of elsewhere name grant all [] (a ∷ later) le above rising known rising' known'
    within sub own_use others = absurd (within a.0 (inl refl))
among_by past hi m lo from answers grant_of elsewhere name grant all (s ∷ steps) [] le above rising known rising' known'
    within sub own_use others = (
      others s known.0.1 (let lt : lo < s.place = above.0 in omega (arith, le, lt)) known.0.0
          (λ h. sub s.place above.0 h),
      among_by past hi m s.place from answers grant_of elsewhere name grant all steps []
          (let lt : lo < s.place = above.0 in omega (arith, le, lt)) rising.0 rising.1 known.1 tt tt
          (λ place h. absurd h)
          (λ place lt h. sub place (let low : lo < s.place = above.0 in omega (arith, low, lt)) h) own_use others,
    )
among_by past hi m lo from answers grant_of elsewhere name grant all (s ∷ steps) (a ∷ later) le above rising known
    rising' known' within sub own_use others =
    elim (eqb_tells s.place a.0) [
      | inl t ↦ inl (
        t.1,
        one_at past (asked_by s) a known.0.1 known'.0.1 t.1,
        ap grant_of t.1 ∙ own_use a.0 (inl refl),
        among_by past hi m s.place from answers grant_of elsewhere name grant all steps later here rising.0 rising.1
            known.1 rising'.1 known'.1
            (λ place h. elim (within place (inr h)) [
              | inl e ↦ absurd (let lt : a.0 < place = above_has a.0 place later rising'.0 h in let same : s.place
                  ≡ place = e in let one : s.place ≡ a.0 = t.1 in omega (arith, lt, same, one))
              | inr more ↦ more
            ])
            (λ place lt h. elim (sub place (let low : lo < s.place = above.0 in omega (arith, low, lt)) h) [
              | inl e ↦ absurd (let same : a.0 ≡ place = e in let one : s.place ≡ a.0 = t.1 in
                  omega (arith, lt, same, one))
              | inr more ↦ more
            ])
            (λ place h. own_use place (inr h)) others,
      )
      | inr t ↦ inr (
        others s known.0.1 (let lt : lo < s.place = above.0 in omega (arith, le, lt)) known.0.0
            (λ h. not_mine t.1 (sub s.place above.0 h)),
        among_by past hi m s.place from answers grant_of elsewhere name grant all steps (a ∷ later) here rising.0
            rising.1 known.1 rising' known'
            (λ place h. elim (within place h) [
              | inl e ↦ absurd (not_mine t.1
                  (subst (λ (p : ℕ). HasRequest (a ∷ later) p) (sym e) h))
              | inr more ↦ more
            ])
            (λ place lt h. sub place (let low : lo < s.place = above.0 in omega (arith, low, lt)) h) own_use others,
      )
    ]
  where
    here : from ≤ s.place
    here = let lt : lo < s.place = above.0 in omega (arith, le, lt)

    not_mine : s.place ≢ a.0 → HasRequest (a ∷ later) s.place → ⊥
    not_mine apart (inl e) = apart (sym e)
    not_mine apart (inr h) =
        let lt : a.0 < s.place = above_has a.0 s.place later rising'.0 h in
        elim (within a.0 (inl refl)) [
          | inl e ↦ apart e
          | inr more ↦ (let low : s.place < a.0 = above_has s.place a.0 (asked_in steps) rising.0 more in
              omega (arith, lt, low))
        ]

-- ---- one call

mid_has : (xs ys : List Step) (y : Step) → HasRequest (asked_in (xs ++ y ∷ ys)) y.place
mid_has [] ys y = inl refl
mid_has (x ∷ xs) ys y = inr (mid_has xs ys y)

-- what stands before a step of a run stands below it
pub low_known : (past : List Entry) (n : ℕ) (xs ys : List Step) (y : Step) → AreRising (asked_in (xs ++ y ∷ ys))
    → AreKnown past n (asked_in xs) → AreKnown past y.place (asked_in xs)
low_known past n [] ys y rising known = tt
low_known past n (x ∷ xs) ys y rising known = (
  (
    above_has x.place y.place (asked_in (xs ++ y ∷ ys)) rising.0
        (mid_has xs ys y),
    known.0.1,
  ),
  low_known past n xs ys y rising.1 known.1,
)

pub call_on : (past : List Entry) (n hi : ℕ) (grant_of : ℕ → Option ℕ) (elsewhere : ℕ → Bool) (name : Name) (lane c : ℕ)
    (first : ℕ × Request) (later : Own) (xs steps ys : List Step) (s : Step)
    → AreAll past n [] (asked_in (xs ++ s ∷ (steps ++ ys))) → own past lane c ≡ first ∷ later → asked_by s ≡ first
    → hi ≤ n → AreKnown past hi (asked_in steps)
    → ((place : ℕ) → HasRequest later place → place < hi) → ((place : ℕ) → HasRequest (asked_in ys) place → hi ≤ place)
    → ((place : ℕ) → HasRequest later place → grant_of place ≡ Some first.0)
    → ((t : Step) → IsAt past (asked_by t) → first.0 < t.place → t.place < hi → (HasRequest later t.place → ⊥)
    → PassesBy (answer past) grant_of elsewhere name t)
    → IsCallOn (answer past) grant_of elsewhere name later s steps
call_on past n hi grant_of elsewhere name lane c first later xs steps ys s all is asks le known below behind own_use
    others =
    record {
      among = among_by past hi (count_submitted past) s.place first.0 (answer past) grant_of elsewhere name s.place
          later steps
          later (let one : s.place ≡ first.0 = at_first in omega (arith, one))
          (above_parts s.place steps ys rising.0).0 (rising_parts steps ys rising.1).0 known own_rising.1 own_known.1
          within (λ place lt h. h)
          (λ place h. own_use place h ∙ ap (λ (p : ℕ). Some p) (sym at_first)) others;
    }
  where
    at_first : s.place ≡ first.0
    at_first = ap (λ (p : ℕ × Request). p.0) asks

    rising : AreRising (asked_in (s ∷ (steps ++ ys)))
    rising = (rising_parts xs (s ∷ (steps ++ ys)) all.rising).1

    own_rising : AreRising (first ∷ later)
    own_rising = subst AreRising is (own_listed past lane c).0

    own_known : AreKnown past (count_submitted past) (first ∷ later)
    own_known = subst (AreKnown past (count_submitted past)) is (own_listed past lane c).1

    within : (place : ℕ) → HasRequest later place → HasRequest (asked_in steps) place
    within place h =
        let lt : place < hi = below place h in
        let above : first.0 < place = later_above past lane c place first later is h in
        let one : s.place ≡ first.0 = at_first in
        elim (all.complete place lane c (omega (arith, lt, le))
        (has_call past lane c place (first ∷ later) is (inr h))) [
          | inl none ↦ absurd none
          | inr has ↦ elim (has_parts xs (s ∷ (steps ++ ys)) place has) [
            | inl left ↦ absurd (let low : place < s.place = known_has past s.place place (asked_in xs)
                (low_known past n xs (steps ++ ys) s all.rising (known_parts past n xs (s ∷ (steps ++ ys)) all.known).0)
                left in omega (arith, low, above, one))
            | inr (inl e) ↦ absurd (let same : s.place ≡ place = e in omega (arith, same, above, one))
            | inr (inr more) ↦ elim (has_parts steps ys place more) [
              | inl here ↦ here
              | inr past_it ↦ absurd (let high : hi ≤ place = behind place past_it in omega (arith, high, lt))
            ]
          ]
        ]
