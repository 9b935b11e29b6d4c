-- The requests of a lane's later call stand behind those of an earlier one.
use Rattle.std.proofs.Common.{◌≡◌, ◌<◌, ◌≤◌, ◌==◌, ℕ, Bool, true, false, List, [], ◌∷◌, Option, Some, None, refl, ap, sym, ◌∙◌, arith, inl, inr}
use Rattle.std.specs.Prelude.{◌&&◌, ◌||◌, ◌⊎◌}
use Rattle.std.proofs.lemmas.Bool.Decides.{eqb_tells, leb_tells}
use Rattle.sftp_model.specs.declared.request.Request.{Request}
use Rattle.session_model.specs.declared.event.Owner.{Owner}
use Rattle.session_model.specs.declared.event.Event.TheVariants.{Submit}
use Rattle.session_model.specs.declared.entry.Entry.{Entry}
use Rattle.session_model.specs.Readings.{AskedRequest, count_submitted, asked_at, count_ended, is_by, own}
use Rattle.session_model.specs.Calls.{Setting}
use Rattle.session_model.proofs.CallLaws.{has_place, asker_owns, next_submit, own_fresh}
use Rattle.session_model.specs.Grants.{is_asked_by, is_unended_asker}
use Rattle.session_model.specs.Journals.{IsJournal, IsNext}
use Rattle.session_model.proofs.RequestLaws.{asked_beyond}
use Rattle.session_laws.specs.Places.{IsBelow, is_in}
use Rattle.session_laws.specs.Lanes.{AllOf}
use Rattle.session_model.specs.declared.event.Owner.TheVariants as owner
use Rattle.session_model.specs.declared.entry.Entry.TheVariants as entry

two : (m n c d : ℕ) → ((m == n) && (c == d)) ≡ true → (m ≡ n) × (c ≡ d)
two m n c d e = elim (eqb_tells m n) [
  | inl t ↦ elim (eqb_tells c d) [
    | inl u ↦ (t.1, u.1)
    | inr u ↦
        absurd (let clash : false ≡ true = rw (t.0, u.0) at e in cc)
  ]
  | inr t ↦ absurd (let clash : false ≡ true = rw t.0 at e in cc)
]

-- the asker of a request is one call
by_one : (o : Owner) (lane c d : ℕ) → is_by o lane c ≡ true → is_by o lane d ≡ true → c ≡ d
by_one (owner.Call l n) lane c d x y = sym (two l lane n c x).1 ∙ (two l lane n d y).1
by_one owner.Setup lane c d x y = absurd cc
by_one owner.Close lane c d x y = absurd cc

-- a request is one of its lane's current call
submit_now : (s : Setting) (past : List Entry) (o : Owner) (id : ℕ) (r : Request) (lane c : ℕ)
    → IsNext s past (entry.Event (Submit o id r)) → is_by o lane c ≡ true → c ≡ count_ended past lane
submit_now s past (owner.Call l n) id r lane c next e = (let both = two l lane n c e in let here : n
    ≡ count_ended past l =
    (next_submit s past l n id r next).0 in sym both.1 ∙ (here ∙ ap (count_ended past) both.0))
submit_now s past owner.Setup id r lane c next e = absurd cc
submit_now s past owner.Close id r lane c next e = absurd cc

-- what was asked stands below
pub asked_below : (past : List Entry) (p lane c : ℕ) → is_asked_by (asked_at past p) lane c ≡ true
    → p < count_submitted past
asked_below past p lane c e = elim (lt_or p (count_submitted past)) [
  | inl lt ↦ lt
  | inr ge ↦ absurd (let none : asked_at past p ≡ None = asked_beyond past p ge in let clash : false ≡ true =
      rw none at e in cc)
]
  where
    lt_or : (m n : ℕ) → (m < n) ⊎ (n ≤ m)
    lt_or m n = elim (leb_tells n m) [ inl t ↦ inr t.1 | inr t ↦ inl (omega (arith, t)) ]

pub asked_before : (s : Setting) (past : List Entry) (lane c d g p : ℕ) → IsJournal s past
    → is_asked_by (asked_at past g) lane c ≡ true → is_asked_by (asked_at past p) lane d ≡ true → c < d → g < p
asked_before s [] lane c d g p j x y lt = absurd cc
asked_before s (entry.Event (Submit o id r) ∷ past) lane c d g p j x y lt = elim (eqb_tells p (count_submitted past)) [
  | inl t ↦ (let mine : is_by o lane d ≡ true = rw t.0 at y in
      elim (eqb_tells g (count_submitted past)) [
        | inl u ↦ absurd (let same : c ≡ d = by_one o lane c d (rw u.0 at x) mine in omega (arith, lt))
        | inr u ↦ (let below : g < count_submitted past = asked_below past g lane c (rw u.0 at x) in let is : p
            ≡ count_submitted past = t.1 in omega arith)
      ])
  | inr t ↦ elim (eqb_tells g (count_submitted past)) [
    | inl u ↦ absurd (let now : c ≡ count_ended past lane = submit_now s past o id r lane c j.0 (rw u.0 at x) in
        let has : has_place (own past lane d) p ≡ true = asker_owns past lane d p (rw t.0 at y) in
        let none : own past lane d ≡ [] = own_fresh s past lane d j.1 (omega arith) in
        let clash : false ≡ true = rw none at has in cc)
    | inr u ↦ asked_before s past lane c d g p j.1 (rw u.0 at x) (rw t.0 at y) lt
  ]
]
asked_before s (_ ∷ past) lane c d g p j x y lt = asked_before s past lane c d g p j.1 x y lt

-- the requests of a lane stand below the next one
pub of_below : (past : List Entry) (lane : ℕ) (ps : List ℕ) → AllOf past lane ps → IsBelow (count_submitted past) ps
of_below past lane [] all = tt
of_below past lane (p ∷ ps) all = (there past p all.0.0 all.0.1.0, of_below past lane ps all.1)
  where
    there : (past : List Entry) (p : ℕ) (a : AskedRequest) → asked_at past p ≡ Some a → p < count_submitted past
    there past p a e = elim (leb_tells (count_submitted past) p) [
      | inl t ↦
          absurd (let none : asked_at past p ≡ None = asked_beyond past p t.1 in
          let clash : ◌≡◌ {A = Option AskedRequest} None (Some a) = sym none ∙ e in cc)
      | inr t ↦ omega (arith, t)
    ]

-- A request of the current call stands behind the grants of the lane that this call did not bring.
pub newer_grants : (s : Setting) (past : List Entry) (lane p : ℕ) (ps : List ℕ) → IsJournal s past
    → is_unended_asker past lane p ≡ true → AllOf past lane ps
    → ((g : ℕ) → is_in g ps ≡ true → (c : ℕ) × ((c < count_ended past lane)
    × (is_asked_by (asked_at past g) lane c ≡ true)))
    → IsBelow p ps
newer_grants s past lane p [] j mine all earlier = tt
newer_grants s past lane p (g ∷ gs) j mine all earlier =
    let first = earlier g (elim (eqb_tells g g) [ inl t ↦ rw t.0 refl | inr t ↦ absurd (t.1 refl) ]) in (
      asked_before s past lane first.0 (count_ended past lane) g p j first.1.1 mine first.1.0,
      newer_grants s past lane p gs j mine all.1 (λ h e. earlier h (or_more (g == h) e)),
    )
  where
    or_more : {b : Bool} (x : Bool) → b ≡ true → (x || b) ≡ true
    or_more true e = refl
    or_more false e = e
