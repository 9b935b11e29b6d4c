-- What the end of a call leaves to be closed: each grant of the lane that no slot of it has any more.
use Rattle.std.proofs.Common.{◌≡◌, ◌≢◌, ◌<◌, ◌+◌, ◌==◌, ℕ, Bool, true, false, List, [], ◌∷◌, refl, ap, sym, ◌∙◌, subst, arith, if◌then◌else◌, inl, inr}
use Rattle.std.specs.Prelude.{◌||◌, length}
use Rattle.std.proofs.lemmas.Bool.Decides.{eqb_tells}
use Rattle.sftp_model.specs.declared.outcome.Outcome.{Outcome}
use Rattle.sftp_model.specs.declared.slot.Site.{Site}
use Rattle.sftp_model.specs.Slots.{has_grant}
use Rattle.plan_model.specs.Moves.{Own}
use Rattle.session_model.specs.declared.event.Event.TheVariants.{End}
use Rattle.session_model.specs.declared.entry.Entry.{Entry}
use Rattle.session_model.specs.Readings.{asked_at, count_ended, own}
use Rattle.session_model.specs.Calls.{Setting, current, site_of, held_site, held_by}
use Rattle.session_model.proofs.CallLaws.{has_place, asker_owns, own_fresh, ended_end, end_own}
use Rattle.session_model.specs.Grants.{is_grant, is_held, holds, is_one_of, is_asked_by, is_unended_asker, closed_grants}
use Rattle.session_model.proofs.GrantLaws.{any_passes, any_where}
use Rattle.session_model.specs.Journals.{IsJournal}
use Rattle.session_laws.specs.Dues.{IsDue, AreDueGrants, AllDue, unheld_of}
use Rattle.session_laws.specs.Places.{IsRising, IsAbove, is_in}
use Rattle.session_laws.proofs.GoneLaws.{held_idle}
use Rattle.session_model.specs.declared.entry.Entry.TheVariants as entry

-- The grants of a lane: these are all that it holds and that have no CLOSE, and no other lane holds them.
pub record AreGrants (s : Setting) (past : List Entry) (lane : ℕ) (mine : List ℕ) : Type 0 where
  pub all : (g : ℕ) → is_grant past g ≡ true → is_one_of (closed_grants s past) g ≡ false → holds s past g lane ≡ true
      → is_in g mine ≡ true
  pub granted : (g : ℕ) → is_in g mine ≡ true → is_grant past g ≡ true
  pub unclosed : (g : ℕ) → is_in g mine ≡ true → is_one_of (closed_grants s past) g ≡ false
  pub alone : (g w : ℕ) → is_in g mine ≡ true → holds s past g w ≡ true → w ≡ lane
  pub rising : IsRising mine

-- ---- lists

in_self : (g : ℕ) (gs : List ℕ) → is_in g (g ∷ gs) ≡ true
in_self g gs = elim (eqb_tells g g) [ inl t ↦ rw t.0 refl | inr t ↦ absurd (t.1 refl) ]

in_more : (h g : ℕ) (gs : List ℕ) → is_in g gs ≡ true → is_in g (h ∷ gs) ≡ true
in_more h g gs e = by_head (h == g) e
  where
    by_head : (b : Bool) → is_in g gs ≡ true → (b || is_in g gs) ≡ true
    by_head true e = refl
    by_head false e = e

above_unheld : (site : Site) (k : ℕ) (gs : List ℕ) → IsAbove k gs → IsAbove k (unheld_of site gs)
above_unheld site k [] a = tt
above_unheld site k (g ∷ gs) a = by_test (has_grant site g) a.0 (above_unheld site k gs a.1)
  where
    by_test : (b : Bool) → k < g → IsAbove k (unheld_of site gs)
        → IsAbove k (if b then unheld_of site gs else g ∷ unheld_of site gs)
    by_test true lt rest = rest
    by_test false lt rest = (lt, rest)

rising_unheld : (site : Site) (gs : List ℕ) → IsRising gs → IsRising (unheld_of site gs)
rising_unheld site [] r = tt
rising_unheld site (g ∷ gs) r = by_test (has_grant site g) (above_unheld site g gs r.0) (rising_unheld site gs r.1)
  where
    by_test : (b : Bool) → IsAbove g (unheld_of site gs) → IsRising (unheld_of site gs)
        → IsRising (if b then unheld_of site gs else g ∷ unheld_of site gs)
    by_test true above rest = rest
    by_test false above rest = (above, rest)

-- what isn't unheld is in a slot
pub kept : (site : Site) (g : ℕ) (gs : List ℕ) → is_in g gs ≡ true → is_in g (unheld_of site gs) ≡ false
    → has_grant site g ≡ true
kept site g [] e out = absurd cc
kept site g (h ∷ hs) e out = elim (eqb_tells h g) [
  | inl t ↦ subst (λ (n : ℕ). has_grant site n ≡ true) t.1 (by_test (has_grant site h) t.0 out)
  | inr t ↦ kept site g hs (rw t.0 at e) (by_rest (has_grant site h) t.0 out)
]
  where
    by_test : (b : Bool) → (h == g) ≡ true → is_in g (if b then unheld_of site hs else h ∷ unheld_of site hs) ≡ false
        → b ≡ true
    by_test true same out = refl
    by_test false same out = absurd (let clash : true ≡ false = rw same at out in cc)

    by_rest : (b : Bool) → (h == g) ≡ false → is_in g (if b then unheld_of site hs else h ∷ unheld_of site hs) ≡ false
        → is_in g (unheld_of site hs) ≡ false
    by_rest true apart out = out
    by_rest false apart out = rw apart at out

-- each that is unheld is one of them, and in no slot
all_unheld : (P : List ℕ → Type 0) (site : Site) (mine gs : List ℕ) (L : ℕ → Type 0) → P []
    → ((g : ℕ) (rest : List ℕ) → L g → P rest → P (g ∷ rest)) →
    ((g : ℕ) → is_in g gs ≡ true → has_grant site g ≡ false → L g) → P (unheld_of site gs)
all_unheld P site mine [] L nil more each = nil
all_unheld P site mine (g ∷ gs) L nil more each = by_test (has_grant site g) refl
    (all_unheld P site mine gs L nil more (λ k e out. each k (in_more g k gs e) out))
  where
    by_test : (b : Bool) → has_grant site g ≡ b → P (unheld_of site gs)
        → P (if b then unheld_of site gs else g ∷ unheld_of site gs)
    by_test true is rest = rest
    by_test false is rest = more g (unheld_of site gs) (each g (in_self g gs) is) rest

-- ---- the end

false_of : (b : Bool) → (b ≡ true → ⊥) → b ≡ false
false_of true h = absurd (h refl)
false_of false h = refl

-- what the lane holds behind the end: its slots alone
pub holds_ended : (s : Setting) (past : List Entry) (lane : ℕ) (o : Outcome) (g : ℕ) → IsJournal s past
    → holds s (entry.Event (End lane (count_ended past lane) o) ∷ past) g lane
    ≡ has_grant (site_of s (entry.Event (End lane (count_ended past lane) o) ∷ past) lane) g
holds_ended s past lane o g j =
    let now : List Entry = entry.Event (End lane (count_ended past lane) o) ∷ past in
    let more : count_ended now lane ≡ count_ended past lane + 1 = ended_end past lane (count_ended past lane) o in
    let none : own now lane (count_ended now lane) ≡ [] = ap (λ (n : ℕ). own now lane n) more ∙ end_own s past lane o j
    in
    let site : held_site s now lane ≡ site_of s now lane = ap (λ (p : Own). held_by (current s now lane) p
    (site_of s now lane)) none ∙ held_idle (current s now lane) (site_of s now lane) in
    let unasked : is_unended_asker now lane g ≡ false = false_of (is_unended_asker now lane g) (λ asks.
    (let mine : has_place (own past lane (count_ended past lane + 1)) g ≡ true =
    asker_owns past lane (count_ended past lane + 1) g (ap (λ (n : ℕ). is_asked_by (asked_at past g) lane n) (sym more)
    ∙ asks) in
    let empty : own past lane (count_ended past lane + 1) ≡ [] =
    own_fresh s past lane (count_ended past lane + 1) j (omega arith) in
    let clash : false ≡ true = rw empty at mine in cc)) in
    ap (λ (x : Site). has_grant x g || is_unended_asker now lane g) site
    ∙ (ap (λ b. has_grant (site_of s now lane) g || b) unasked ∙ or_none (has_grant (site_of s now lane) g))
  where
    or_none : (b : Bool) → (b || false) ≡ b
    or_none true = refl
    or_none false = refl

-- another lane holds what it held
pub holds_other : (s : Setting) (past : List Entry) (lane w : ℕ) (o : Outcome) (g : ℕ) → lane ≢ w
    → holds s (entry.Event (End lane (count_ended past lane) o) ∷ past) g w ≡ holds s past g w
holds_other s past lane w o g ne = elim (eqb_tells lane w) [ inl t ↦ absurd (ne t.1) | inr t ↦ rw t.0 refl ]

-- behind an end all grants of the lane that no slot has are due, whichever and how many they are
pub dues_end : (s : Setting) (past : List Entry) (lane : ℕ) (o : Outcome) (mine : List ℕ) → IsJournal s past
    → AreDueGrants s past [] → AreGrants s past lane mine
    → AreDueGrants s (entry.Event (End lane (count_ended past lane) o) ∷ past)
    (unheld_of (site_of s (entry.Event (End lane (count_ended past lane) o) ∷ past) lane) mine)
dues_end s past lane o mine j d a =
    let now : List Entry = entry.Event (End lane (count_ended past lane) o) ∷ past in
    let site : Site = site_of s now lane in
    record {
      each = λ g granted unclosed out.
          (let who = any_where (holds s past g) (length s.lanes) (d.each g granted unclosed refl) in
          any_passes (holds s now g) (length s.lanes) who.0 who.1.0 (elim (eqb_tells lane who.0) [
            | inl t ↦ (let same : lane ≡ who.0 = t.1 in
                let had : holds s past g lane ≡ true = subst (λ (n : ℕ). holds s past g n ≡ true) (sym same) who.1.1 in
                subst (λ (n : ℕ). holds s now g n ≡ true) same (holds_ended s past lane o g j
                ∙ kept site g mine (a.all g granted unclosed had) out))
            | inr t ↦ holds_other s past lane who.0 o g t.1 ∙ who.1.1
          ]));
      unheld = all_unheld (λ gs. AllDue s now gs) site mine mine (λ g. IsDue s now g) tt (λ g rest l all. (l, all))
          (λ g is out. record {
            granted = a.granted g is;
            unheld = false_of (is_held s now g) (λ h.
                (let who = any_where (holds s now g) (length s.lanes) h in
                elim (eqb_tells lane who.0) [
                  | inl t ↦ (let same : lane ≡ who.0 = t.1 in
                      let mine_still : holds s now g lane ≡ true = subst (λ (n : ℕ). holds s now g n ≡ true) (sym same)
                      who.1.1 in
                      let clash : false ≡ true = sym out ∙ (sym (holds_ended s past lane o g j) ∙ mine_still) in cc)
                  | inr t ↦ t.1 (sym (a.alone g who.0 is (sym (holds_other s past lane who.0 o g t.1) ∙ who.1.1)))
                ]));
            unclosed = a.unclosed g is;
          });
      rising = rising_unheld site mine a.rising;
    }
