-- Which of a lane's grants no slot has, and which is that of a slot.
use Rattle.std.proofs.Common.{◌≡◌, ◌≢◌, ◌<◌, ℕ, zero, suc, true, false, List, [], ◌∷◌, Option, Some, refl, ap, sym, ◌∙◌, subst, arith, inl, inr}
use Rattle.std.specs.Prelude.{length, slice_get}
use Rattle.std.specs.List.{list_any}
use Rattle.sftp_model.specs.Slots.{grant_of, has_grant, slot_has}
use Rattle.sftp_model.specs.declared.slot.Site.{Site}
use Rattle.sftp_model.specs.declared.slot.Slot.{Slot}
use Rattle.session_laws.specs.Ends.{StaysOpen}
use Rattle.session_laws.specs.Dues.{unheld_of}
use Rattle.session_laws.specs.Lanes.{Held, grant_places}
use Rattle.session_laws.specs.Places.{is_in, without_index}
use Rattle.session_work.proofs.Polling.{grants_out}

-- ---- the first that no slot has

pub none_unheld : (site : Site) (gs : List Held) → ((i : ℕ) (g : Held) → slice_get gs i ≡ Some g
    → has_grant site g.place
    ≡ true) → unheld_of site (grant_places gs) ≡ []
none_unheld site [] all = refl
none_unheld site (x ∷ xs) all = rw (all 0 x refl) (none_unheld site xs (λ i g got. all (suc i) g got))

pub first_unheld : (site : Site) (gs : List Held) (k : ℕ) (g : Held) → slice_get gs k ≡ Some g → has_grant site g.place
    ≡ false → ((i : ℕ) (h : Held) → i < k → slice_get gs i ≡ Some h → has_grant site h.place ≡ true)
    → unheld_of site (grant_places gs) ≡ g.place ∷ unheld_of site (grant_places (without_index k gs))
first_unheld site [] k g got unheld before = absurd cc
first_unheld site (x ∷ xs) zero g got unheld before = (let e : x ≡ g = cc in
    rw (ap (λ (h : Held). has_grant site h.place) e ∙ unheld) (ap
    (λ (h : Held). h.place ∷ unheld_of site (grant_places xs)) e))
first_unheld site (x ∷ xs) (suc k) g got unheld before = rw (before 0 x (omega arith) refl)
    (first_unheld site xs k g got unheld (λ i h lt here. before (suc i) h (omega (arith, lt)) here))

-- ---- the grant of a slot

-- a later slot has it
pub later_has : (grants : List Held) (slot : Slot) (later : List Slot) (p : ℕ) → grant_of slot ≡ Some p
    → list_any (slot_has p) later ≡ true → StaysOpen grants slot later
later_has grants slot later p is has g e = (let same : p ≡ g =
    (let a : ◌≡◌ {A = Option ℕ} (Some p) (Some g) = sym is ∙ e in cc) in
    inl (subst (λ (q : ℕ). list_any (slot_has q) later ≡ true) same has))

-- the lane has it no more
pub held_no_more : (grants : List Held) (slot : Slot) (later : List Slot) (p : ℕ) → grant_of slot ≡ Some p
    → ((k : ℕ) (g : Held) → slice_get grants k ≡ Some g → g.place ≢ p) → StaysOpen grants slot later
held_no_more grants slot later p is none g e =
    (let same : p ≡ g = (let a : ◌≡◌ {A = Option ℕ} (Some p) (Some g) = sym is ∙ e in cc) in
    inr (subst (λ (q : ℕ). is_in q (grant_places grants) ≡ false) same (grants_out grants p none)))

-- ---- lists

-- what stands at an index
pub some_at : {A : Type 0} (xs : List A) (k : ℕ) → k < length xs → (x : A) × (slice_get xs k ≡ Some x)
some_at [] k lt = absurd (omega (arith, lt))
some_at (x ∷ xs) zero lt = (x, refl)
some_at (x ∷ xs) (suc k) lt = some_at xs k (omega (arith, lt))
