-- What slots that are set hold.
use Rattle.std.proofs.Common.{◌≡◌, ◌==◌, ℕ, zero, suc, Bool, true, false, List, [], ◌∷◌, Some, refl, ap, sym, ◌∙◌, arith, inl, inr}
use Rattle.std.specs.Prelude.{◌⊎◌, ◌||◌, slice_set, slice_index_or}
use Rattle.std.specs.List.{list_any}
use Rattle.std.proofs.lemmas.Bool.Decides.{nat_tests}
use Rattle.sftp_model.specs.declared.slot.Slot.{Slot}
use Rattle.sftp_model.specs.declared.slot.Site.{Site}
use Rattle.sftp_model.specs.declared.slot.Slot.TheVariants.{Empty, File, Buffered}
use Rattle.sftp_model.specs.Slots.{slot_at, with_slot, grant_of, slot_has, has_grant}

-- what is set where something stands is there
pub set_there : (slots : List Slot) (k g : ℕ) (x : Slot) → grant_of (slice_index_or slots k Empty) ≡ Some g
    → slice_index_or (slice_set slots k x) k Empty ≡ x
set_there [] k g x e = absurd cc
set_there (slot ∷ slots) zero g x e = refl
set_there (slot ∷ slots) (suc k) g x e = set_there slots k g x e

-- where what is set has the grant of what it replaces, the same grants are held
alike : (h : ℕ) (slots : List Slot) (k : ℕ) (x : Slot) → slot_has h x ≡ slot_has h (slice_index_or slots k Empty)
    → list_any (slot_has h) (slice_set slots k x) ≡ list_any (slot_has h) slots
alike h [] k x e = refl
alike h (slot ∷ slots) zero x e = ap (λ b. b || list_any (slot_has h) slots) e
alike h (slot ∷ slots) (suc k) x e = ap (λ b. slot_has h slot || b) (alike h slots k x e)

-- the sites hold the same grants
abbrev pub SameGrants : Site → Site → Type 0
SameGrants a b = (g : ℕ) → has_grant a g ≡ has_grant b g

has_by : (g : ℕ) (x y : Slot) (h : ℕ) → grant_of x ≡ Some g → grant_of y ≡ Some g → slot_has h y ≡ slot_has h x
has_by g Empty y h ex ey = absurd cc
has_by g (File f) Empty h ex ey = absurd cc
has_by g (File f) (File e) h ex ey = ap (λ (n : ℕ). n == h) (let p : e.grant ≡ g = cc in let q : f.grant ≡ g = cc in p
    ∙ sym q)
has_by g (File f) (Buffered e b) h ex ey = ap (λ (n : ℕ). n == h)
    (let p : e.grant ≡ g = cc in let q : f.grant ≡ g = cc in p ∙ sym q)
has_by g (Buffered f c) Empty h ex ey = absurd cc
has_by g (Buffered f c) (File e) h ex ey = ap (λ (n : ℕ). n == h)
    (let p : e.grant ≡ g = cc in let q : f.grant ≡ g = cc in p ∙ sym q)
has_by g (Buffered f c) (Buffered e b) h ex ey = ap (λ (n : ℕ). n == h)
    (let p : e.grant ≡ g = cc in let q : f.grant ≡ g = cc in p ∙ sym q)

pub same_set : (site : Site) (k g : ℕ) (x : Slot) → grant_of (slot_at site k) ≡ Some g → grant_of x ≡ Some g
    → SameGrants (with_slot site k x) site
same_set site k g x here new h = alike h site.slots k x (has_by g (slot_at site k) x h here new)

-- what stands in a slot is held
pub slot_held : (slots : List Slot) (k g : ℕ) → grant_of (slice_index_or slots k Empty) ≡ Some g
    → list_any (slot_has g) slots ≡ true
slot_held [] k g e = absurd cc
slot_held (slot ∷ slots) zero g e = ap (λ b. b || list_any (slot_has g) slots) (has_own slot e)
  where
    same_number : (n m : ℕ) → n ≡ m → (n == m) ≡ true
    same_number n m e = grind (arith, nat_tests)

    has_own : (x : Slot) → grant_of x ≡ Some g → slot_has g x ≡ true
    has_own Empty e = absurd cc
    has_own (File f) e = same_number f.grant g cc
    has_own (Buffered f b) e = same_number f.grant g cc
slot_held (slot ∷ slots) (suc k) g e = or_true (slot_has g slot) (list_any (slot_has g) slots) (slot_held slots k g e)
  where
    or_true : (a b : Bool) → b ≡ true → (a || b) ≡ true
    or_true true b e = refl
    or_true false b e = e

-- a grant of slots with one set is that of what is set, or stood in them
pub set_has : (g : ℕ) (slots : List Slot) (k : ℕ) (x : Slot) → list_any (slot_has g) (slice_set slots k x) ≡ true
    → (list_any (slot_has g) slots ≡ true) ⊎ (slot_has g x ≡ true)
set_has g [] k x h = inl h
set_has g (slot ∷ slots) zero x h = by_new (slot_has g x) refl h
  where
    over : (a b : Bool) → b ≡ true → (a || b) ≡ true
    over true b e = refl
    over false b e = e

    by_new : (b : Bool) → slot_has g x ≡ b → (b || list_any (slot_has g) slots) ≡ true
        → ((slot_has g slot || list_any (slot_has g) slots) ≡ true) ⊎ (slot_has g x ≡ true)
    by_new true is e = inr is
    by_new false is e = inl (over (slot_has g slot) (list_any (slot_has g) slots) e)
set_has g (slot ∷ slots) (suc k) x h = by_old (slot_has g slot) (set_has g slots k x) h
  where
    by_old : (b : Bool) → (list_any (slot_has g) (slice_set slots k x) ≡ true → (list_any (slot_has g) slots ≡ true)
        ⊎ (slot_has g x ≡ true)) → (b || list_any (slot_has g) (slice_set slots k x)) ≡ true
        → ((b || list_any (slot_has g) slots) ≡ true) ⊎ (slot_has g x ≡ true)
    by_old true old e = inl refl
    by_old false old e = old e

pub same_grant : (n m : ℕ) → (n == m) ≡ true → m ≡ n
same_grant n m e = grind (arith, nat_tests)
