-- A lane is let go slot by slot: what is due is the grant of the slot that is emptied, where no later slot has it.
use Rattle.std.proofs.Common.{append_assoc, ◌≡◌, ℕ, Bool, true, false, List, [], ◌∷◌, ◌++◌, Option, Some, None, refl, ap, sym, ◌∙◌, arith}
use Rattle.std.specs.Prelude.{◌||◌}
use Rattle.std.specs.List.{list_any}
use Rattle.std.proofs.lemmas.Bool.Decides.{nat_tests}
use Rattle.sftp_model.specs.declared.slot.Site.{Site}
use Rattle.sftp_model.specs.declared.slot.Slot.{Slot}
use Rattle.sftp_model.specs.Slots.{grant_of, slot_has}
use Rattle.session_model.specs.declared.entry.Entry.{Entry}
use Rattle.session_model.specs.Readings.{is_at}
use Rattle.session_model.specs.Calls.{Setting, site_of}
use Rattle.session_model.specs.Grants.{is_one_of, closed_grants, next_due, next_due_at, first_let_go, grant_or}
use Rattle.session_model.specs.Journals.{close_of}
use Rattle.session_model.proofs.LetGoLaws.{close_leaves}
use Rattle.session_laws.specs.Letting.{ReleasesSlots, StaysOrCloses}
use Rattle.session_laws.proofs.GoneLaws.{closed_own}
use Rattle.session_model.specs.declared.entry.Entry.TheVariants as entry

or_more : (a b c : Bool) → (a || b) ≡ true → (b ≡ true → c ≡ true) → (a || c) ≡ true
or_more true b c e h = refl
or_more false b c e h = h e

either_true : (a b : Bool) → b ≡ true → (a || b) ≡ true
either_true true b e = refl
either_true false b e = e

more_gone : (more gone : List (Option ℕ)) (g : ℕ) → is_one_of gone g ≡ true → is_one_of (more ++ gone) g ≡ true
more_gone [] gone g e = e
more_gone (x ∷ more) gone g e = either_true (is_at x g) (is_one_of (more ++ gone) g) (more_gone more gone g e)

skip_slot : (gone : List (Option ℕ)) (slot : Slot) (rest : List Slot) → StaysOrCloses gone slot rest
    → first_let_go gone (slot ∷ rest) ≡ first_let_go gone rest
skip_slot gone slot rest stays = by_grant (grant_of slot) (λ g e. stays g e)
  where
    by_grant : (x : Option ℕ) → ((g : ℕ) → x ≡ Some g → (list_any (slot_has g) rest || is_one_of gone g) ≡ true)
        → grant_or x (λ g. list_any (slot_has g) rest || is_one_of gone g) (first_let_go gone rest)
        ≡ first_let_go gone rest
    by_grant None h = refl
    by_grant (Some g) h = rw (h g refl) refl

-- at the start all slots are left
pub letting_start : (s : Setting) (past : List Entry) (lane : ℕ)
    → ReleasesSlots s (entry.LetGo lane ∷ past) (site_of s past lane) (site_of s past lane).slots
letting_start s past lane = record { letting = refl; skips = λ more. refl }

-- what is due next
pub letting_next_due : (s : Setting) (past : List Entry) (site : Site) (rest : List Slot)
    → ReleasesSlots s past site rest
    → next_due s past ≡ first_let_go (closed_grants s past) rest
letting_next_due s past site rest l = ap (next_due_at s past (closed_grants s past)) l.letting ∙ l.skips []

-- a slot whose grant stays is passed
pub letting_skip : (s : Setting) (past : List Entry) (site : Site) (slot : Slot) (rest : List Slot)
    → ReleasesSlots s past site (slot ∷ rest) → StaysOrCloses (closed_grants s past) slot rest
    → ReleasesSlots s past site rest
letting_skip s past site slot rest l stays =
    record {
      letting = l.letting;
      skips = λ more. l.skips more ∙ skip_slot (more ++ closed_grants s past) slot rest
          (λ g e. or_more (list_any (slot_has g) rest) (is_one_of (closed_grants s past) g)
          (is_one_of (more ++ closed_grants s past) g) (stays g e) (more_gone more (closed_grants s past) g));
    }

-- the grant of a slot that no later slot has is due
pub letting_due : (s : Setting) (past : List Entry) (site : Site) (slot : Slot) (rest : List Slot) (g : ℕ)
    → ReleasesSlots s past site (slot ∷ rest) → grant_of slot ≡ Some g
    → (list_any (slot_has g) rest || is_one_of (closed_grants s past) g) ≡ false → next_due s past ≡ Some g
letting_due s past site slot rest g l is unheld =
    letting_next_due s past site (slot ∷ rest) l ∙ (ap (λ x. grant_or x
    (λ h. list_any (slot_has h) rest || is_one_of (closed_grants s past) h) (first_let_go (closed_grants s past) rest))
    is
    ∙ rw unheld refl)

-- and behind its CLOSE the slot is passed
pub letting_close : (s : Setting) (past : List Entry) (site : Site) (slot : Slot) (rest : List Slot) (g id : ℕ)
    → ReleasesSlots s past site (slot ∷ rest) → grant_of slot ≡ Some g
    → (list_any (slot_has g) rest || is_one_of (closed_grants s past) g) ≡ false
    → ReleasesSlots s (close_of past g id ∷ past) site rest
letting_close s past site slot rest g id l is unheld =
    let now : List Entry = close_of past g id ∷ past in
    let gone : closed_grants s now ≡ Some g ∷ closed_grants s past =
    closed_own s past g id (letting_due s past site slot rest g l is unheld) in
    let still : ReleasesSlots s now site (slot ∷ rest) = record {
      letting = (close_leaves s past g id).letting ∙ l.letting;
      skips = λ more. (let same : more ++ closed_grants s now ≡ (more ++ Some g ∷ []) ++ closed_grants s past =
          ap (λ (c : List (Option ℕ)). more ++ c) gone ∙ sym (append_assoc more (Some g ∷ []) (closed_grants s past)) in
          ap (λ (c : List (Option ℕ)). first_let_go c site.slots) same
          ∙ (l.skips (more ++ Some g ∷ []) ∙ ap (λ (c : List (Option ℕ)). first_let_go c (slot ∷ rest))
          (sym same)));
    } in
    letting_skip s now site slot rest still (λ h e. either_true (list_any (slot_has h) rest)
    (is_one_of (closed_grants s now) h) (ap (λ c. is_one_of c h) gone
    ∙ has h (let same : ◌≡◌ {A = Option ℕ} (Some g) (Some h) = sym is ∙ e in cc)))
  where
    self : (n m : ℕ) → n ≡ m → is_at (Some n) m ≡ true
    self n m e = grind (arith, nat_tests)

    has : (h : ℕ) → g ≡ h → is_one_of (Some g ∷ closed_grants s past) h ≡ true
    has h e = rw (self g h e) refl

-- at the end nothing is due
pub letting_end : (s : Setting) (past : List Entry) (site : Site) → ReleasesSlots s past site [] → next_due s past
    ≡ None
letting_end s past site l = letting_next_due s past site [] l
