-- What keeps a site as it may be.
use Rattle.std.proofs.Common.{◌≡◌, ◌<◌, Option, Some, None, ap, refl, sym, ◌∙◌, subst, ℕ, zero, suc, List, [], ◌∷◌, length}
use Rattle.std.specs.Prelude.{slice_set, slice_index_or}
use Rattle.sftp_model.specs.declared.slot.FileAt.{FileAt}
use Rattle.sftp_model.specs.declared.slot.Facts.{Facts}
use Rattle.sftp_model.specs.declared.slot.Site.{Site}
use Rattle.sftp_model.specs.declared.slot.Slot.{Slot}
use Rattle.sftp_model.specs.declared.slot.Slot.TheVariants.{Empty, File}
use Rattle.sftp_model.specs.Slots.{with_slot}
use Rattle.plan_runner.specs.Runners.{keep_in}
use Rattle.plan_runner.specs.Sound.{IsKept, IsWithin, KeepsSite}
use Rattle.plan_runner.proofs.SlotSets.{set_at}

set_length : (slots : List Slot) (k : ℕ) (x : Slot) → length (slice_set slots k x) ≡ length slots
set_length [] k x = refl
set_length (slot ∷ slots) zero x = refl
set_length (slot ∷ slots) (suc k) x = ap suc (set_length slots k x)

set_within : (facts : Facts) (slots : List Slot) (k : ℕ) (x : Slot) → IsWithin facts x
    → ((i : ℕ) → IsWithin facts (slice_index_or slots i Empty)) → (i : ℕ)
    → IsWithin facts (slice_index_or (slice_set slots k x) i Empty)
set_within facts [] k x new old i = old i
set_within facts (slot ∷ slots) zero x new old zero = new
set_within facts (slot ∷ slots) zero x new old (suc i) = old (suc i)
set_within facts (slot ∷ slots) (suc k) x new old zero = old zero
set_within facts (slot ∷ slots) (suc k) x new old (suc i) = set_within facts slots k x new (λ j. old (suc j)) i

pub set_count : (site : Site) (k : ℕ) (x : Slot) → length (with_slot site k x).slots ≡ length site.slots
set_count site k x = set_length site.slots k x

pub keeps_self : (facts : Facts) (site : Site) → KeepsSite facts site site
keeps_self facts site = record { count = refl; limit = λ h. h }

pub keeps_then : (facts : Facts) (a b c : Site) → KeepsSite facts a b → KeepsSite facts b c → KeepsSite facts a c
keeps_then facts a b c f g = record { count = g.count ∙ f.count; limit = λ h. g.limit (f.limit h) }

pub keeps_set : (facts : Facts) (site new : Site) (k : ℕ) (x : Slot) → new ≡ with_slot site k x → IsWithin facts x
    → KeepsSite facts site new
keeps_set facts site new k x is fits = subst (λ (s : Site). KeepsSite facts site s) (sym is)
    (record { count = set_length site.slots k x; limit = λ h. set_within facts site.slots k x fits h })

pub keeps_file : (facts : Facts) (site new : Site) (k : ℕ) (file : FileAt) → new ≡ with_slot site k (File file)
    → KeepsSite facts site new
keeps_file facts site new k file is = keeps_set facts site new k (File file) is tt

-- a file that stands in its slot, or in none, and was moved
pub keeps_kept : (facts : Facts) (slot : Option ℕ) (file : FileAt) (offset : ℕ) (old new : Site) → new
    ≡ keep_in slot (record file { offset = offset }) old → KeepsSite facts old new
keeps_kept facts None file offset old new is = subst (λ (s : Site). KeepsSite facts old s) (sym is)
    (keeps_self facts old)
keeps_kept facts (Some slot) file offset old new is = keeps_file facts old new slot (record file { offset = offset }) is

pub kept_there : (slot : Option ℕ) (file : FileAt) (offset : ℕ) (old new : Site) → IsKept slot file old → new
    ≡ keep_in slot (record file { offset = offset }) old → IsKept slot (record file { offset = offset }) new
kept_there None file offset old new kept is = tt
kept_there (Some slot) file offset old new kept is = subst (λ (s : Site). IsKept (Some slot)
    (record file { offset = offset }) s) (sym is) (
      subst (λ (n : ℕ). slot < n) (sym (set_count old slot (File (record file { offset = offset })))) kept.0,
      set_at old slot (File (record file { offset = offset })) kept.0,
    )
