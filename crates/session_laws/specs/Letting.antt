-- The release of a lane, slot by slot: the grant of a slot that is emptied has its CLOSE next, if no later slot has it.
use Rattle.std.specs.Prelude.{◌≡◌, ℕ, true, ◌||◌, List, [], ◌∷◌, ◌++◌, Option, Some}
use Rattle.std.specs.List.{list_any}
use Rattle.sftp_model.specs.declared.slot.Site.{Site}
use Rattle.sftp_model.specs.declared.slot.Slot.{Slot}
use Rattle.sftp_model.specs.Slots.{grant_of, slot_has}
use Rattle.session_model.specs.declared.entry.Entry.{Entry}
use Rattle.session_model.specs.Calls.{Setting}
use Rattle.session_model.specs.Grants.{closed_grants, first_let_go, is_one_of, letting_go}

-- The grant of a slot stays open, or has its CLOSE: a later slot has it, or it is among these.
abbrev pub StaysOrCloses : List (Option ℕ) → Slot → List Slot → Type 0
StaysOrCloses gone slot rest = (g : ℕ) → grant_of slot ≡ Some g → (list_any (slot_has g) rest || is_one_of gone g)
    ≡ true

-- The lane is released; of its slots these are left.
pub record ReleasesSlots (s : Setting) (past : List Entry) (site : Site) (rest : List Slot) : Type 0 where
  pub letting : letting_go s past ≡ Some site
  pub skips : (more : List (Option ℕ)) → first_let_go (more ++ closed_grants s past) site.slots
      ≡ first_let_go (more ++ closed_grants s past) rest
