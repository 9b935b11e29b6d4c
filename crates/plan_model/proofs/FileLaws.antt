-- The law of moves for the calls on files in slots.
use Rattle.std.proofs.Common.{◌≡◌, ◌<◌, ◌≤◌, ◌+◌, ◌==◌, ◌^◌, ℕ, false, List, [], ◌∷◌, Some, refl, ap, sym, ◌∙◌, inl, arith}
use Rattle.std.specs.Prelude.{length, min, not, take, drop}
use Rattle.std.proofs.lemmas.Bool.Decides.{nat_tests}
use Rattle.std.proofs.lemmas.List.{length-take}
use Rattle.sftp_model.specs.declared.outcome.Outcome.{Outcome}
use Rattle.sftp_model.specs.declared.outcome.Outcome.TheVariants as outcome
use Rattle.sftp_model.specs.declared.error.IoKind.TheVariants as kind
use Rattle.sftp_model.specs.declared.request.Request.TheVariants as request
use Rattle.sftp_model.specs.declared.slot.Move.{Move}
use Rattle.sftp_model.specs.declared.slot.Move.TheVariants.{Ask, Done}
use Rattle.sftp_model.specs.declared.slot.FileAt.{FileAt}
use Rattle.sftp_model.specs.declared.slot.Slot.{Slot}
use Rattle.sftp_model.specs.declared.slot.Site.{Site}
use Rattle.sftp_model.specs.declared.slot.Slot.TheVariants.{File}
use Rattle.sftp_model.specs.Slots.{slot_at, with_slot, grant_of}
use Rattle.plan_model.specs.Moves.{Own, ask_read, ask_write, handle_of, overflows, refuse_locally, on_file, further}
use Rattle.plan_model.specs.TransferPlans.{
  was_read,
  read_first,
  read_next,
  missing_next,
  read_all_next,
  part_len,
  next_part,
  was_written,
  write_first,
  write_next,
  FileKeeper,
  rest_next,
  in_slot,
  write_all_next,
}
use Rattle.plan_model.specs.GoodMoves.{Situation, IsHeld, IsHeldHandle, HoldsWithin, IsGood}
use Rattle.plan_model.proofs.MoveLaws.{either, answered, replied, by_status, by_content, at_file, as_begun}
use Rattle.plan_model.proofs.SlotLaws.{set_there, same_set, slot_held}

-- ---- a site of a call that works on one file: what it holds is held, and the file stands in its slot

pub record Stands (s : Situation) (slot : ℕ) (site : Site) (grant : ℕ) : Type 0 where
  pub within : HoldsWithin s site
  pub here : grant_of (slot_at site slot) ≡ Some grant

pub stands_set : (s : Situation) (slot : ℕ) (site : Site) (grant : ℕ) (x : Slot) → grant_of x ≡ Some grant
    → Stands s slot site grant → Stands s slot (with_slot site slot x) grant
stands_set s slot site grant x new st =
    record {
      within = λ g h. st.within g (sym (same_set site slot grant x st.here new g) ∙ h);
      here = ap grant_of (set_there site.slots slot grant x st.here) ∙ new;
    }

pub first_stands : (s : Situation) (slot grant : ℕ) → grant_of (slot_at s.site slot) ≡ Some grant
    → Stands s slot s.site grant
first_stands s slot grant here = record { within = λ g h. inl h; here = here }

-- what stands there is held
pub stands_held : (s : Situation) (slot : ℕ) (site : Site) (grant : ℕ) → Stands s slot site grant → IsHeld s grant
stands_held s slot site grant st = st.within grant (slot_held site.slots slot grant st.here)

pub held_handle : (s : Situation) (grant : ℕ) → IsHeld s grant → IsHeldHandle s (handle_of (s.answers grant))
held_handle s grant held = record { grant = grant; held = held; bears = refl }

pub ends_in : (s : Situation) (site : Site) → HoldsWithin s site → (o : Outcome) → IsGood s (Done o site)
ends_in s site within o = within

-- ---- what reads and writes ask

pub in_range : (offset n : ℕ) → overflows offset n ≡ false → offset + n < 2 ^ 64
in_range offset n e = grind (arith, nat_tests)

pub ask_read_good : (s : Situation) (site : Site) (file : FileAt) (len : ℕ) → HoldsWithin s site → IsHeld s file.grant
    → len ≤ s.facts.read_len → IsGood s (ask_read file len site s.answers)
ask_read_good s site file len within held le =
    either (IsGood s) (not file.readable) (refuse_locally kind.NotReadable site) _ (λ e. within)
    (λ e. either (IsGood s) (overflows file.offset len) (refuse_locally kind.OffsetOverflow site)
    (Ask (request.Read (handle_of (s.answers file.grant)) file.offset len)) (λ o. within)
    (λ o. (held_handle s file.grant held, in_range file.offset len o, le)))

pub ask_write_good : (s : Situation) (site : Site) (file : FileAt) (bytes : List ℕ) → HoldsWithin s site
    → IsHeld s file.grant → length bytes ≤ s.facts.write_len → IsGood s (ask_write file bytes site s.answers)
ask_write_good s site file bytes within held le =
    either (IsGood s) (not file.writable) (refuse_locally kind.NotWritable site) _ (λ e. within)
    (λ e. either (IsGood s) (overflows file.offset (length bytes)) (refuse_locally kind.OffsetOverflow site)
    (Ask (request.Write (handle_of (s.answers file.grant)) file.offset bytes)) (λ o. within)
    (λ o. (held_handle s file.grant held, in_range file.offset (length bytes) o, le)))

pub taken_within : (n m : ℕ) (bytes : List ℕ) → n ≤ m → length (take n bytes) ≤ m
taken_within n m bytes le = omega (arith, le, length-take n bytes)

-- ---- a call on the file of one slot

pub on_file_good : (s : Situation) (slot : ℕ) (go : FileAt → Move)
    → ((file : FileAt) → Stands s slot s.site file.grant → IsGood s (go file))
    → IsGood s (on_file (slot_at s.site slot) s.site go)
on_file_good s slot go goes = at_file (IsGood s) (slot_at s.site slot) s.site go (as_begun s)
    (λ file at. goes file (first_stands s slot file.grant (ap grant_of at)))

-- the file, moved
pub moved_within : (s : Situation) (slot : ℕ) (site : Site) (file to : FileAt) → to.grant ≡ file.grant
    → Stands s slot site file.grant → HoldsWithin s (with_slot site slot (File to))
moved_within s slot site file to same st = Stands.within (stands_set s slot site file.grant (File to)
    (ap (λ (n : ℕ). Some n) same) st)

pub read_good : (s : Situation) (slot n : ℕ) → IsGood s (read_next slot n s.site s.facts s.own s.answers)
read_good s slot n = on_file_good s slot _ (λ file st.
    replied s s.own (read_first file n s.site s.facts s.answers) (was_read slot file s.site)
    (λ fresh. either (IsGood s) (n == 0) (Done outcome.End s.site)
    (ask_read file (min n s.facts.read_len) s.site s.answers) (λ z. as_begun s outcome.End)
    (λ z. ask_read_good s s.site file (min n s.facts.read_len) st.within (stands_held s slot s.site file.grant st)
    (omega arith)))
    (λ r. by_content (IsGood s) r s.site (Done outcome.End s.site) _ (as_begun s) (as_begun s outcome.End)
    (λ bytes. moved_within s slot s.site file (further file (length bytes)) refl st)))

missing_good : (s : Situation) (slot : ℕ) (file : FileAt) (got : List ℕ) (n : ℕ) (site : Site) (own : Own)
    → Stands s slot site file.grant → IsGood s (missing_next slot file got n site s.facts own s.answers)
missing_good s slot file got n site [] st =
    either (IsGood s) (n == 0) (Done (outcome.Bytes got) site) (ask_read file (min n s.facts.read_len) site s.answers)
    (λ z. st.within)
    (λ z. ask_read_good s site file (min n s.facts.read_len) st.within (stands_held s slot site file.grant st)
    (omega arith))
missing_good s slot file got n site (asked ∷ later) st =
    answered s asked.0 (s.answers asked.0) _ refl (λ r is. by_content (IsGood s) r site
    (refuse_locally kind.UnexpectedEof site) _ (ends_in s site st.within) st.within
    (λ bytes. missing_good s slot (further file (length bytes)) _ _
    (with_slot site slot (File (further file (length bytes)))) later
    (stands_set s slot site file.grant (File (further file (length bytes))) refl st)))

pub read_all_good : (s : Situation) (slot n : ℕ) → IsGood s (read_all_next slot n s.site s.facts s.own s.answers)
read_all_good s slot n = on_file_good s slot _ (λ file st. missing_good s slot file [] n s.site s.own st)

pub write_good : (s : Situation) (slot : ℕ) (bytes : List ℕ)
    → IsGood s (write_next slot bytes s.site s.facts s.own s.answers)
write_good s slot bytes = on_file_good s slot _ (λ file st.
    replied s s.own (write_first file bytes s.site s.facts s.answers)
    (was_written slot file (part_len s.facts bytes) s.site)
    (λ fresh. either (IsGood s) (length bytes == 0) (Done (outcome.Count 0) s.site)
    (ask_write file (next_part s.facts bytes) s.site s.answers) (λ z. as_begun s outcome.End)
    (λ z. ask_write_good s s.site file (next_part s.facts bytes) st.within (stands_held s slot s.site file.grant st)
    (taken_within (part_len s.facts bytes) s.facts.write_len bytes (omega arith))))
    (λ r. by_status (IsGood s) r s.site _ (as_begun s) (moved_within s slot s.site file
    (further file (part_len s.facts bytes)) refl st)))

-- Writes whose moved file is kept so that what the site holds stays held.
pub rest_good : (s : Situation) (Kept : Site → Type 0) (keep : FileKeeper) (file : FileAt) (bytes : List ℕ)
    (site : Site) (own : Own)
    → ((x : Site) → Kept x → HoldsWithin s x) → ((x : Site) (n : FileAt) → n.grant ≡ file.grant → Kept x
    → Kept (keep n x)) → IsHeld s file.grant → Kept site
    → IsGood s (rest_next keep file bytes site s.facts own s.answers)
rest_good s Kept keep file bytes site [] within keeps held kept =
    either (IsGood s) (length bytes == 0) (Done outcome.Done site)
    (ask_write file (next_part s.facts bytes) site s.answers) (λ z. within site kept)
    (λ z. ask_write_good s site file (next_part s.facts bytes) (within site kept) held
    (taken_within (part_len s.facts bytes) s.facts.write_len bytes (omega arith)))
rest_good s Kept keep file bytes site (asked ∷ later) within keeps held kept =
    answered s asked.0 (s.answers asked.0) _ refl (λ r is. by_status (IsGood s) r site _
    (ends_in s site (within site kept))
    (rest_good s Kept keep (further file (part_len s.facts bytes)) (drop (part_len s.facts bytes) bytes)
    (keep (further file (part_len s.facts bytes)) site) later within keeps held
    (keeps site (further file (part_len s.facts bytes)) refl kept)))

pub write_all_good : (s : Situation) (slot : ℕ) (bytes : List ℕ)
    → IsGood s (write_all_next slot bytes s.site s.facts s.own s.answers)
write_all_good s slot bytes = on_file_good s slot _ (λ file st.
    rest_good s (λ x. Stands s slot x file.grant) (in_slot slot) file bytes s.site s.own (λ x k. k.within)
    (λ x n same k. stands_set s slot x file.grant (File n) (ap (λ (m : ℕ). Some m) same) k)
    (stands_held s slot s.site file.grant st) st)
