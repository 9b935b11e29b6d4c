-- What a cancelled transfer leaves, from a site where its file was moved.
use Rattle.std.proofs.Common.{◌≡◌, ◌<◌, ◌∙◌, ap, sym, refl, length, ℕ, List, ◌∷◌, Option, Some, None}
use Rattle.std.specs.Prelude.{IfOk, Result, Ok, Err}
use Rattle.ssh_encoding.specs.declared.out_of_memory.OutOfMemory.{OutOfMemory}
use Rattle.sftp_model.specs.declared.request.Request.{Request}
use Rattle.sftp_model.specs.declared.slot.Facts.{Facts}
use Rattle.sftp_model.specs.declared.slot.Site.{Site}
use Rattle.sftp_model.specs.declared.slot.FileAt.{FileAt}
use Rattle.sftp_model.specs.declared.slot.Slot.{Slot}
use Rattle.sftp_model.specs.declared.slot.Slot.TheVariants.{File}
use Rattle.sftp_model.specs.Slots.{slot_at, with_slot}
use Rattle.plan_model.specs.Moves.{Answers, Own, left_on_file}
use Rattle.plan_model.specs.TransferPlans.{cancelled_transfer, last_offset, offset_asked}
use Rattle.plan_runner.specs.declared.next.Asked.TheVariants as asked
use Rattle.plan_runner.specs.declared.next.Next.{Next}
use Rattle.plan_runner.specs.declared.next.Next.TheVariants as step
use Rattle.plan_runner.specs.Runners.{request_with_handles, keep_in}
use Rattle.plan_runner.specs.Cancelling.{AsksOffset, LeavesCancelled, left_kept}
use Rattle.plan_runner.specs.Sound.{IsKept}
use Rattle.plan_runner.proofs.SlotSets.{set_at, set_twice}

-- ---- the same offset, from either site

-- where the slot holds this file, the offset asked last is set
pub transfer_of : (slot : ℕ) (site : Site) (facts : Facts) (file : FileAt) (own : Own) (answers : Answers)
    → slot_at site slot ≡ File file
    → cancelled_transfer slot site facts own answers ≡ with_slot site slot
    (File (record file { offset = last_offset file.offset own }))
transfer_of slot site facts file own answers at = ap (λ (x : Slot). left_on_file x site
    (λ f. with_slot site slot (File (record f { offset = last_offset f.offset own })))) at

moved_same : (slot offset : ℕ) (old new : Site) (facts : Facts) (file : FileAt) (asked : ℕ × Request) (later : Own)
    (answers : Answers) → slot < length old.slots → slot_at old slot ≡ File file
    → new ≡ with_slot old slot (File (record file { offset = offset })) → last_offset file.offset (asked ∷ later)
    ≡ last_offset offset (asked ∷ later)
    → cancelled_transfer slot old facts (asked ∷ later) answers
    ≡ cancelled_transfer slot new facts (asked ∷ later) answers
moved_same slot offset old new facts file asked later answers lt at is same =
    let moved : FileAt = record file { offset = offset } in
    let there : slot_at new slot ≡ File moved = ap (λ s. slot_at s slot) is ∙ set_at old slot (File moved) lt in
    let twice : with_slot new slot (File (record file { offset = last_offset offset (asked ∷ later) }))
    ≡ with_slot old slot (File (record file { offset = last_offset offset (asked ∷ later) }))
    = ap (λ s. with_slot s slot (File (record file { offset = last_offset offset (asked ∷ later) }))) is
    ∙ set_twice old slot (File moved) (File (record file { offset = last_offset offset (asked ∷ later) })) in
    transfer_of slot old facts file (asked ∷ later) answers at
    ∙ (ap (λ n. with_slot old slot (File (record file { offset = n }))) same
    ∙ (sym twice ∙ sym (transfer_of slot new facts moved (asked ∷ later) answers there)))

-- a request at the offset where the file stands
pub left_asked : (slot : Option ℕ) (site : Site) (facts : Facts) (file : FileAt) (asked : ℕ × Request) (later : Own)
    (answers : Answers) → IsKept slot file site → offset_asked file.offset asked.1 ≡ file.offset
    → left_kept slot site facts (asked ∷ later) answers ≡ left_kept slot site facts later answers
left_asked None site facts file asked later answers kept is = refl
left_asked (Some slot) site facts file asked later answers kept is =
    transfer_of slot site facts file (asked ∷ later) answers kept.1
    ∙ (ap (λ n. with_slot site slot (File (record file { offset = last_offset n later }))) is
    ∙ sym (transfer_of slot site facts file later answers kept.1))

kept_same : (slot : Option ℕ) (offset : ℕ) (old new : Site) (facts : Facts) (file : FileAt) (asked : ℕ × Request)
    (later : Own) (answers : Answers) → IsKept slot file old
    → new ≡ keep_in slot (record file { offset = offset }) old → last_offset file.offset (asked ∷ later)
    ≡ last_offset offset (asked ∷ later)
    → left_kept slot old facts (asked ∷ later) answers ≡ left_kept slot new facts (asked ∷ later) answers
kept_same None offset old new facts file asked later answers kept is same = sym is
kept_same (Some slot) offset old new facts file asked later answers kept is same =
    moved_same slot offset old new facts file asked later answers kept.0 kept.1 is same

pub leaves_moved : (slot : Option ℕ) (offset : ℕ) (old new : Site) (facts : Facts) (file : FileAt) (place : ℕ)
    (bytes : List ℕ) (n : Next) → IsKept slot file old → new ≡ keep_in slot (record file { offset = offset }) old
    → AsksOffset n → LeavesCancelled (left_kept slot new facts) place bytes new facts n
    → LeavesCancelled (left_kept slot old facts) place bytes new facts n
leaves_moved slot offset old new facts file place bytes (step.Ask (asked.Read grant at len) r) kept is asks g =
    λ answers later. kept_same slot offset old new facts file (
      place,
      request_with_handles (asked.Read grant at len) answers,
    ) later
    answers kept is refl ∙ g answers later
leaves_moved slot offset old new facts file place bytes (step.Ask (asked.Write grant at content) r) kept is asks g =
    λ answers later. kept_same slot offset old new facts file (
      place,
      request_with_handles (asked.Write grant at content) answers,
    )
    later answers kept is refl ∙ g answers later
leaves_moved slot offset old new facts file place bytes (step.Done o) kept is asks g = tt
leaves_moved slot offset old new facts file place bytes n kept is asks g = absurd asks

pub leaves_moved_ok : (slot : Option ℕ) (offset : ℕ) (old new : Site) (facts : Facts) (file : FileAt) (place : ℕ)
    (bytes : List ℕ) (n : Result Next OutOfMemory) → IsKept slot file old → new
    ≡ keep_in slot (record file { offset = offset }) old
    → IfOk n AsksOffset → IfOk n (λ x. LeavesCancelled (left_kept slot new facts) place bytes new facts x)
    → IfOk n (λ x. LeavesCancelled (left_kept slot old facts) place bytes new facts x)
leaves_moved_ok slot offset old new facts file place bytes (Ok n) kept is asks g =
    leaves_moved slot offset old new facts file place bytes n kept is asks g
leaves_moved_ok slot offset old new facts file place bytes (Err e) kept is asks g = g
