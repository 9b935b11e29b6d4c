-- A cancelled call leaves no grant that its lane did not hold.
use Rattle.plan_model.specs.GoodMoves.{HoldsNoMore}
use Rattle.std.proofs.Common.{◌≡◌, ℕ, [], ◌∷◌, Some, refl, ap, sym, ◌∙◌, inl, inr}
use Rattle.sftp_model.specs.declared.slot.Facts.{Facts}
use Rattle.sftp_model.specs.declared.slot.FileAt.{FileAt}
use Rattle.sftp_model.specs.declared.slot.Buffer.{Buffer}
use Rattle.sftp_model.specs.declared.slot.Slot.{Slot}
use Rattle.sftp_model.specs.declared.slot.Site.{Site}
use Rattle.sftp_model.specs.declared.slot.Slot.TheVariants.{Empty, File, Buffered}
use Rattle.sftp_model.specs.Slots.{slot_at, with_slot, grant_of}
use Rattle.plan_model.specs.Moves.{Answers, Own, left_on_file, left_on_buffered, further}
use Rattle.plan_model.specs.FilePlans.{cancelled_close}
use Rattle.plan_model.specs.TransferPlans.{cancelled_transfer, last_offset}
use Rattle.plan_model.specs.BufferPlans.{cancelled_buf_read, cancelled_buf_write, cancelled_buf_flush, after_writes, after_write, with_oldest_settled, carried_length, unflushed_writes}
use Rattle.plan_model.specs.declared.call.Call.TheVariants as call
use Rattle.plan_model.specs.declared.call.Call.{Call}
use Rattle.plan_model.specs.CallPlans.{site_after_cancel}
use Rattle.plan_model.proofs.SlotLaws.{same_set, set_has}

kept_set : (site : Site) (slot g : ℕ) (x : Slot) → grant_of (slot_at site slot) ≡ Some g → grant_of x ≡ Some g
    → HoldsNoMore site (with_slot site slot x)
kept_set site slot g x here new h e = sym (same_set site slot g x here new h) ∙ e

on_file_kept : (site : Site) (x : Slot) (go : FileAt → Site)
    → ((file : FileAt) → x ≡ File file → HoldsNoMore site (go file)) → HoldsNoMore site (left_on_file x site go)
on_file_kept site Empty go goes = λ g h. h
on_file_kept site (File file) go goes = goes file refl
on_file_kept site (Buffered file buffer) go goes = λ g h. h

on_buffered_kept : (site : Site) (x : Slot) (go : FileAt → Buffer → Site)
    → ((file : FileAt) (buffer : Buffer) → x ≡ Buffered file buffer → HoldsNoMore site (go file buffer))
    → HoldsNoMore site (left_on_buffered x site go)
on_buffered_kept site Empty go goes = λ g h. h
on_buffered_kept site (File file) go goes = λ g h. h
on_buffered_kept site (Buffered file buffer) go goes = goes file buffer refl

transfer_kept : (slot : ℕ) (site : Site) (facts : Facts) (own : Own) (answers : Answers)
    → HoldsNoMore site (cancelled_transfer slot site facts own answers)
transfer_kept slot site facts own answers =
    on_file_kept site (slot_at site slot) _ (λ file at. kept_set site slot file.grant
    (File (record file { offset = last_offset file.offset own })) (ap grant_of at) refl)

close_kept : (slot : ℕ) (site : Site) (facts : Facts) (own : Own) (answers : Answers)
    → HoldsNoMore site (cancelled_close slot site facts own answers)
close_kept slot site facts [] answers = λ g h. h
close_kept slot site facts (asked ∷ later) answers = λ g h. elim (set_has g site.slots slot Empty h)
    [ inl was ↦ was | inr new ↦ absurd cc ]

read_kept : (slot : ℕ) (site : Site) (facts : Facts) (own : Own) (answers : Answers)
    → HoldsNoMore site (cancelled_buf_read slot site facts own answers)
read_kept slot site facts [] answers = λ g h. h
read_kept slot site facts (asked ∷ later) answers =
    on_buffered_kept site (slot_at site slot) _ (λ file buffer at. kept_set site slot file.grant
    (Buffered file (record buffer { reading = Some asked.0 })) (ap grant_of at) refl)

after_grant : (facts : Facts) (file : FileAt) (buffer : Buffer) (own : Own)
    → grant_of (after_writes facts file buffer own) ≡ Some file.grant
after_grant facts file buffer [] = refl
after_grant facts file buffer (asked ∷ later) = after_grant facts (further file (carried_length asked.1))
    (after_write (with_oldest_settled facts buffer) asked.0 (carried_length asked.1)) later

write_kept : (slot : ℕ) (site : Site) (facts : Facts) (own : Own) (answers : Answers)
    → HoldsNoMore site (cancelled_buf_write slot site facts own answers)
write_kept slot site facts own answers =
    on_buffered_kept site (slot_at site slot) _ (λ file buffer at. kept_set site slot file.grant
    (after_writes facts file buffer own) (ap grant_of at) (after_grant facts file buffer own))

flush_kept : (slot : ℕ) (site : Site) (facts : Facts) (own : Own) (answers : Answers)
    → HoldsNoMore site (cancelled_buf_flush slot site facts own answers)
flush_kept slot site facts own answers =
    on_buffered_kept site (slot_at site slot) _ (λ file buffer at. kept_set site slot file.grant
    (Buffered file (record buffer { deferred = unflushed_writes answers buffer.deferred })) (ap grant_of at) refl)

pub cancelled_holds : (c : Call) (site : Site) (facts : Facts) (own : Own) (answers : Answers)
    → HoldsNoMore site (site_after_cancel c site facts own answers)
cancelled_holds (call.ReadAll slot n) site facts own answers = transfer_kept slot site facts own answers
cancelled_holds (call.WriteAll slot bytes) site facts own answers = transfer_kept slot site facts own answers
cancelled_holds (call.WriteParts slot parts) site facts own answers = transfer_kept slot site facts own answers
cancelled_holds (call.Close slot) site facts own answers = close_kept slot site facts own answers
cancelled_holds (call.BufRead slot n) site facts own answers = read_kept slot site facts own answers
cancelled_holds (call.BufWrite slot bytes) site facts own answers = write_kept slot site facts own answers
cancelled_holds (call.BufWriteAll slot bytes) site facts own answers = write_kept slot site facts own answers
cancelled_holds (call.BufFlush slot) site facts own answers = flush_kept slot site facts own answers
cancelled_holds other site facts own answers = λ g h. h
