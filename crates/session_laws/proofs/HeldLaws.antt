-- The grants of a runner's site are those that its lane holds: no invariant says it, for what a cancelled call leaves
-- has them.
use Rattle.std.proofs.Common.{Option, None, true, false, ◌≡◌, ℕ, List, [], ◌∷◌, Some, refl, ap, sym, ◌∙◌}
use Rattle.sftp_model.specs.declared.slot.Facts.{Facts}
use Rattle.sftp_model.specs.declared.slot.Slot.{Slot}
use Rattle.sftp_model.specs.declared.slot.Slot.TheVariants.{Empty, File, Buffered}
use Rattle.sftp_model.specs.Slots.{grant_of, slot_at, with_slot, has_grant}
use Rattle.sftp_model.specs.declared.slot.Site.{Site}
use Rattle.sftp_model.specs.declared.slot.FileAt.{FileAt}
use Rattle.sftp_model.specs.declared.slot.Buffer.{Buffer}
use Rattle.plan_model.specs.Moves.{further, left_on_buffered, left_on_file, Answers, Own}
use Rattle.plan_model.specs.TransferPlans.{cancelled_transfer, last_offset}
use Rattle.plan_model.specs.BufferPlans.{
  after_write,
  after_writes,
  cancelled_buf_flush,
  cancelled_buf_read,
  cancelled_buf_write,
  carried_length,
  with_oldest_settled,
  unflushed_writes,
  with_deferred,
}
use Rattle.plan_model.proofs.SlotLaws.{same_set}
use Rattle.plan_runner.specs.Cancelling.{left_kept, left_behind}
use Rattle.plan_runner.specs.declared.next.Running.{Running}
use Rattle.plan_runner.specs.Runners.{bytes_of}
use Rattle.plan_model.specs.declared.call.Call.{Call}
use Rattle.session_model.specs.declared.entry.Entry.{Entry}
use Rattle.session_model.specs.Readings.{answer, own, count_ended}
use Rattle.session_model.specs.Calls.{Setting, current, given_up, held_by, held_site, site_of}
use Rattle.session_laws.specs.Running.{CancelTied}
use Rattle.session_laws.proofs.CancelLaws.{cancel_leaves}
use Rattle.plan_runner.specs.declared.next.Running.TheVariants as running
use Rattle.plan_model.specs.declared.call.Call.TheVariants as call
use Rattle.plan_model.specs.CallPlans.{site_after_cancel}

transfer_grants : (slot : ℕ) (site : Site) (facts : Facts) (own : Own) (answers : Answers) (g : ℕ)
    → has_grant (cancelled_transfer slot site facts own answers) g ≡ has_grant site g
transfer_grants slot site facts own answers g = by_slot (slot_at site slot) refl
  where
    by_slot : (x : Slot) → slot_at site slot ≡ x → has_grant (left_on_file x site
        (λ file. with_slot site slot (File (record file { offset = last_offset file.offset own })))) g
        ≡ has_grant site g
    by_slot Empty at = refl
    by_slot (File file) at = same_set site slot file.grant (File (record file { offset = last_offset file.offset own }))
        (ap grant_of at) refl g
    by_slot (Buffered file buffer) at = refl

read_grants : (slot : ℕ) (site : Site) (facts : Facts) (own : Own) (answers : Answers) (g : ℕ)
    → has_grant (cancelled_buf_read slot site facts own answers) g ≡ has_grant site g
read_grants slot site facts [] answers g = refl
read_grants slot site facts (asked ∷ later) answers g = by_slot (slot_at site slot) refl
  where
    by_slot : (x : Slot) → slot_at site slot ≡ x → has_grant (left_on_buffered x site
        (λ file buffer. with_slot site slot (Buffered file (record buffer { reading = Some asked.0 })))) g
        ≡ has_grant site g
    by_slot Empty at = refl
    by_slot (File file) at = refl
    by_slot (Buffered file buffer) at = same_set site slot file.grant
        (Buffered file (record buffer { reading = Some asked.0 })) (ap grant_of at) refl g

flush_grants : (slot : ℕ) (site : Site) (facts : Facts) (own : Own) (answers : Answers) (g : ℕ)
    → has_grant (cancelled_buf_flush slot site facts own answers) g ≡ has_grant site g
flush_grants slot site facts own answers g = by_slot (slot_at site slot) refl
  where
    by_slot : (x : Slot) → slot_at site slot ≡ x → has_grant (left_on_buffered x site
        (λ file buffer. with_deferred slot file buffer site (unflushed_writes answers buffer.deferred))) g
        ≡ has_grant site g
    by_slot Empty at = refl
    by_slot (File file) at = refl
    by_slot (Buffered file buffer) at = same_set site slot file.grant
        (Buffered file (record buffer { deferred = unflushed_writes answers buffer.deferred })) (ap grant_of at) refl g

-- writes move the file of a slot, and leave its grant
grant_stays : (facts : Facts) (file : FileAt) (buffer : Buffer) (own : Own)
    → grant_of (after_writes facts file buffer own) ≡ Some file.grant
grant_stays facts file buffer [] = refl
grant_stays facts file buffer (asked ∷ later) = grant_stays facts (further file (carried_length asked.1))
    (after_write (with_oldest_settled facts buffer) asked.0 (carried_length asked.1)) later

write_grants : (slot : ℕ) (site : Site) (facts : Facts) (own : Own) (answers : Answers) (g : ℕ)
    → has_grant (cancelled_buf_write slot site facts own answers) g ≡ has_grant site g
write_grants slot site facts own answers g = by_slot (slot_at site slot) refl
  where
    by_slot : (x : Slot) → slot_at site slot ≡ x → has_grant (left_on_buffered x site
        (λ file buffer. with_slot site slot (after_writes facts file buffer own))) g ≡ has_grant site g
    by_slot Empty at = refl
    by_slot (File file) at = refl
    by_slot (Buffered file buffer) at = same_set site slot file.grant (after_writes facts file buffer own)
        (ap grant_of at) (grant_stays facts file buffer own) g

-- what a cancelled call leaves has the grants that it holds, whatever the call
pub cancelled_grants : (c : Call) (site : Site) (facts : Facts) (own : Own) (answers : Answers) (g : ℕ)
    → has_grant (site_after_cancel c site facts own answers) g ≡ has_grant (given_up c own site) g
cancelled_grants (call.Close slot) site facts [] answers g = refl
cancelled_grants (call.Close slot) site facts (asked ∷ later) answers g = refl
cancelled_grants (call.ReadAll slot n) site facts own answers g = transfer_grants slot site facts own answers g
cancelled_grants (call.WriteAll slot bytes) site facts own answers g = transfer_grants slot site facts own answers g
cancelled_grants (call.WriteParts slot parts) site facts own answers g = transfer_grants slot site facts own answers g
cancelled_grants (call.BufRead slot n) site facts own answers g = read_grants slot site facts own answers g
cancelled_grants (call.BufWrite slot bytes) site facts own answers g = write_grants slot site facts own answers g
cancelled_grants (call.BufWriteAll slot bytes) site facts own answers g = write_grants slot site facts own answers g
cancelled_grants (call.BufFlush slot) site facts own answers g = flush_grants slot site facts own answers g
cancelled_grants other site facts own answers g = refl

kept_grants : (slot : Option ℕ) (site : Site) (facts : Facts) (own : Own) (answers : Answers) (g : ℕ)
    → has_grant (left_kept slot site facts own answers) g ≡ has_grant site g
kept_grants None site facts own answers g = refl
kept_grants (Some slot) site facts own answers g = transfer_grants slot site facts own answers g

-- and those of the runner's site
pub left_grants : (r : Running) (bytes : List ℕ) (site : Site) (facts : Facts) (answers : Answers) (g : ℕ)
    → has_grant (left_behind r bytes site facts [] answers) g ≡ has_grant site g
left_grants (running.Gathering place slot file got left len) bytes site facts answers g =
    transfer_grants slot site facts [] answers g
left_grants (running.Writing place slot file done) bytes site facts answers g = kept_grants slot site facts [] answers g
left_grants (running.Flushing slot) bytes site facts answers g = flush_grants slot site facts [] answers g
left_grants (running.AwaitingRoom slot start) bytes site facts answers g = write_grants slot site facts [] answers g
left_grants (running.Deferred slot count) bytes site facts answers g = write_grants slot site facts [] answers g
left_grants (running.DeferringRest slot done) bytes site facts answers g = write_grants slot site facts [] answers g
left_grants (running.FillingBuffer slot n offset true) bytes site facts answers g = refl
left_grants (running.FillingBuffer slot n offset false) bytes site facts answers g = refl
left_grants other bytes site facts answers g = refl

-- within a call
pub held_grants : (s : Setting) (past : List Entry) (lane : ℕ) (r : Running) (site : Site) (c : Call) (g : ℕ)
    → CancelTied s past lane (Some r) site → current s past lane ≡ Some c → has_grant (held_site s past lane) g
    ≡ has_grant site g
held_grants s past lane r site c g tied is =
    let mine : Own = own past lane (count_ended past lane) in
    let had : Site = site_of s past lane in
    ap (λ x. has_grant (held_by x mine had) g) is
    ∙ (sym (cancelled_grants c had s.facts mine (answer past) g)
    ∙ (ap (λ (x : Site). has_grant x g) (cancel_leaves s past lane (Some r) site c tied is)
    ∙ left_grants r (bytes_of c) site s.facts (answer past) g))
