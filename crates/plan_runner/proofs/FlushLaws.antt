-- What a cancelled flush leaves, by the reply to the oldest deferred write of its slot.
use Rattle.std.proofs.Common.{◌≡◌, ◌∙◌, ◌<◌, ap, refl, sym, ℕ, true, false, List, [], ◌∷◌, Some, None, length}
use Rattle.sftp_model.specs.declared.slot.FileAt.{FileAt}
use Rattle.sftp_model.specs.declared.slot.Buffer.{Buffer}
use Rattle.sftp_model.specs.declared.slot.Facts.{Facts}
use Rattle.sftp_model.specs.declared.slot.Site.{Site}
use Rattle.sftp_model.specs.declared.slot.Slot.{Slot}
use Rattle.sftp_model.specs.declared.slot.Slot.TheVariants.{Empty, File, Buffered}
use Rattle.sftp_model.specs.Slots.{slot_at, with_slot}
use Rattle.plan_model.specs.Moves.{Answers, Own, left_on_buffered}
use Rattle.plan_model.specs.BufferPlans.{cancelled_buf_flush, is_good, unflushed_writes, with_deferred}
use Rattle.plan_runner.specs.Buffers.{but_oldest, oldest, oldest_in, without_oldest}
use Rattle.plan_runner.proofs.SlotSets.{set_at, set_same, set_twice}

-- what a flush leaves of a buffered file in its slot
left_by : (slot : ℕ) (site : Site) (facts : Facts) (own : Own) (answers : Answers) (file : FileAt) (buffer : Buffer)
    → slot_at site slot ≡ Buffered file buffer → cancelled_buf_flush slot site facts own answers
    ≡ with_deferred slot file buffer site (unflushed_writes answers buffer.deferred)
left_by slot site facts own answers file buffer here = ap (λ (x : Slot). left_on_buffered x site
    (λ f b. with_deferred slot f b site (unflushed_writes answers b.deferred))) here

-- ---- after a STATUS 0

good_passes : (answers : Answers) (writes : List (ℕ × ℕ)) (p : ℕ) → oldest writes ≡ Some p → is_good (answers p) ≡ true
    → unflushed_writes answers writes ≡ unflushed_writes answers (but_oldest writes)
good_passes answers [] p at good = absurd cc
good_passes answers (write ∷ writes) p at good =
    (let same : write.0 ≡ p = cc in let here : is_good (answers write.0) ≡ true = ap (λ k. is_good (answers k)) same
    ∙ good in rw here refl)

-- the oldest write was flushed
pub flush_passes : (slot : ℕ) (site : Site) (facts : Facts) (own : Own) (answers : Answers) (p : ℕ)
    → slot < length site.slots → oldest_in (slot_at site slot) ≡ Some p → is_good (answers p) ≡ true
    → cancelled_buf_flush slot site facts own answers ≡ cancelled_buf_flush slot
    (without_oldest site slot (slot_at site slot)) facts own answers
flush_passes slot site facts own answers p lt at good = by_slot (slot_at site slot) refl at
  where
    by_slot : (x : Slot) → slot_at site slot ≡ x → oldest_in x ≡ Some p
        → cancelled_buf_flush slot site facts own answers ≡ cancelled_buf_flush slot
        (without_oldest site slot (slot_at site slot)) facts own answers
    by_slot Empty here first = absurd cc
    by_slot (File file) here first = absurd cc
    by_slot (Buffered file buffer) here first =
        let left : List (ℕ × ℕ) = but_oldest buffer.deferred in
        let freed : Slot = Buffered file (record buffer { deferred = left }) in
        let flushed : Slot = Buffered file (record buffer { deferred = unflushed_writes answers left }) in
        left_by slot site facts own answers file buffer here
        ∙ (ap (λ (w : List (ℕ × ℕ)). with_deferred slot file buffer site w)
        (good_passes answers buffer.deferred p first good)
        ∙ (sym (set_twice site slot freed flushed)
        ∙ (sym (left_by slot (with_slot site slot freed) facts own answers file (record buffer { deferred = left })
        (set_at site slot freed lt))
        ∙ sym (ap (λ (x : Slot). cancelled_buf_flush slot (without_oldest site slot x) facts own answers) here))))

-- ---- without one

none_left : (writes : List (ℕ × ℕ)) (answers : Answers) → oldest writes ≡ None → unflushed_writes answers writes
    ≡ writes
none_left [] answers none = refl
none_left (write ∷ writes) answers none = absurd cc

bad_stops : (writes : List (ℕ × ℕ)) (answers : Answers) (p : ℕ) → oldest writes ≡ Some p → is_good (answers p) ≡ false
    → unflushed_writes answers writes ≡ writes
bad_stops [] answers p at bad = absurd cc
bad_stops (write ∷ writes) answers p at bad =
    (let same : write.0 ≡ p = cc in let here : is_good (answers write.0) ≡ false = ap (λ k. is_good (answers k)) same
    ∙ bad in rw here refl)

-- where the writes stay, so does the site
writes_stay : (slot : ℕ) (site : Site) (facts : Facts) (own : Own) (answers : Answers) (file : FileAt) (buffer : Buffer)
    → slot_at site slot ≡ Buffered file buffer → unflushed_writes answers buffer.deferred ≡ buffer.deferred
    → cancelled_buf_flush slot site facts own answers ≡ site
writes_stay slot site facts own answers file buffer here stay =
    left_by slot site facts own answers file buffer here ∙ (ap
    (λ (w : List (ℕ × ℕ)). with_deferred slot file buffer site w) stay
    ∙ set_same site slot (Buffered file buffer) here)

nothing_there : (slot : ℕ) (site : Site) (facts : Facts) (own : Own) (answers : Answers) (x : Slot) → slot_at site slot
    ≡ x → left_on_buffered x site (λ f b. with_deferred slot f b site (unflushed_writes answers b.deferred)) ≡ site
    → cancelled_buf_flush slot site facts own answers ≡ site
nothing_there slot site facts own answers x here stays = ap (λ (y : Slot). left_on_buffered y site
    (λ f b. with_deferred slot f b site (unflushed_writes answers b.deferred))) here ∙ stays

-- no write is deferred
pub flush_ends : (slot : ℕ) (site : Site) (facts : Facts) (own : Own) (answers : Answers)
    → oldest_in (slot_at site slot) ≡ None → cancelled_buf_flush slot site facts own answers ≡ site
flush_ends slot site facts own answers none = by_slot (slot_at site slot) refl none
  where
    by_slot : (x : Slot) → slot_at site slot ≡ x → oldest_in x ≡ None → cancelled_buf_flush slot site facts own answers
        ≡ site
    by_slot Empty here first = nothing_there slot site facts own answers Empty here refl
    by_slot (File file) here first = nothing_there slot site facts own answers (File file) here refl
    by_slot (Buffered file buffer) here first = writes_stay slot site facts own answers file buffer here
        (none_left buffer.deferred answers first)

-- the oldest write has no STATUS 0
pub flush_stops : (slot : ℕ) (site : Site) (facts : Facts) (own : Own) (answers : Answers) (p : ℕ)
    → oldest_in (slot_at site slot) ≡ Some p → is_good (answers p) ≡ false
    → cancelled_buf_flush slot site facts own answers ≡ site
flush_stops slot site facts own answers p at bad = by_slot (slot_at site slot) refl at
  where
    by_slot : (x : Slot) → slot_at site slot ≡ x → oldest_in x ≡ Some p
        → cancelled_buf_flush slot site facts own answers ≡ site
    by_slot Empty here first = absurd cc
    by_slot (File file) here first = absurd cc
    by_slot (Buffered file buffer) here first = writes_stay slot site facts own answers file buffer here
        (bad_stops buffer.deferred answers p first bad)
