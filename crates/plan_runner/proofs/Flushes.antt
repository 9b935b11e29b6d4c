-- A flush that goes on.
use Rattle.std.proofs.Common.{
  ◌≡◌,
  ◌∙◌,
  ◌<◌,
  ◌≤◌,
  ◌+◌,
  ◌-◌,
  ◌==◌,
  ap,
  refl,
  sym,
  subst,
  arith,
  ℕ,
  Bool,
  true,
  false,
  List,
  [],
  ◌∷◌,
  Option,
  Some,
  None,
  length,
  if◌then◌else◌,
}
use Rattle.std.specs.Prelude.{slice_index_or, slice_set}
use Rattle.sftp_model.specs.declared.outcome.Outcome.{Outcome}
use Rattle.sftp_model.specs.declared.reply.Reply.{Reply}
use Rattle.sftp_model.specs.declared.reply.Reply.TheVariants as reply
use Rattle.sftp_model.specs.declared.slot.FileAt.{FileAt}
use Rattle.sftp_model.specs.declared.slot.Buffer.{Buffer}
use Rattle.sftp_model.specs.declared.slot.Facts.{Facts}
use Rattle.sftp_model.specs.declared.slot.Site.{Site}
use Rattle.sftp_model.specs.declared.slot.Slot.{Slot}
use Rattle.sftp_model.specs.declared.slot.Slot.TheVariants.{Empty, File, Buffered}
use Rattle.sftp_model.specs.Slots.{slot_at, with_slot}
use Rattle.plan_model.specs.Moves.{Answers, Own, left_on_buffered}
use Rattle.plan_model.specs.BufferPlans.{pending_bytes, with_deferred, is_good, unflushed_writes}
use Rattle.plan_runner.specs.declared.next.Next.{Next}
use Rattle.plan_runner.specs.declared.next.Running.TheVariants as running
use Rattle.plan_runner.specs.Runners.{failure_of, refusal_of}
use Rattle.plan_runner.specs.Buffers.{but_oldest, flush_oldest, left_flushed, oldest, oldest_in, without_oldest}
use Rattle.plan_runner.specs.Cancelling.{LeavesCancelled, SiteAfterCancel, left_behind}
use Rattle.plan_runner.specs.Sound.{IsWithin, KeepsSite, KeepsRunningSound}
use Rattle.plan_runner.specs.Pending.{AwaitsNoMore, PendsAfter, maybe, one, slot_times, slots_times, writes_times}
use Rattle.plan_runner.proofs.SlotSets.{set_at, set_twice}
use Rattle.plan_runner.proofs.Fewer.{set_times}
use Rattle.plan_runner.proofs.Keeping.{keeps_set, set_count}

good_is : (r : Reply) → failure_of r ≡ None → is_good (Some r) ≡ true
good_is (reply.Status code message language) e = by_code (code == 0) e
  where
    by_code : (b : Bool) (e : ◌≡◌ {A = Option Outcome} (if b then None else
        Some (refusal_of (reply.Status code message language))) None) → b ≡ true
    by_code true e = refl
    by_code false e = absurd cc
good_is other e = absurd cc

-- what is left by a flush that goes on after a STATUS 0
pub flush_left : (slot : ℕ) (bytes : List ℕ) (site left : Site) (facts : Facts) (r : Reply) (later : Own)
    (answers : Answers) (x : Slot) (file : FileAt) (buffer : Buffer) (all : List (ℕ × ℕ)) → slot < length site.slots → x
    ≡ Buffered file buffer → buffer.deferred ≡ all → (length all == 0) ≡ false
    → left ≡ without_oldest site slot x → failure_of r ≡ None
    → left_on_buffered x site (λ f b. left_flushed slot f b site b.deferred r answers)
    ≡ left_behind (running.Flushing slot) bytes left facts later answers
flush_left slot bytes site left facts r later answers x file buffer [] lt at some full is good = absurd cc
flush_left slot bytes site left facts r later answers x file buffer (write ∷ writes) lt at some full is good =
    let freed : Site = with_deferred slot file buffer site writes in
    let same : left ≡ freed = is ∙ rw at (rw some refl) in
    let there : slot_at left slot ≡ Buffered file (record buffer { deferred = writes }) = ap (λ s. slot_at s slot) same
    ∙ set_at site slot (Buffered file (record buffer { deferred = writes })) lt in
    rw (there, same, at) (rw (some, good_is r good) (sym (set_twice site slot
    (Buffered file (record buffer { deferred = writes })) (Buffered file
    (record buffer { deferred = unflushed_writes answers writes })))))

pub flush_leaves : (plan : SiteAfterCancel) (slot place : ℕ) (bytes : List ℕ) (left : Site) (facts : Facts) (n : Next)
    (writes : List (ℕ × ℕ)) → n ≡ flush_oldest slot writes
    → ((later : Own) (answers : Answers) → plan later answers ≡ left_behind (running.Flushing slot) bytes left facts
    later answers) → LeavesCancelled plan place bytes left facts n
flush_leaves plan slot place bytes left facts n [] is same = rw is tt
flush_leaves plan slot place bytes left facts n (write ∷ writes) is same = rw is (λ answers later. same later answers)

-- ---- the oldest deferred write is taken out

fewer_pending : (writes : List (ℕ × ℕ)) → pending_bytes (but_oldest writes) ≤ pending_bytes writes
fewer_pending [] = omega arith
fewer_pending (write ∷ writes) = omega arith

pub without_within : (facts : Facts) (site : Site) (slot : ℕ) (x : Slot) → IsWithin facts x
    → KeepsSite facts site (without_oldest site slot x)
without_within facts site slot (Buffered file buffer) fits =
    keeps_set facts site (with_deferred slot file buffer site (but_oldest buffer.deferred)) slot
    (Buffered file (record buffer { deferred = but_oldest buffer.deferred })) refl (
      let less : pending_bytes (but_oldest buffer.deferred) ≤ pending_bytes buffer.deferred =
          fewer_pending buffer.deferred in
          let was : pending_bytes buffer.deferred ≤ facts.write_limit = fits.0 in omega (arith, less, was),
      fits.1,
    )
without_within facts site slot (File file) fits = keeps_set facts site (with_slot site slot (File file)) slot
    (File file) refl tt
without_within facts site slot Empty fits = keeps_set facts site (with_slot site slot Empty) slot Empty refl tt

pub keeps_oldest : (facts : Facts) (site new : Site) (slot : ℕ) → new ≡ without_oldest site slot (slot_at site slot)
    → KeepsSite facts site new
keeps_oldest facts site new slot is = subst (λ (s : Site). KeepsSite facts site s) (sym is)
    (record {
      count = oldest_count site slot (slot_at site slot);
      limit =
          λ h. (without_within facts site slot (slot_at site slot) (h slot)).limit h;
    })
  where
    oldest_count : (site : Site) (slot : ℕ) (x : Slot) → length (without_oldest site slot x).slots ≡ length site.slots
    oldest_count site slot (Buffered file buffer) = set_count site slot
        (Buffered file (record buffer { deferred = but_oldest buffer.deferred }))
    oldest_count site slot (File file) = set_count site slot (File file)
    oldest_count site slot Empty = set_count site slot Empty

-- and the flush can go on
pub flush_sound : (slot : ℕ) (bytes : List ℕ) (facts : Facts) (old new : Site) (n : Next) (writes : List (ℕ × ℕ)) → n
    ≡ flush_oldest slot writes → slot < length old.slots → KeepsSite facts old new
    → KeepsRunningSound bytes facts old new n
flush_sound slot bytes facts old new n [] is lt keep = rw is (keep, tt)
flush_sound slot bytes facts old new n (write ∷ writes) is lt keep =
    rw is (keep, subst (λ (k : ℕ). slot < k) (sym keep.count) lt)

oldest_gone : (q : ℕ) (site : Site) (slot : ℕ) (x : Slot) → slot < length site.slots → slot_at site slot ≡ x
    → slots_times q (without_oldest site slot x).slots + maybe (oldest_in x) q ≤ slots_times q site.slots
oldest_gone q site slot Empty lt here = (let set : slots_times q (slice_set site.slots slot Empty) + slot_times q
    (slice_index_or site.slots slot Empty) ≡ slots_times q site.slots + 0 = set_times q site.slots slot Empty lt in
    omega (arith, set))
oldest_gone q site slot (File file) lt here = (let set : slots_times q (slice_set site.slots slot (File file)) +
    slot_times q (slice_index_or site.slots slot Empty) ≡ slots_times q site.slots + 0 =
    set_times q site.slots slot (File file) lt in omega (arith, set))
oldest_gone q site slot (Buffered file buffer) lt here = by_writes buffer.deferred (ap (slot_times q) here)
  where
    by_writes : (writes : List (ℕ × ℕ)) → slot_times q (slice_index_or site.slots slot Empty)
        ≡ maybe buffer.reading q + writes_times q writes
        → slots_times q (with_deferred slot file buffer site (but_oldest writes)).slots + maybe (oldest writes) q ≤
        slots_times q site.slots
    by_writes [] was = (let set : slots_times q (slice_set site.slots slot
        (Buffered file (record buffer { deferred = [] }))) + slot_times q (slice_index_or site.slots slot Empty)
        ≡ slots_times q site.slots + (maybe buffer.reading q + 0) =
        set_times q site.slots slot (Buffered file (record buffer { deferred = [] })) lt in omega (arith, set, was))
    by_writes (write ∷ writes) was = (let set : slots_times q (slice_set site.slots slot
        (Buffered file (record buffer { deferred = writes }))) + slot_times q (slice_index_or site.slots slot Empty)
        ≡ slots_times q site.slots + (maybe buffer.reading q + writes_times q writes) =
        set_times q site.slots slot (Buffered file (record buffer { deferred = writes })) lt in
        let full : slot_times q (slice_index_or site.slots slot Empty)
        ≡ maybe buffer.reading q + (one write.0 q + writes_times q writes) = was in omega (arith, set, full))

pub oldest_less : (site new : Site) (slot : ℕ) (x : Slot) → slot < length site.slots → slot_at site slot ≡ x → new
    ≡ without_oldest site slot x → (q : ℕ) → slots_times q new.slots ≤ slots_times q site.slots - maybe (oldest_in x) q
oldest_less site new slot x lt here is q = (let gone : slots_times q (without_oldest site slot x).slots + maybe
    (oldest_in x) q ≤ slots_times q site.slots = oldest_gone q site slot x lt here in let same : slots_times q new.slots
    ≡ slots_times q (without_oldest site slot x).slots = ap (λ (s : Site). slots_times q s.slots) is in
    omega (arith, gone, same))

pub fewer_oldest : (site new : Site) (slot : ℕ) → slot < length site.slots → new
    ≡ without_oldest site slot (slot_at site slot) → AwaitsNoMore site new
fewer_oldest site new slot lt is = record {
  each = λ q. (let less : slots_times q new.slots ≤ slots_times q site.slots - maybe (oldest_in (slot_at site slot)) q =
      oldest_less site new slot (slot_at site slot) lt refl is q in omega (arith, less));
}

-- and the next is awaited, or the flush ends
pub flush_pends : (before : ℕ → ℕ) (place slot : ℕ) (site : Site) (n : Next) (writes : List (ℕ × ℕ)) → n
    ≡ flush_oldest slot writes → ((q : ℕ) → slots_times q site.slots ≤ before q) → PendsAfter before place site n
flush_pends before place slot site n [] is le = rw is (λ q. le q)
flush_pends before place slot site n (write ∷ writes) is le = rw is (λ q. le q)
