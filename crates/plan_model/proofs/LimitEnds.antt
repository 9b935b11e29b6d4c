-- Each call that ends or is cancelled leaves the deferred writes of buffers within the limit.
use Rattle.std.proofs.Common.{◌≤◌, ℕ, List, [], ◌∷◌, sym, subst, arith}
use Rattle.std.specs.Prelude.{not}
use Rattle.sftp_model.specs.declared.error.IoKind.TheVariants as kind
use Rattle.sftp_model.specs.declared.slot.Facts.{Facts}
use Rattle.sftp_model.specs.declared.slot.Slot.{Slot}
use Rattle.sftp_model.specs.declared.slot.Slot.TheVariants.{Empty, File, Buffered}
use Rattle.sftp_model.specs.declared.slot.Site.{Site}
use Rattle.sftp_model.specs.Slots.{slot_at}
use Rattle.plan_model.specs.Moves.{Answers, Own, refuse_locally}
use Rattle.plan_model.specs.BufferPlans.{pending_bytes, after_writes}
use Rattle.plan_model.specs.declared.call.Call.TheVariants as call
use Rattle.plan_model.specs.declared.call.Call.{Call}
use Rattle.plan_model.specs.CallPlans.{site_after_cancel, next}
use Rattle.plan_model.specs.GoodMoves.{FitsFacts}
use Rattle.plan_model.specs.OwnRequests.{oldest_first, IsCallSoFar}
use Rattle.plan_model.specs.RequestCounts.{EachHasByte, BuffersWithin, LeavesWithin}
use Rattle.plan_model.proofs.MoveLaws.{either, at_buffered}
use Rattle.plan_model.proofs.LeftSites.{AwaitsNothing, IsKept, seek_leaves, on_buffer_left}
use Rattle.plan_model.proofs.LeftCalls.{ChangesBuffer, call_leaves, cancelled_leaves}
use Rattle.plan_model.proofs.LimitLaws.{SlotWithin, within_set, carried_within}
use Rattle.plan_model.proofs.LimitWrites.{all_carry, one_carries, sent_leaves, rest_leaves}
use Rattle.plan_model.proofs.LimitBuffers.{buffer_leaves, sought_leaves, buf_read_leaves, reading_leaves, flush_leaves, unflushed_leaves}

idle_within : (facts : Facts) (x : Slot) → AwaitsNothing x → SlotWithin facts x
idle_within facts Empty idle = tt
idle_within facts (File file) idle = tt
idle_within facts (Buffered file buffer) idle =
    record {
      within = subst (λ (writes : List (ℕ × ℕ)). pending_bytes writes ≤ facts.write_limit) (sym idle.0) (omega arith);
      each = subst EachHasByte (sym idle.0) tt;
    }

within_kept : (facts : Facts) → IsKept (BuffersWithin facts)
within_kept facts = record {
  set = λ site slot x idle b. within_set facts site slot x (idle_within facts x idle) b;
  moved = λ site path b. b;
}

pub ended_within : (c : Call) (site : Site) (facts : Facts) (past : Own) (answers : Answers) → FitsFacts facts
    → BuffersWithin facts site → IsCallSoFar c site facts past answers
    → LeavesWithin facts (next c site facts (oldest_first past) answers)
ended_within c site facts past answers k b s = call_leaves (BuffersWithin facts) (within_kept facts) c site facts
    (oldest_first past) answers b (of_buffer c s)
  where
    of_buffer : (d : Call) → IsCallSoFar d site facts past answers → ChangesBuffer d
        → LeavesWithin facts (next d site facts (oldest_first past) answers)
    of_buffer (call.BufRead slot n) s h = buffer_leaves facts site slot _ b
        (λ file buffer w. buf_read_leaves facts slot n file buffer site (oldest_first past) answers w b)
    of_buffer (call.BufWrite slot bytes) s h = buffer_leaves facts site slot _ b
        (λ file buffer w. sent_leaves slot bytes file buffer site facts (oldest_first past) answers k.write_len.0
        k.write_limit w b)
    of_buffer (call.BufWriteAll slot bytes) s h = at_buffered (LeavesWithin facts) (slot_at site slot) site _ (λ o. b)
        (λ file buffer at.
        rest_leaves slot bytes file buffer site facts (oldest_first past) answers k.write_limit (b slot file buffer at)
        b (all_carry slot bytes site facts file buffer past answers k.write_len.0 k.write_limit b at s.asked))
    of_buffer (call.BufFlush slot) s h = buffer_leaves facts site slot _ b (λ file buffer w.
        either (LeavesWithin facts) (not file.writable) (refuse_locally kind.NotWritable site) _ (λ e. b)
        (λ e. flush_leaves facts slot file buffer site answers buffer.deferred w.within w.each b))
    of_buffer (call.BufSeek slot position) s h = buffer_leaves facts site slot _ b
        (λ file buffer w. seek_leaves (BuffersWithin facts) position file.offset site _ b
        (λ to. sought_leaves facts site slot file to buffer w b))
    of_buffer other s h = absurd h

-- ---- cancelled

pub cancelled_within : (c : Call) (site : Site) (facts : Facts) (past : Own) (answers : Answers) → FitsFacts facts
    → BuffersWithin facts site → IsCallSoFar c site facts past answers
    → BuffersWithin facts (site_after_cancel c site facts (oldest_first past) answers)
cancelled_within c site facts past answers k b s = cancelled_leaves (BuffersWithin facts) (within_kept facts) c site
    facts (oldest_first past) answers b (of_buffer c s)
  where
    by_own : (slot n : ℕ) (own : Own) → BuffersWithin facts (site_after_cancel (call.BufRead slot n) site facts own
        answers)
    by_own slot n [] = b
    by_own slot n (asked ∷ later) = on_buffer_left (BuffersWithin facts) site (slot_at site slot) _ b
        (λ file buffer at. reading_leaves facts site slot asked.0 file buffer (b slot file buffer at) b)

    of_buffer : (d : Call) → IsCallSoFar d site facts past answers → ChangesBuffer d
        → BuffersWithin facts (site_after_cancel d site facts (oldest_first past) answers)
    of_buffer (call.BufRead slot n) s h = by_own slot n (oldest_first past)
    of_buffer (call.BufWrite slot bytes) s h = on_buffer_left (BuffersWithin facts) site (slot_at site slot) _ b
        (λ file buffer at.
        within_set facts site slot (after_writes facts file buffer (oldest_first past))
        (carried_within facts bytes file buffer (oldest_first past) k.write_limit (b slot file buffer at)
        (one_carries slot bytes site facts file buffer past answers k.write_len.0 k.write_limit b at s.asked)) b)
    of_buffer (call.BufWriteAll slot bytes) s h = on_buffer_left (BuffersWithin facts) site (slot_at site slot) _ b
        (λ file buffer at.
        within_set facts site slot (after_writes facts file buffer (oldest_first past))
        (carried_within facts bytes file buffer (oldest_first past) k.write_limit (b slot file buffer at)
        (all_carry slot bytes site facts file buffer past answers k.write_len.0 k.write_limit b at s.asked)) b)
    of_buffer (call.BufFlush slot) s h = on_buffer_left (BuffersWithin facts) site (slot_at site slot) _ b
        (λ file buffer at. unflushed_leaves facts site slot file buffer answers (b slot file buffer at) b)
    of_buffer (call.BufSeek slot position) s h = b
    of_buffer other s h = absurd h
