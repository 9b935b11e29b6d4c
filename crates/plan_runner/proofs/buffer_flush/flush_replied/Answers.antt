use Rattle.std.proofs.Common.{◌==◌, sym, ◌∙◌, ap, refl, length, Some}
use Rattle.sftp_model.specs.Slots.{slot_at}
use Rattle.plan_runner.specs.declared.next.Running.TheVariants as running
use Rattle.plan_runner.specs.Buffers.{flush_oldest}
use Rattle.plan_runner.specs.Cancelling.{left_after}
use Rattle.plan_runner.specs.Pending.{pends_after}
use Rattle.plan_runner.proofs.BufferAsking.{flush_goes_on}
use Rattle.plan_runner.proofs.Flushes.{flush_left, flush_leaves, flush_pends, flush_sound, keeps_oldest, oldest_less}
use Rattle.plan_runner.proofs.buffer_flush.flush_replied.Goals as goal

pub returns-clause-left : goal.returns-clause-left
returns-clause-left c bytes =
    flush_leaves (left_after (running.Flushing c.args.slot) bytes c.args.site.now c.args.facts.now (Some c.args.reply))
    c.args.slot c.args.place bytes c.take_oldest.new.site c.args.facts.now c.flush_on.result
    c.in-Buffered-slot_of.left.deferred
    (c.flush_on.ensures ∙ ap (λ w. flush_oldest c.args.slot w) c.as_slice-2.ensures)
    (λ later answers. flush_left c.args.slot bytes c.args.site.now c.take_oldest.new.site c.args.facts.now c.args.reply
    later answers (slot_at c.args.site.now c.args.slot) c.in-Buffered.field-0 c.in-Buffered.buffer
    c.in-Buffered.buffer.deferred c.requires
    (sym c.slot_of.ensures ∙ c.in-Buffered.is) refl (ap (λ w. length w == 0) (sym c.as_slice.ensures)
    ∙ (sym c.is_empty.ensures ∙ c.if-is_empty.false)) c.take_oldest.ensures.after
    (sym c.failure.ensures ∙ c.in_default-failure.is))

pub returns-in-Some-clause-sound : goal.returns-in-Some-clause-sound
returns-in-Some-clause-sound c bytes = (
  keeps_oldest c.args.facts.now c.args.site.now c.take_oldest.new.site c.args.slot
      c.take_oldest.ensures.after,
  tt,
)

pub returns-clause-sound : goal.returns-clause-sound
returns-clause-sound c bytes =
    flush_sound c.args.slot bytes c.args.facts.now c.args.site.now c.take_oldest.new.site c.flush_on.result
    c.in-Buffered-slot_of.left.deferred
    (c.flush_on.ensures ∙ ap (λ w. flush_oldest c.args.slot w) c.as_slice-2.ensures) c.requires
    (keeps_oldest c.args.facts.now c.args.site.now c.take_oldest.new.site c.args.slot c.take_oldest.ensures.after)

pub returns-in-Some-clause-pends : goal.returns-in-Some-clause-pends
returns-in-Some-clause-pends c q = oldest_less c.args.site.now c.take_oldest.new.site c.args.slot
    (slot_at c.args.site.now c.args.slot) c.requires refl c.take_oldest.ensures.after q

pub returns-clause-pends : goal.returns-clause-pends
returns-clause-pends c =
    flush_pends (pends_after (running.Flushing c.args.slot) c.args.site.now (Some c.args.reply)) c.args.place
    c.args.slot c.take_oldest.new.site c.flush_on.result c.in-Buffered-slot_of.left.deferred
    (c.flush_on.ensures ∙ ap (λ w. flush_oldest c.args.slot w) c.as_slice-2.ensures)
    (λ q. oldest_less c.args.site.now c.take_oldest.new.site c.args.slot (slot_at c.args.site.now c.args.slot)
    c.requires refl c.take_oldest.ensures.after q)

pub returns-clause-asks : goal.returns-clause-asks
returns-clause-asks c =
    flush_goes_on c.args.place c.args.slot c.in-Buffered-slot_of.field-0 c.in-Buffered-slot_of.left c.args.site.now
    c.take_oldest.new.site c.flush_on.result c.in-Buffered-slot_of.left.deferred
    (sym c.slot_of-2.ensures ∙ c.in-Buffered-slot_of.is) refl (c.flush_on.ensures
    ∙ ap (λ w. flush_oldest c.args.slot w) c.as_slice-2.ensures)
