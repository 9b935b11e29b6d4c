use Rattle.std.proofs.Common.{rules, ◌∙◌, ap, inl, refl, sym, subst, ℕ, List}
use Rattle.sftp_model.specs.declared.slot.Slot.{Slot}
use Rattle.plan_runner.specs.Buffers.{must_wait}
use Rattle.plan_runner.specs.Deferrals.{IsDeferral}
use Rattle.plan_runner.specs.Sound.{IsWithin}
use Rattle.plan_runner.specs.Pending.{pends_idle, slots_times}
use Rattle.plan_runner.proofs.Asking.{buffered_held}
use Rattle.plan_runner.proofs.BufferAsking.{room_looks, settled_begins, settled_goes_on}
use Rattle.plan_runner.proofs.Deferring.{at_most_self, none_freed, sent_goes, settled_leaves, settled_pends, settled_sound}
use Rattle.plan_runner.proofs.buffer_write.send.Goals as goal

pub returns : goal.returns
returns c = record {
  goes = let sent : IsDeferral c.args.unwritten.slot c.args.unwritten.done c.in-Buffered.file c.in-Buffered.buffer
      c.args.bytes.now
      c.args.turn.place
      c.args.turn.facts c.in_ok-deferral.deferral
      = subst (λ (w : List (ℕ × ℕ)). IsDeferral c.args.unwritten.slot c.args.unwritten.done c.in-Buffered.file
      (record c.in-Buffered.buffer { deferred = w }) c.args.bytes.now c.args.turn.place c.args.turn.facts
      c.in_ok-deferral.deferral) c.as_slice-writes.ensures c.in_ok-deferral.ensures in
      sent_goes c.args.unwritten.slot c.args.unwritten.done c.in-Buffered.file c.in-Buffered.buffer c.args.bytes.now
      c.args.turn.place
      c.args.site.now c.settle.new.site c.args.turn.facts c.in_ok-deferral.deferral c.settle.result
      c.requires.slot (sym c.slot_of.ensures ∙ c.in-Buffered.is)
      (ap (must_wait c.args.turn.facts.write_limit) (sym c.as_slice-writes.ensures)
      ∙ (sym c.must_wait.ensures ∙ c.if-must_wait.false)) sent c.settle.ensures.next c.settle.ensures.site;
  left = let sent : IsDeferral c.args.unwritten.slot c.args.unwritten.done c.in-Buffered.file c.in-Buffered.buffer
      c.args.bytes.now
      c.args.turn.place
      c.args.turn.facts c.in_ok-deferral.deferral
      = subst (λ (w : List (ℕ × ℕ)). IsDeferral c.args.unwritten.slot c.args.unwritten.done c.in-Buffered.file
      (record c.in-Buffered.buffer { deferred = w }) c.args.bytes.now c.args.turn.place c.args.turn.facts
      c.in_ok-deferral.deferral) c.as_slice-writes.ensures c.in_ok-deferral.ensures in
      settled_leaves c.args.unwritten.slot c.args.unwritten.done c.in-Buffered.file c.in-Buffered.buffer
      c.in-Buffered.buffer
      c.args.bytes.now
      c.args.turn.place c.args.site.now c.args.site.now c.settle.new.site c.args.turn.facts c.in_ok-deferral.deferral
      c.settle.result
      c.requires.slot (sym c.slot_of.ensures ∙ c.in-Buffered.is)
      (none_freed c.in-Buffered.buffer c.args.turn.facts.write_limit c.in-Buffered.buffer.deferred
      (ap (must_wait c.args.turn.facts.write_limit) (sym c.as_slice-writes.ensures)
      ∙ (sym c.must_wait.ensures ∙ c.if-must_wait.false)))
      (λ x. refl) sent c.settle.ensures.next c.settle.ensures.site;
  sound = let sent : IsDeferral c.args.unwritten.slot c.args.unwritten.done c.in-Buffered.file c.in-Buffered.buffer
      c.args.bytes.now
      c.args.turn.place
      c.args.turn.facts c.in_ok-deferral.deferral
      = subst (λ (w : List (ℕ × ℕ)). IsDeferral c.args.unwritten.slot c.args.unwritten.done c.in-Buffered.file
      (record c.in-Buffered.buffer { deferred = w }) c.args.bytes.now c.args.turn.place c.args.turn.facts
      c.in_ok-deferral.deferral) c.as_slice-writes.ensures c.in_ok-deferral.ensures in
      settled_sound c.args.unwritten.slot c.args.unwritten.done c.in-Buffered.file c.in-Buffered.buffer c.args.bytes.now
      c.args.turn.place
      c.args.site.now c.settle.new.site c.args.turn.facts c.in_ok-deferral.deferral c.settle.result
      c.requires.slot c.requires.done (subst (λ (x : Slot). IsWithin c.args.turn.facts x)
      (sym c.slot_of.ensures ∙ c.in-Buffered.is) (c.requires.within c.args.unwritten.slot)) sent c.settle.ensures.next
      c.settle.ensures.site;
  pends = let sent : IsDeferral c.args.unwritten.slot c.args.unwritten.done c.in-Buffered.file c.in-Buffered.buffer
      c.args.bytes.now
      c.args.turn.place
      c.args.turn.facts c.in_ok-deferral.deferral
      = subst (λ (w : List (ℕ × ℕ)). IsDeferral c.args.unwritten.slot c.args.unwritten.done c.in-Buffered.file
      (record c.in-Buffered.buffer { deferred = w }) c.args.bytes.now c.args.turn.place c.args.turn.facts
      c.in_ok-deferral.deferral) c.as_slice-writes.ensures c.in_ok-deferral.ensures in
      settled_pends (pends_idle c.args.site.now) c.args.unwritten.slot c.args.unwritten.done c.in-Buffered.file
      c.in-Buffered.buffer
      c.args.bytes.now c.args.turn.place c.args.site.now c.settle.new.site c.args.turn.facts c.in_ok-deferral.deferral
      c.settle.result
      c.requires.slot (sym c.slot_of.ensures ∙ c.in-Buffered.is)
      (λ q. at_most_self (slots_times q c.args.site.now.slots))
      sent c.settle.ensures.next c.settle.ensures.site;
  asks = let sent : IsDeferral c.args.unwritten.slot c.args.unwritten.done c.in-Buffered.file c.in-Buffered.buffer
      c.args.bytes.now
      c.args.turn.place
      c.args.turn.facts c.in_ok-deferral.deferral
      = subst (λ (w : List (ℕ × ℕ)). IsDeferral c.args.unwritten.slot c.args.unwritten.done c.in-Buffered.file
      (record c.in-Buffered.buffer { deferred = w }) c.args.bytes.now c.args.turn.place c.args.turn.facts
      c.in_ok-deferral.deferral) c.as_slice-writes.ensures c.in_ok-deferral.ensures in
      settled_begins c.args.turn.place c.args.unwritten.slot c.args.unwritten.done c.in-Buffered.file
      c.in-Buffered.buffer c.args.bytes.now
      c.args.site.now c.settle.new.site c.args.turn.facts c.in_ok-deferral.deferral c.settle.result
      (buffered_held c.args.site.now c.args.unwritten.slot c.in-Buffered.file c.in-Buffered.buffer
      (sym c.slot_of.ensures ∙ c.in-Buffered.is)) sent c.settle.ensures.next;
  goes_on = let sent : IsDeferral c.args.unwritten.slot c.args.unwritten.done c.in-Buffered.file c.in-Buffered.buffer
      c.args.bytes.now
      c.args.turn.place
      c.args.turn.facts c.in_ok-deferral.deferral
      = subst (λ (w : List (ℕ × ℕ)). IsDeferral c.args.unwritten.slot c.args.unwritten.done c.in-Buffered.file
      (record c.in-Buffered.buffer { deferred = w }) c.args.bytes.now c.args.turn.place c.args.turn.facts
      c.in_ok-deferral.deferral) c.as_slice-writes.ensures c.in_ok-deferral.ensures in
      settled_goes_on c.args.turn.place c.args.unwritten.slot c.args.unwritten.done c.in-Buffered.file
      c.in-Buffered.buffer c.args.bytes.now
      c.args.site.now c.settle.new.site c.args.turn.facts c.in_ok-deferral.deferral c.settle.result
      (buffered_held c.args.site.now c.args.unwritten.slot c.in-Buffered.file c.in-Buffered.buffer
      (sym c.slot_of.ensures ∙ c.in-Buffered.is)) sent c.settle.ensures.next;
  err = search rules;
}

pub returns-then-must_wait : goal.returns-then-must_wait
returns-then-must_wait c = record {
  goes = search rules;
  left = search rules;
  sound = search rules;
  pends = search rules;
  asks = search rules;
  goes_on = (
    room_looks c.args.unwritten.slot c.args.turn.facts.write_limit c.args.unwritten.done c.in-Buffered.file
        c.in-Buffered.buffer
        c.args.site.now (sym c.slot_of.ensures ∙ c.in-Buffered.is)
        (ap (must_wait c.args.turn.facts.write_limit) (sym c.as_slice-writes.ensures)
        ∙ (sym c.must_wait.ensures ∙ c.if-must_wait.true)),
    inl (λ y. tt),
  );
  err = search rules;
}
