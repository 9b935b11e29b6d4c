use Rattle.std.proofs.Common.{rules, ◌∙◌, ◌≤◌, ap, refl, sym, subst, drop, length, ℕ, List}
use Rattle.sftp_model.specs.Slots.{slot_at}
use Rattle.plan_runner.specs.Deferrals.{IsDeferral}
use Rattle.plan_runner.proofs.Asking.{buffered_held}
use Rattle.plan_runner.proofs.BufferAsking.{settled_goes_on}
use Rattle.plan_runner.proofs.Deferring.{room_goes, room_leaves, room_pends, room_sound, tail_is}
use Rattle.plan_runner.proofs.Flushes.{oldest_less}
use Rattle.plan_runner.proofs.buffer_write.room_replied.Goals as goal

pub returns-in-Some : goal.returns-in-Some
returns-in-Some c = record {
  goes = search rules;
  left = search rules;
  sound = search rules;
  pends = λ q. oldest_less c.args.site.now c.take_oldest.new.site c.args.unwritten.slot
      (slot_at c.args.site.now c.args.unwritten.slot) c.requires.slot refl c.take_oldest.ensures.after q;
  asks = search rules;
  by = search rules;
  err = search rules;
}

pub returns : goal.returns
returns c = record {
  goes = let sent : IsDeferral c.args.unwritten.slot c.args.unwritten.done c.in-Buffered.file
      (record c.in-Buffered.buffer { deferred = drop 1 c.in-Buffered.buffer.deferred }) c.args.bytes.now
      c.args.turn.place
      c.args.turn.facts c.in_ok-deferral.deferral
      = subst (λ (w : List (ℕ × ℕ)). IsDeferral c.args.unwritten.slot c.args.unwritten.done c.in-Buffered.file
      (record c.in-Buffered.buffer { deferred = w }) c.args.bytes.now c.args.turn.place c.args.turn.facts
      c.in_ok-deferral.deferral) (tail_is c.as_slice.result.now ∙ ap (drop 1) c.as_slice.ensures)
      c.in_ok-deferral.ensures in
      room_goes c.args.unwritten.slot c.args.unwritten.done c.in-Buffered.file c.in-Buffered.buffer c.args.bytes.now
      c.args.turn.place
      c.args.site.now c.take_oldest-2.new.site c.settle.new.site c.args.turn.facts c.args.reply
      c.in_ok-deferral.deferral c.settle.result
      c.requires.slot (sym c.slot_of.ensures ∙ c.in-Buffered.is)
      (subst (λ (w : List (ℕ × ℕ)). 1 ≤ length w) c.as_slice.ensures c.in-len1-up.len_at_least)
      (sym c.failure.ensures ∙ c.in_default-failure.is) c.take_oldest-2.ensures.after sent c.settle.ensures.next
      c.settle.ensures.site;
  left = let sent : IsDeferral c.args.unwritten.slot c.args.unwritten.done c.in-Buffered.file
      (record c.in-Buffered.buffer { deferred = drop 1 c.in-Buffered.buffer.deferred }) c.args.bytes.now
      c.args.turn.place
      c.args.turn.facts c.in_ok-deferral.deferral
      = subst (λ (w : List (ℕ × ℕ)). IsDeferral c.args.unwritten.slot c.args.unwritten.done c.in-Buffered.file
      (record c.in-Buffered.buffer { deferred = w }) c.args.bytes.now c.args.turn.place c.args.turn.facts
      c.in_ok-deferral.deferral) (tail_is c.as_slice.result.now ∙ ap (drop 1) c.as_slice.ensures)
      c.in_ok-deferral.ensures in
      room_leaves c.args.unwritten.slot c.args.unwritten.done c.in-Buffered.file c.in-Buffered.buffer c.args.bytes.now
      c.args.turn.place
      c.args.site.now c.take_oldest-2.new.site c.settle.new.site c.args.turn.facts c.in_ok-deferral.deferral
      c.settle.result
      c.requires.slot (sym c.slot_of.ensures ∙ c.in-Buffered.is) c.requires.full c.take_oldest-2.ensures.after sent
      c.settle.ensures.next c.settle.ensures.site;
  sound = let sent : IsDeferral c.args.unwritten.slot c.args.unwritten.done c.in-Buffered.file
      (record c.in-Buffered.buffer { deferred = drop 1 c.in-Buffered.buffer.deferred }) c.args.bytes.now
      c.args.turn.place
      c.args.turn.facts c.in_ok-deferral.deferral
      = subst (λ (w : List (ℕ × ℕ)). IsDeferral c.args.unwritten.slot c.args.unwritten.done c.in-Buffered.file
      (record c.in-Buffered.buffer { deferred = w }) c.args.bytes.now c.args.turn.place c.args.turn.facts
      c.in_ok-deferral.deferral) (tail_is c.as_slice.result.now ∙ ap (drop 1) c.as_slice.ensures)
      c.in_ok-deferral.ensures in
      room_sound c.args.unwritten.slot c.args.unwritten.done c.in-Buffered.file c.in-Buffered.buffer c.args.bytes.now
      c.args.turn.place
      c.args.site.now c.take_oldest-2.new.site c.settle.new.site c.args.turn.facts c.in_ok-deferral.deferral
      c.settle.result
      c.requires.slot (sym c.slot_of.ensures ∙ c.in-Buffered.is) c.requires.done c.requires.within
      c.take_oldest-2.ensures.after sent c.settle.ensures.next c.settle.ensures.site;
  pends = let sent : IsDeferral c.args.unwritten.slot c.args.unwritten.done c.in-Buffered.file
      (record c.in-Buffered.buffer { deferred = drop 1 c.in-Buffered.buffer.deferred }) c.args.bytes.now
      c.args.turn.place
      c.args.turn.facts c.in_ok-deferral.deferral
      = subst (λ (w : List (ℕ × ℕ)). IsDeferral c.args.unwritten.slot c.args.unwritten.done c.in-Buffered.file
      (record c.in-Buffered.buffer { deferred = w }) c.args.bytes.now c.args.turn.place c.args.turn.facts
      c.in_ok-deferral.deferral) (tail_is c.as_slice.result.now ∙ ap (drop 1) c.as_slice.ensures)
      c.in_ok-deferral.ensures in
      room_pends c.args.unwritten.slot c.args.unwritten.done c.in-Buffered.file c.in-Buffered.buffer c.args.bytes.now
      c.args.turn.place
      c.args.site.now c.take_oldest-2.new.site c.settle.new.site c.args.turn.facts c.args.reply
      c.in_ok-deferral.deferral c.settle.result
      c.requires.slot (sym c.slot_of.ensures ∙ c.in-Buffered.is) c.take_oldest-2.ensures.after sent
      c.settle.ensures.next c.settle.ensures.site;
  asks = let sent : IsDeferral c.args.unwritten.slot c.args.unwritten.done c.in-Buffered.file
      (record c.in-Buffered.buffer { deferred = drop 1 c.in-Buffered.buffer.deferred }) c.args.bytes.now
      c.args.turn.place
      c.args.turn.facts c.in_ok-deferral.deferral
      = subst (λ (w : List (ℕ × ℕ)). IsDeferral c.args.unwritten.slot c.args.unwritten.done c.in-Buffered.file
      (record c.in-Buffered.buffer { deferred = w }) c.args.bytes.now c.args.turn.place c.args.turn.facts
      c.in_ok-deferral.deferral) (tail_is c.as_slice.result.now ∙ ap (drop 1) c.as_slice.ensures)
      c.in_ok-deferral.ensures in
      settled_goes_on c.args.turn.place c.args.unwritten.slot c.args.unwritten.done c.in-Buffered.file
      (record c.in-Buffered.buffer { deferred = drop 1 c.in-Buffered.buffer.deferred }) c.args.bytes.now
      c.args.site.now c.settle.new.site c.args.turn.facts c.in_ok-deferral.deferral c.settle.result
      (buffered_held c.args.site.now c.args.unwritten.slot c.in-Buffered.file c.in-Buffered.buffer
      (sym c.slot_of.ensures ∙ c.in-Buffered.is)) sent c.settle.ensures.next;
  by = search rules;
  err = search rules;
}
