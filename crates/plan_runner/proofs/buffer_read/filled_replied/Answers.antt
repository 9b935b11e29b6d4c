use Rattle.std.proofs.Common.{arith, ◌∙◌, ◌≤◌, ◌-◌, ◌^◌, ap, length, rules, sym, None}
use Rattle.std.proofs.lemmas.Grind.{common_steps}
use Rattle.sftp_model.specs.declared.slot.Slot.{Slot}
use Rattle.plan_runner.specs.Seeks.{with_buffer_at}
use Rattle.plan_runner.proofs.Filling.{given_ends, reading_gone, reading_over, refilled_keeps}
use Rattle.plan_runner.proofs.buffer_read.filled_replied.Goals as goal

pub returns : goal.returns
returns c = record {
  gives = search rules;
  err = tt;
  sound = grind (arith, common_steps);
  fewer = reading_gone c.args.site.now c.set_reading-in_default-reply.new.site c.args.slot c.in-Buffered.file
      c.in-Buffered.field-1 c.requires.slot (sym c.slot_of.ensures ∙ c.in-Buffered.is)
      c.set_reading-in_default-reply.ensures;
}

pub returns-in-Content : goal.returns-in-Content
returns-in-Content c = record {
  gives = search rules;
  err = search rules;
  sound = λ facts.
      let room : length c.as_slice-bytes.result.now ≤ (2 ^ 64 - 1) - c.in-Buffered.file.offset = search rules in
      let cut : length c.in_ok-rest-in-Content.rest ≤ (2 ^ 64 - 1) - c.stands_after-moved.result.offset =
      rw (c.in_ok-rest-in-Content.ensures, c.stands_after-moved.ensures)
      (given_ends c.args.n c.in-Buffered.file.offset c.as_slice-bytes.result.now room) in
      refilled_keeps facts c.args.site.now c.rebuffer.new.site c.args.slot c.in-Buffered.file
      c.stands_after-moved.result c.in-Buffered.field-1 c.in_ok-rest-in-Content.rest None
      (sym c.slot_of.ensures ∙ c.in-Buffered.is)
      (c.rebuffer.ensures ∙ ap (λ (x : Slot). with_buffer_at c.args.slot c.args.site.now x c.stands_after-moved.result
      c.in_ok-rest-in-Content.rest None) (sym c.slot_of.ensures ∙ c.in-Buffered.is)) (λ w. cut);
  fewer = reading_over c.args.site.now c.rebuffer.new.site c.args.slot c.in-Buffered.file c.stands_after-moved.result
      c.in-Buffered.field-1 c.in_ok-rest-in-Content.rest c.requires.slot (sym c.slot_of.ensures ∙ c.in-Buffered.is)
      (c.rebuffer.ensures ∙ ap (λ (x : Slot). with_buffer_at c.args.slot c.args.site.now x c.stands_after-moved.result
      c.in_ok-rest-in-Content.rest None) (sym c.slot_of.ensures ∙ c.in-Buffered.is));
}

pub returns-then-code-eq-SSH_FX_EOF : goal.returns-then-code-eq-SSH_FX_EOF
returns-then-code-eq-SSH_FX_EOF c = record {
  gives = search rules;
  err = search rules;
  sound = grind (arith, common_steps);
  fewer = reading_gone c.args.site.now c.set_reading.new.site c.args.slot
      c.in-Buffered.file c.in-Buffered.field-1 c.requires.slot (sym c.slot_of.ensures ∙ c.in-Buffered.is)
      c.set_reading.ensures;
}

pub returns-in-Status : goal.returns-in-Status
returns-in-Status c = record {
  gives = search rules;
  err = search rules;
  sound = grind (arith, common_steps);
  fewer = reading_gone c.args.site.now c.set_reading.new.site c.args.slot c.in-Buffered.file
      c.in-Buffered.field-1 c.requires.slot (sym c.slot_of.ensures ∙ c.in-Buffered.is) c.set_reading.ensures;
}
