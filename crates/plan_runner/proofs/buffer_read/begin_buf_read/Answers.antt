use Rattle.std.proofs.Common.{arith, ◌≡◌, ◌∙◌, ◌==◌, ap, false, true, length, rules, sym}
use Rattle.std.specs.Prelude.{not}
use Rattle.std.proofs.lemmas.Grind.{common_steps}
use Rattle.sftp_model.specs.declared.slot.Slot.{Slot}
use Rattle.plan_runner.specs.Seeks.{with_buffer_at}
use Rattle.plan_runner.proofs.Filling.{kept_times, read_goes}
use Rattle.plan_runner.proofs.buffer_read.begin_buf_read.Goals as goal

pub returns-then-is_empty : goal.returns-then-is_empty
returns-then-is_empty c = record {
  goes = let readable : not c.in-Buffered.file.readable ≡ false = search rules in
      let some : (c.args.n == 0) ≡ false = search rules in
      let empty : (length c.in-Buffered.buffer.bytes == 0) ≡ true = search rules in
      read_goes c.args.slot c.args.n c.args.place c.in-Buffered.file c.in-Buffered.buffer c.args.site.now
      c.fill.new.site
      c.args.facts.now c.fill.result (sym c.slot_of.ensures ∙ c.in-Buffered.is) readable some empty
      c.fill.ensures.goes;
  left = search rules;
  sound = search rules;
  pends = search rules;
  asks = search rules;
  err = search rules;
}

pub returns : goal.returns
returns c = record {
  goes = search rules;
  left = search rules;
  sound = (grind (arith, common_steps), tt);
  pends = λ q. kept_times q c.args.site.now c.rebuffer.new.site c.args.slot c.in-Buffered.file
      c.stands_after-moved.result
      c.in-Buffered.buffer c.in_ok-rest.rest c.requires.slot (sym c.slot_of.ensures ∙ c.in-Buffered.is)
      (c.rebuffer.ensures ∙ ap (λ (x : Slot). with_buffer_at c.args.slot c.args.site.now x c.stands_after-moved.result
      c.in_ok-rest.rest c.in-Buffered.buffer.reading) (sym c.slot_of.ensures ∙ c.in-Buffered.is));
  asks = search rules;
  err = search rules;
}
