use Rattle.std.proofs.Common.{◌≡◌, ◌∙◌, ◌==◌, ap, false, length, sym}
use Rattle.std.specs.Prelude.{not}
use Rattle.plan_runner.proofs.Deferring.{begin_goes}
use Rattle.plan_runner.proofs.buffer_write.begin_buf_write.Goals as goal

pub returns : goal.returns
returns c = record {
  goes = let some : (length c.args.bytes.now == 0) ≡ false = sym c.is_empty.ensures ∙ c.if-is_empty.false in
      begin_goes c.args.slot c.args.bytes.now c.in-Buffered.file c.in-Buffered.field-1 c.args.place c.args.site.now
      c.send.new.site c.args.facts.now c.send.result (sym c.slot_of.ensures ∙ c.in-Buffered.is)
      (ap not c.if-not-file.false) some c.send.ensures.goes;
  left = c.send.ensures.left;
  sound = c.send.ensures.sound;
  pends = c.send.ensures.pends;
  asks = c.send.ensures.asks;
  err = c.send.ensures.err;
}
