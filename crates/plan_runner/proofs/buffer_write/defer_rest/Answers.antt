use Rattle.std.proofs.Common.{rules, ◌≡◌, ◌∙◌, ◌==◌, ap, false, drop, length, sym}
use Rattle.std.specs.Prelude.{not}
use Rattle.plan_runner.proofs.Deferring.{rest_goes}
use Rattle.plan_runner.proofs.buffer_write.defer_rest.Goals as goal

pub returns : goal.returns
returns c = record {
  goes = let some : (length (drop c.args.done c.args.bytes.now) == 0) ≡ false = search rules in
      rest_goes c.args.slot c.args.done c.args.bytes.now c.in-Buffered.file c.in-Buffered.field-1 c.args.turn.place
      c.args.site.now c.send.new.site c.args.turn.facts c.send.result (sym c.slot_of.ensures ∙ c.in-Buffered.is) some
      (ap not c.if-not-file.false) c.send.ensures.goes;
  left = c.send.ensures.left;
  sound = c.send.ensures.sound;
  pends = c.send.ensures.pends;
  asks = c.send.ensures.asks;
  goes_on = c.send.ensures.goes_on;
  err = c.send.ensures.err;
}
