use Rattle.std.proofs.Common.{rules}
use Rattle.plan_runner.proofs.continuation.go_on_at_once.Goals as goal

pub returns-in-ReadingWhole : goal.returns-in-ReadingWhole
returns-in-ReadingWhole c = let on = c.read_on.ensures c.args.bytes.now in record {
  goes = rw c.in-ReadingWhole.is on.goes;
  left = rw c.in-ReadingWhole.is on.left;
  sound = on.sound;
  pends = search rules;
  asks = search rules;
  by = search rules;
  err = search rules;
}
