use Rattle.std.proofs.Common.{sym}
use Rattle.plan_runner.proofs.path_calls.begin_stat.Goals as goal

pub returns : goal.returns
returns c = record {
  goes = rw (sym c.in_ok-path.ensures) c.ask_path.ensures.goes;
  left = c.ask_path.ensures.left;
  sound = c.ask_path.ensures.sound;
  pends = c.ask_path.ensures.pends;
  asks = c.ask_path.ensures.asks tt;
}
