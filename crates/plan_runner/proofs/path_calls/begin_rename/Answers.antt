use Rattle.std.proofs.Common.{rules, sym}
use Rattle.plan_runner.proofs.path_calls.begin_rename.Goals as goal

pub returns : goal.returns
returns c = record {
  goes = rw (sym c.in_ok-old.ensures, sym c.in_ok-to.ensures)
      (rw c.rename_request-request.ensures at c.ask_path.ensures.goes);
  left = c.ask_path.ensures.left;
  sound = c.ask_path.ensures.sound;
  pends = c.ask_path.ensures.pends;
  asks = search rules;
}
