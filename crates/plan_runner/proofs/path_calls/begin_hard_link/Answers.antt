use Rattle.std.proofs.Common.{◌≡◌, rules, sym, true}
use Rattle.plan_model.specs.Moves.{offers}
use Rattle.plan_runner.proofs.path_calls.begin_hard_link.Goals as goal

pub returns : goal.returns
returns c = record {
  goes = (let offered : offers c.args.facts.now 2 ≡ true = search rules in
      rw (offered, sym c.in_ok-old.ensures, sym c.in_ok-to.ensures) c.ask_path.ensures.goes);
  left = c.ask_path.ensures.left;
  sound = c.ask_path.ensures.sound;
  pends = c.ask_path.ensures.pends;
  asks = c.ask_path.ensures.asks tt;
}
