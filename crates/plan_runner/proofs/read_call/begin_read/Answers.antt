use Rattle.std.proofs.Common.{rules, sym, ◌∙◌}
use Rattle.plan_runner.proofs.Asking.{read_asks}
use Rattle.plan_runner.proofs.read_call.begin_read.Goals as goal

pub returns : goal.returns
returns c = record {
  goes = search rules;
  left = search rules;
  sound = search rules;
  pends = search rules;
  asks = read_asks c.args.place c.args.slot c.min-len.result c.in-File.file c.args.site.now
      (sym c.slot_of.ensures ∙ c.in-File.is);
}
