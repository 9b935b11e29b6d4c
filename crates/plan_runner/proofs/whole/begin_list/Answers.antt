use Rattle.std.proofs.Common.{rules, []}
use Rattle.plan_model.specs.WholePlans.{entries_next}
use Rattle.plan_runner.proofs.Going.{opened_by_answer}
use Rattle.plan_runner.proofs.whole.begin_list.Goals as goal

pub returns : goal.returns
returns c = record {
  goes = λ answers. (
    search rules,
    λ later. opened_by_answer c.args.place c.args.site.now
        (λ handle. entries_next handle [] c.args.bound c.args.site.now later answers) (answers c.args.place),
  );
  left = search rules;
  sound = search rules;
  pends = search rules;
  asks = search rules;
}
