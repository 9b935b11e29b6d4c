use Rattle.std.proofs.Common.{List, length, ap, sym}
use Rattle.plan_model.specs.declared.call.Lane.{Lane}
use Rattle.example_threads.proofs.calls.run_lanes_of.Goals as goal

pub start-requires-clause-count : goal.start-requires-clause-count
start-requires-clause-count g c = ap (λ (l : List Lane). length l) (sym c.in-Ok.ensures.home.1.0)

pub run_threads-ended-requires-clause-crew : goal.run_threads-ended-requires-clause-crew
run_threads-ended-requires-clause-crew g c κs within =
    let o = c.in-Ok.ensures.opens in (o.1.hello, c.in-Ok-start.ensures.crew o.1.hello o.1.gets.sees)
