use Rattle.std.proofs.Common.{arith, rules}
use Rattle.plan_runner.proofs.Fewer.{fewer_file}
use Rattle.plan_runner.proofs.write_call.write_replied.Goals as goal

pub returns : goal.returns
returns c = record { gives = search rules; sound = λ facts. search rules; fewer = grind (arith, fewer_file) }
