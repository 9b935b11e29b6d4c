use Rattle.std.proofs.Common.{arith, rules}
use Rattle.std.proofs.lemmas.Grind.{common_steps}
use Rattle.plan_runner.proofs.Fewer.{fewer_files}
use Rattle.plan_runner.proofs.file_calls.copy_replied.Goals as goal

pub returns : goal.returns
returns c = record { gives = search rules; sound = grind (arith, common_steps); fewer = grind (arith, fewer_files) }
