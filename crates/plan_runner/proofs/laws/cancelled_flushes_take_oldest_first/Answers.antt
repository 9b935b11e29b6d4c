use Rattle.plan_runner.proofs.FlushLaws.{flush_ends, flush_passes, flush_stops}
use Rattle.plan_runner.proofs.laws.cancelled_flushes_take_oldest_first.Goals as goal

pub returns-clause-passes : goal.returns-clause-passes
returns-clause-passes c = flush_passes

pub returns-clause-stops : goal.returns-clause-stops
returns-clause-stops c = flush_stops

pub returns-clause-none : goal.returns-clause-none
returns-clause-none c = flush_ends
