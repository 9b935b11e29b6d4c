use Rattle.plan_model.proofs.AskedLaws.{unbounded_range}
use Rattle.plan_model.proofs.laws.unbounded_reads_keep_within_range.Goals as goal

pub returns : goal.returns
returns c = unbounded_range
