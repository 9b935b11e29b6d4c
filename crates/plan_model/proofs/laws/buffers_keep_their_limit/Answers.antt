use Rattle.plan_model.proofs.LimitEnds.{ended_within, cancelled_within}
use Rattle.plan_model.proofs.laws.buffers_keep_their_limit.Goals as goal

pub returns : goal.returns
returns c = record { ended = ended_within; cancelled = cancelled_within }
