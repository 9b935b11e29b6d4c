use Rattle.plan_model.proofs.ReadEnds.{done_stand, cancelled_stand}
use Rattle.plan_model.proofs.laws.reads_stand_at_their_files.Goals as goal

pub returns : goal.returns
returns c = record { ended = done_stand; cancelled = cancelled_stand }
