use Rattle.machine_model.proofs.AnswerLaws.{any_length}
use Rattle.machine_model.proofs.laws.replies_of_any_length.Goals as goal

pub returns : goal.returns
returns c = any_length
