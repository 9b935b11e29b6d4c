use Rattle.session_model.proofs.RequestLaws.{answer_stays}
use Rattle.session_model.proofs.laws.replies_stay.Goals as goal

pub returns : goal.returns
returns c = answer_stays
