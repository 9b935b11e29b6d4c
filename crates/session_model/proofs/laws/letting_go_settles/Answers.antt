use Rattle.session_model.proofs.LetGoLaws.{let_go_settled}
use Rattle.session_model.proofs.laws.letting_go_settles.Goals as goal

pub returns : goal.returns
returns c = let_go_settled
