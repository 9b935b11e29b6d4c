use Rattle.session_work.proofs.WentLaws.{went_few}
use Rattle.session_work.proofs.laws.went_turns_are_few.Goals as goal

pub returns : goal.returns
returns c = went_few
