use Rattle.session_model.proofs.OverLaws.{runs_are_journals, runs_are_over}
use Rattle.session_model.proofs.laws.runs_are_journals.Goals as goal

pub returns : goal.returns
returns c = record { so_far = runs_are_journals; over = runs_are_over }
