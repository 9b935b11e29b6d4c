use Rattle.session_model.proofs.ReadsLaws.{reads_stand, read_fits}
use Rattle.session_model.proofs.laws.reads_under_way_fit.Goals as goal

pub returns : goal.returns
returns c = record { stand = reads_stand; fits = read_fits }
