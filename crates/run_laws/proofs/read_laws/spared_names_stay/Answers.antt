use Rattle.run_laws.proofs.StepLaws.{steps_node, steps_bytes}
use Rattle.run_laws.proofs.read_laws.spared_names_stay.Goals as goal

pub returns : goal.returns
returns c = record { node = steps_node; bytes = steps_bytes }
