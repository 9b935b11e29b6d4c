use Rattle.transfer_copy_laws.proofs.MachineLaws.{data_is, end_is}
use Rattle.transfer_copy_laws.proofs.laws.machine_gives_pieces.Goals as goal

pub returns-clause-data : goal.returns-clause-data
returns-clause-data c = data_is

pub returns-clause-end : goal.returns-clause-end
returns-clause-end c = end_is
