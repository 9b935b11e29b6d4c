use Rattle.transfer_copy.proofs.DiskLaws.{one_name, one_name_behind}
use Rattle.transfer_copy.proofs.laws.one_name_is_changed.Goals as goal

pub returns-clause-anew : goal.returns-clause-anew
returns-clause-anew c = one_name

pub returns-clause-behind : goal.returns-clause-behind
returns-clause-behind c = one_name_behind
