use Rattle.machine_model.proofs.ListingLaws.{lists_once}
use Rattle.machine_model.proofs.laws.listings_name_each_once.Goals as goal

pub returns : goal.returns
returns c = lists_once
