use Rattle.run_laws.proofs.ListLaws.{lists_begin, lists_directory, lists_each_once}
use Rattle.run_laws.proofs.read_laws.listings_give_directories.Goals as goal

pub returns : goal.returns
returns c = record { begins = lists_begin; in_order = lists_directory; once = lists_each_once }
