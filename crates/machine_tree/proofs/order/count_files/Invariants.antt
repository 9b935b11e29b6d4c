use Rattle.std.proofs.Common.{◌≡◌, ◌≤◌, take, length}
use Rattle.std.specs.Prelude.{filter}
use Rattle.machine_model.specs.Listing.{has_file}
use Rattle.machine_tree.proofs.order.count_files.Given as goal

abbrev pub invariant-loop-pair : goal.invariant-loop-pair
invariant-loop-pair l = (l.count ≡ length (filter has_file (take l.pair-index l.pairs))) × (l.count ≤ l.pair-index)
