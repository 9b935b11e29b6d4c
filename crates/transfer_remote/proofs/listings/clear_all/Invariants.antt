use Rattle.std.proofs.Common.{deque_len}
use Rattle.transfer_remote.proofs.ListingRuns.{ClearsOn}
use Rattle.transfer_remote.proofs.listings.clear_all.Given as goal

abbrev pub invariant-loop-listing : goal.invariant-loop-listing
invariant-loop-listing l = ClearsOn l.fn.core l.core l.listings.items

abbrev pub decreases-loop-listing : goal.decreases-loop-listing
decreases-loop-listing l = deque_len l.listings
