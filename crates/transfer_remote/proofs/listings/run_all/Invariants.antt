use Rattle.transfer_remote.proofs.ListingRuns.{RanSoFar}
use Rattle.transfer_remote.proofs.listings.run_all.Given as goal

abbrev pub invariant-loop : goal.invariant-loop
invariant-loop l = RanSoFar l.fn.core l.fn.listings.items l.counter l.core l.listings.items
