use Rattle.transfer_remote.proofs.ListingRuns.{ListsSoFar}
use Rattle.transfer_remote.proofs.listings.next_of.Given as goal

abbrev pub invariant-loop : goal.invariant-loop
invariant-loop g l = ListsSoFar g.L.LinkState.state (record { session = l.fn.sftp; listings = l.fn.listings.items })
    (record { session = l.sftp; listings = l.listings.items })
