use Rattle.transfer_remote.specs.ManyListings.{HoldsListings}
use Rattle.sftp_transfer.proofs.courier.Courier.begin_listings.Given as goal

abbrev pub invariant-loop-place : goal.invariant-loop-place
invariant-loop-place g l = HoldsListings g.L.LinkState.state l.self.sftp l.listings
