use Rattle.transfer_remote.specs.ManyListings.{HoldsListings}
use Rattle.sftp_transfer.proofs.courier.Courier.walk_listed.Given as goal

abbrev pub invariant-loop : goal.invariant-loop
invariant-loop g l = HoldsListings g.L.LinkState.state l.self.sftp l.listings
