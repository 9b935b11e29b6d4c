use Rattle.transfer_remote.proofs.ListingLeaves.{RunsOn}
use Rattle.transfer_remote.proofs.listing_stage.Listing.run.Given as goal

abbrev pub invariant-loop : goal.invariant-loop
invariant-loop l = RunsOn (record { core = l.fn.core; stage = l.fn.self.stage; entries = l.fn.self.entries.items })
    (record { core = l.core; stage = l.stage; entries = l.entries.items })
