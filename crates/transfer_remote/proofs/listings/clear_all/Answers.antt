use Rattle.transfer_remote.proofs.ListingRuns.{clears_first, clears_next, first_held}
use Rattle.transfer_remote.proofs.listings.clear_all.Goals as goal

pub loop-listing-init : goal.loop-listing-init
loop-listing-init c = clears_first c.args.core.now c.args.listings.items c.requires

pub cancel-requires : goal.cancel-requires
cancel-requires c =
    first_held c.loop-listing.core c.loop-listing.listings.items c.pop_front.new.self.items c.in-Some.listing
    c.loop-listing.invariant.together c.in-Some.ensures.items

pub loop-listing-preserved : goal.loop-listing-preserved
loop-listing-preserved c =
    clears_next c.args.core.now c.loop-listing.core c.cancel.new.core c.loop-listing.listings.items
    c.pop_front.new.self.items c.in-Some.listing c.loop-listing.invariant c.in-Some.ensures.items c.cancel.ensures
