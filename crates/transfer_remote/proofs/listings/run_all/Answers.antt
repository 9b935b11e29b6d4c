use Rattle.std.proofs.Common.{◌≡◌, ◌<◌, ◌∷◌, ◌++◌, [], length, rules}
use Rattle.transfer_remote.proofs.ListingRuns.{ran_first, ran_may, ran_next, ran_out}
use Rattle.transfer_remote.proofs.listings.run_all.Goals as goal

pub loop-init : goal.loop-init
loop-init c = ran_first c.args.core.now c.args.listings.now.items c.requires

pub run_within-listing-requires : goal.run_within-listing-requires
run_within-listing-requires c =
    ran_may c.args.core.now c.args.listings.now.items c.loop.counter c.loop.core c.loop.listings.items
    c.in-Some.listing c.pop_front.new.self.items c.loop.invariant c.in-Some.ensures.items

pub loop-preserved : goal.loop-preserved
loop-preserved c =
    let few : c.loop.counter < length c.args.listings.now.items = search rules in
    let last : c.push_back_reserved.new.self.items ≡ c.pop_front.new.self.items ++ c.run_within-listing.result ∷ [] =
    search rules in
    ran_next c.args.core.now c.args.listings.now.items c.loop.counter c.loop.core c.run_within-listing.new.core
    c.loop.listings.items c.pop_front.new.self.items c.push_back_reserved.new.self.items c.in-Some.listing
    c.run_within-listing.result c.loop.invariant few c.in-Some.ensures.items c.run_within-listing.ensures last

pub returns : goal.returns
returns c =
    let all : c.loop.counter ≡ length c.args.listings.now.items = search rules in
    ran_out c.args.core.now c.args.listings.now.items c.loop.counter c.loop.core c.loop.listings.items
    c.loop.invariant all
