use Rattle.transfer_remote.proofs.ListingRuns.{removed}
use Rattle.transfer_remote.proofs.listings.fail_first.Goals as goal

pub returns-in-Some : goal.returns-in-Some
returns-in-Some c =
    removed c.args.core.now c.cancel.new.core c.args.listings.now.items c.pop_front.new.self.items c.in-Some.listing
    c.args.e c.requires.together c.in-Some.ensures.items c.cancel.ensures
