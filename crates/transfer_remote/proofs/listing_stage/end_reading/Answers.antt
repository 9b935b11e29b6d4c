use Rattle.transfer_remote.proofs.ListingLeaves.{dropped}
use Rattle.transfer_remote.proofs.listing_stage.end_reading.Goals as goal

pub returns-clause-leaves : goal.returns-clause-leaves
returns-clause-leaves c =
    dropped c.args.dir c.args.core.now c.drop_listing.new.core c.args.ended c.requires.over c.drop_listing.ensures
