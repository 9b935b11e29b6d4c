use Rattle.transfer_remote.proofs.ListingLeaves.{drops}
use Rattle.transfer_remote.proofs.listing_stage.drop_listing.Goals as goal

pub returns : goal.returns
returns c =
    drops c.args.dir c.args.core.now c.start_close.new.core c.cancel.new.core c.start_close.result c.requires
    c.start_close.ensures c.cancel.ensures
