use Rattle.std.proofs.Common.{subst, sym}
use Rattle.transfer_remote.specs.ListingSteps.{LeavesStage}
use Rattle.transfer_remote.specs.declared.listing_stage.Stage.{Stage}
use Rattle.transfer_remote.specs.declared.listing_stage.Stage.TheVariants as stage
use Rattle.transfer_remote.proofs.ListingLeaves.{dropped, open_cancelled}
use Rattle.transfer_remote.proofs.listing_stage.Stage.cancel.Goals as goal

pub returns-in-Opening : goal.returns-in-Opening
returns-in-Opening c =
    subst (λ (s : Stage). LeavesStage c.args.core.now s c.cancel.new.core stage.Complete) (sym c.in-Opening.is)
    (open_cancelled c.args.core.now c.cancel.new.core c.in-Opening.call c.cancel.ensures)

pub returns-in-Reading : goal.returns-in-Reading
returns-in-Reading c =
    subst (λ (s : Stage). LeavesStage c.args.core.now s c.drop_listing.new.core stage.Complete) (sym c.in-Reading.is)
    (dropped c.in-Reading.dir c.args.core.now c.drop_listing.new.core stage.Complete tt c.drop_listing.ensures)
