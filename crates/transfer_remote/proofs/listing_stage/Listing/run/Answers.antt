use Rattle.transfer_remote.specs.ListingSteps.{listing_on}
use Rattle.transfer_remote.proofs.ListingLeaves.{runs_first, runs_may, runs_next, runs_out}
use Rattle.transfer_remote.proofs.listing_stage.Listing.run.Goals as goal

pub loop-init : goal.loop-init
loop-init c = runs_first (listing_on c.args.core.now c.args.self) c.requires

pub step-next-requires : goal.step-next-requires
step-next-requires c =
    runs_may (listing_on c.args.core.now c.args.self)
    (record { core = c.loop.core; stage = c.loop.stage; entries = c.loop.entries.items }) c.loop.invariant

pub loop-preserved : goal.loop-preserved
loop-preserved c =
    runs_next (listing_on c.args.core.now c.args.self)
    (record { core = c.loop.core; stage = c.loop.stage; entries = c.loop.entries.items })
    (record { core = c.step-next.new.core; stage = c.step-next.result.stage; entries = c.step-next.new.entries.items })
    c.step-next.result.moved c.loop.invariant c.step-next.ensures

pub returns-then-not-moved : goal.returns-then-not-moved
returns-then-not-moved c =
    runs_out _ _ (runs_next (listing_on c.args.core.now c.args.self)
    (record { core = c.loop.core; stage = c.loop.stage; entries = c.loop.entries.items })
    (record { core = c.step-next.new.core; stage = c.step-next.result.stage; entries = c.step-next.new.entries.items })
    c.step-next.result.moved c.loop.invariant c.step-next.ensures)

pub returns : goal.returns
returns c = runs_out _ _ c.loop.invariant
