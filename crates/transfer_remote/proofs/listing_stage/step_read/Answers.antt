use Rattle.transfer_remote.proofs.ListingLeaves.{read_given, read_pending}
use Rattle.transfer_remote.proofs.listing_stage.step_read.Goals as goal

pub returns-in-Pending : goal.returns-in-Pending
returns-in-Pending c =
    read_pending c.args.core.now c.poll_next.new.core c.args.dir c.poll_next.new.self c.args.entries.now.items
    c.in-Pending.ensures

pub returns-in-Ready : goal.returns-in-Ready
returns-in-Ready c =
    read_given c.args.core.now c.poll_next.new.core c.step_given.new.core c.args.dir c.poll_next.new.self
    c.in-Ready.given c.args.entries.now.items c.step_given.new.entries.items c.step_given.result.stage
    c.step_given.result.moved c.in-Ready.ensures c.step_given.ensures
