use Rattle.transfer_remote.proofs.ListingLeaves.{open_may, open_pending, open_ready}
use Rattle.transfer_remote.proofs.listing_stage.step_open.Goals as goal

pub poll-requires : goal.poll-requires
poll-requires c = open_may c.args.core.now c.args.call c.requires

pub returns-in-Pending : goal.returns-in-Pending
returns-in-Pending c =
    open_pending c.args.core.now c.poll.new.core c.args.call c.poll.new.self c.requires c.in-Pending.ensures

pub returns-in-Ready : goal.returns-in-Ready
returns-in-Ready c =
    open_ready c.args.core.now c.poll.new.core c.end_open.new.core c.args.call c.poll.new.self c.in-Ready.answer
    c.end_open.result.stage c.end_open.result.moved c.requires c.in-Ready.ensures c.end_open.ensures
