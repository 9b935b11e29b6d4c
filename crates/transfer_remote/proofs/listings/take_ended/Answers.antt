use Rattle.std.proofs.Common.{rules}
use Rattle.transfer_remote.specs.declared.listing_stage.Stage.TheVariants as stage
use Rattle.transfer_remote.proofs.ListingRuns.{put_back}
use Rattle.transfer_remote.proofs.listings.take_ended.Goals as goal

pub returns-in-Opening : goal.returns-in-Opening
returns-in-Opening c =
    put_back c.in-Some.first (stage.Opening c.in-Opening.call) c.pop_front.new.self.items c.args.listings.now.items
    c.push_front_reserved.new.self.items (search rules) c.in-Some.ensures.items (search rules)

pub returns-in-Reading : goal.returns-in-Reading
returns-in-Reading c =
    put_back c.in-Some.first (stage.Reading c.in-Reading.dir) c.pop_front.new.self.items c.args.listings.now.items
    c.push_front_reserved-in-Reading.new.self.items (search rules) c.in-Some.ensures.items (search rules)
