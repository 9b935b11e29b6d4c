use Rattle.std.proofs.Common.{◌≡◌, ◌∷◌, ◌++◌, [], Ok, Err, refl, rules}
use Rattle.sftp_fs.specs.Directories.{OpensFrom}
use Rattle.transfer_remote.specs.declared.listing_stage.Stage.TheVariants as stage
use Rattle.transfer_remote.proofs.ListingRuns.{begun, unbegun}
use Rattle.transfer_remote.proofs.listings.Listings.begin.Goals as goal

pub returns-in-Ok-start_open_dir : goal.returns-in-Ok-start_open_dir
returns-in-Ok-start_open_dir g c =
    let opens : OpensFrom c.args.path.now [] c.args.sftp.now.core c.start_open_dir-2.new.core
    (Ok c.in-Ok-start_open_dir.call) = search rules in
    let last : c.push_back_reserved.new.self.items
    ≡ c.args.self.now
    ++ record { stage = stage.Opening c.in-Ok-start_open_dir.call; entries = c.new.result }
    ∷ [] = search rules in
    begun c.args.path.now g.L.LinkState.state c.args.sftp.now c.start_open_dir-2.new.core c.in-Ok-start_open_dir.call
    c.args.self.now c.push_back_reserved.new.self.items
    (record { stage = stage.Opening c.in-Ok-start_open_dir.call; entries = c.new.result }) c.requires opens refl
    c.new.ensures.items last

pub returns : goal.returns
returns g c =
    let opens : OpensFrom c.args.path.now [] c.args.sftp.now.core c.start_open_dir-2.new.core
    (Err c.in-Err-start_open_dir.e) = search rules in
    let same : c.reserve.new.self.items ≡ c.args.self.now = search rules in
    unbegun c.args.path.now g.L.LinkState.state c.args.sftp.now c.start_open_dir-2.new.core c.in-Err-start_open_dir.e
    c.into-in-Err-start_open_dir.result c.args.self.now c.reserve.new.self.items c.requires opens same
