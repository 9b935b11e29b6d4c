use Rattle.std.proofs.Common.{◌<◌, arith, length}
use Rattle.transfer_sync.proofs.LoopSteps.{blocked_more}
use Rattle.transfer_sync.specs.PathMaps.{path_set}
use Rattle.transfer_sync.specs.Paths.{no_path}
use Rattle.transfer_sync.proofs.plan.find_blocked.Goals as goal

pub loop-entry-preserved : goal.loop-entry-preserved
loop-entry-preserved c =
    let within : c.loop-entry.entry-index < length c.args.source.now = omega arith in
    blocked_more (path_set c.args.gone.now) c.args.target.now.entries no_path (path_set c.loop-entry.blocked)
    (path_set c.block_one.new.blocked)
    c.args.source.now c.loop-entry.entry-index c.entry-item.result within c.entry-item.is c.loop-entry.invariant
    c.in_ok-block_one.ensures
