use Rattle.std.proofs.Common.{◌∙◌}
use Rattle.sftp_cli.specs.Bulk.{lane_of}
use Rattle.sftp_cli.proofs.Steps.{draws_end, draws_go_on}
use Rattle.sftp_cli.proofs.draws.Draws.lanes.Goals as goal

pub loop-k-preserved : goal.loop-k-preserved
loop-k-preserved c =
    draws_go_on (lane_of c.args.calls) _ _ _ _ _ _ _ _ c.loop-k.invariant c.loop-k-test.true c.in_ok-lane.ensures.gives
    c.in_ok-lane.ensures.passes c.in_ok-push.ensures.items

pub returns : goal.returns
returns c =
    let all = draws_end (lane_of c.args.calls) _ _ _ _ _ c.loop-k.invariant c.loop-k-test.false in
    record { gives = c.new.ensures ∙ all.0; passes = all.1 }
