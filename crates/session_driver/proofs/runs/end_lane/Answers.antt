use Rattle.link_frames.proofs.Joining.{escaped}
use Rattle.session_driver.proofs.Rounds.{not_done}
use Rattle.session_driver.proofs.Loops.{lane_begin, lane_next, lane_fail}
use Rattle.session_driver.proofs.runs.end_lane.Goals as goal

pub loop-alloc-init : goal.loop-alloc-init
loop-alloc-init g c = lane_begin c.args.lane _ _ c.requires.ready

pub returns-in_err-one_round : goal.returns-in_err-one_round
returns-in_err-one_round g c =
    rw (escaped c.from_residual.result c.in_err-one_round.field-0.0 c.from_residual.ensures.1)
    (record {
      ongoing = lane_fail c.args.lane (not_done (g.X.RunsLanes.seen c.loop-alloc.session).setting
          (g.X.RunsLanes.seen c.loop-alloc.session).progress.past c.args.lane c.is_done.result c.is_done.ensures
          c.loop-alloc-test.true) c.loop-alloc.invariant c.in_err-one_round.ensures.ongoing;
    })

pub loop-alloc-preserved : goal.loop-alloc-preserved
loop-alloc-preserved g c = lane_next c.args.lane (not_done (g.X.RunsLanes.seen c.loop-alloc.session).setting
    (g.X.RunsLanes.seen c.loop-alloc.session).progress.past c.args.lane c.is_done.result c.is_done.ensures
    c.loop-alloc-test.true) c.loop-alloc.invariant c.in_ok-one_round.ensures.ongoing
