use Rattle.std.proofs.Common.{◌<◌, ℕ, subst, arith}
use Rattle.link_frames.proofs.Joining.{escaped}
use Rattle.session_driver.proofs.Loops.{ends_begin, ends_next, ends_fail, ends_done}
use Rattle.session_driver.proofs.runs.end_lanes.Goals as goal

pub loop-lane-init : goal.loop-lane-init
loop-lane-init g c = ends_begin _ _ c.requires.ready

pub returns-in_err-end_lane : goal.returns-in_err-end_lane
returns-in_err-end_lane g c = rw (escaped c.from_residual.result c.in_err-end_lane.field-0.0 c.from_residual.ensures.1)
    (record {
      ongoing = ends_fail c.loop-lane.lane (subst (λ (n : ℕ). c.loop-lane.lane < n)
          c.lane_count-lane-end.ensures c.loop-lane-test.true) c.loop-lane.invariant c.in_err-end_lane.ensures.ongoing;
    })

pub loop-lane-preserved : goal.loop-lane-preserved
loop-lane-preserved g c = ends_next c.loop-lane.lane c.loop-lane.invariant c.in_ok-end_lane.ensures.ongoing

pub returns : goal.returns
returns g c = record {
  ongoing = ends_done c.loop-lane.lane (let a = c.loop-lane.auto.lane-end in let f =
      c.loop-lane-test.false in let e = c.lane_count-lane-end.ensures in omega (arith, a, f, e)) c.loop-lane.invariant;
}
