use Rattle.std.proofs.Common.{◌<◌, ℕ, subst, arith}
use Rattle.link_frames.proofs.Joining.{escaped}
use Rattle.session_driver.proofs.Loops.{go_begin, go_next, go_fail, go_all, go_there, go_idle, go_held}
use Rattle.session_driver.proofs.runs.let_go_lanes.Goals as goal

pub loop-lane-init : goal.loop-lane-init
loop-lane-init g c = go_begin _ _ c.requires.ready

pub let_go_one-requires : goal.let_go_one-requires
let_go_one-requires g c = record {
  ready = c.loop-lane.invariant.went.ready;
  there = go_there c.loop-lane.lane (subst (λ (n : ℕ). c.loop-lane.lane < n) c.lane_count-lane-end.ensures
      c.loop-lane-test.true) c.loop-lane.invariant;
  done = go_idle c.loop-lane.lane c.loop-lane.lane (c.requires.done c.loop-lane.lane
      (subst (λ (n : ℕ). c.loop-lane.lane < n) c.lane_count-lane-end.ensures c.loop-lane-test.true))
      c.loop-lane.invariant;
  holds = go_held c.loop-lane.lane (c.requires.holds c.loop-lane.lane) c.loop-lane.invariant;
}

pub returns-in_err-let_go_one : goal.returns-in_err-let_go_one
returns-in_err-let_go_one g c = rw (escaped c.from_residual.result c.in_err-let_go_one.field-0.0
    c.from_residual.ensures.1) (record {
      ongoing = go_fail c.loop-lane.lane
          (subst (λ (n : ℕ). c.loop-lane.lane < n) c.lane_count-lane-end.ensures c.loop-lane-test.true)
          c.loop-lane.invariant
          c.in_err-let_go_one.ensures.ongoing;
    })

pub loop-lane-preserved : goal.loop-lane-preserved
loop-lane-preserved g c = go_next c.loop-lane.lane c.loop-lane.invariant c.in_ok-let_go_one.ensures.ongoing

pub returns : goal.returns
returns g c = record {
  ongoing = go_all c.loop-lane.lane (let a = c.loop-lane.auto.lane-end in let f =
      c.loop-lane-test.false in let e = c.lane_count-lane-end.ensures in omega (arith, a, f, e)) c.loop-lane.invariant;
}
