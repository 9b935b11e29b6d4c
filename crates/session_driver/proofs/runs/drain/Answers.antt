use Rattle.std.proofs.Common.{◌<◌, ℕ, subst, arith}
use Rattle.link_frames.proofs.Joining.{escaped}
use Rattle.session_driver.proofs.Loops.{drains_begin, drains_next, drains_fail, drains_done}
use Rattle.session_driver.proofs.runs.drain.Goals as goal

pub loop-alloc-init : goal.loop-alloc-init
loop-alloc-init g c = drains_begin _ _ c.requires.ready

pub returns-in_err-one_drain : goal.returns-in_err-one_drain
returns-in_err-one_drain g c = rw (escaped c.from_residual.result c.in_err-one_drain.field-0.0
    c.from_residual.ensures.1) (record {
      ongoing = drains_fail
          (subst (λ (n : ℕ). 0 < n) c.unanswered.ensures c.loop-alloc-test.true) c.loop-alloc.invariant
          c.in_err-one_drain.ensures.ongoing;
    })

pub loop-alloc-preserved : goal.loop-alloc-preserved
loop-alloc-preserved g c = drains_next (subst (λ (n : ℕ). 0 < n) c.unanswered.ensures c.loop-alloc-test.true)
    c.loop-alloc.invariant c.in_ok-one_drain.ensures.ongoing

pub returns : goal.returns
returns g c = record {
  ongoing = drains_done (let f = c.loop-alloc-test.false in let e = c.unanswered.ensures in
      omega (arith, f, e)) c.loop-alloc.invariant;
}
