use Rattle.std.proofs.Common.{rules}
use Rattle.script_text.proofs.Steps.{walked_send, walked_take, walked_other}
use Rattle.script_text.proofs.frames.put_frames.Goals as goal
use Rattle.script_text.proofs.frames.put_frames.Goals.{in-Send+in_ok-put_requests-in-Send, in-Take+in_ok-put_reply-in-Take, in_default}

pub loop-i-preserved : goal.loop-i-preserved
loop-i-preserved c =
    elim c.match-event.branch [
      | in-Send+in_ok-put_requests-in-Send w ↦
          let now = walked_send _ _ _ _ _ _ _ c.loop-i.invariant c.loop-i-test.true c.index-trace-i.is w.in-Send.is
          w.in_ok-put_requests-in-Send.ensures.ok in
          rw (w.out-is, w.first-is) (search rules)
      | in-Take+in_ok-put_reply-in-Take w ↦
          let now = walked_take _ _ _ _ _ _ _ _ _ c.loop-i.invariant c.loop-i-test.true c.index-trace-i.is w.in-Take.is
          w.in_ok-put_reply-in-Take.ensures.ok in
          rw (w.out-is, w.first-is) (search rules)
      | in_default w ↦
          let now = walked_other _ _ _ _ _ _ c.loop-i.invariant c.loop-i-test.true c.index-trace-i.is
          w.in_default.not-Send w.in_default.not-Take in
          rw (w.out-is, w.first-is) (search rules)
    ]
