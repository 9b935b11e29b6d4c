use Rattle.std.proofs.Common.{◌+◌, rules}
use Rattle.std.specs.Prelude.{drop}
use Rattle.link_frames.proofs.Joining.{escaped}
use Rattle.sftp_view.proofs.AllLaws.{does_first, item_first, does_lost, does_more, does_stopped, may_next, within_next}
use Rattle.sftp_view.proofs.ops.View.run_all.Goals as goal

pub loop-op-init : goal.loop-op-init
loop-op-init g c =
    does_first c.args.ops.now c.new-answers.result.items c.args.self.now (g.L.LinkState.state c.args.link.now)
    (search rules) c.requires

pub run-requires-clause-may : goal.run-requires-clause-may
run-requires-clause-may g c =
    may_next c.args.ops.now (drop c.loop-op.op-index c.args.ops.now) (drop (c.loop-op.op-index + 1) c.args.ops.now)
    c.op-item.result c.loop-op.answers.items
    c.args.self.now c.loop-op.self (g.L.LinkState.state c.args.link.now) (g.L.LinkState.state c.loop-op.link) c.requires
    (item_first c.args.ops.now c.loop-op.op-index c.op-item.result c.op-item.is c.loop-op-test.true) c.loop-op.invariant

pub run-requires-clause-within : goal.run-requires-clause-within
run-requires-clause-within g c =
    within_next c.args.ops.now (drop c.loop-op.op-index c.args.ops.now) (drop (c.loop-op.op-index + 1) c.args.ops.now)
    c.op-item.result c.loop-op.answers.items
    c.args.self.now c.loop-op.self (g.L.LinkState.state c.args.link.now) (g.L.LinkState.state c.loop-op.link)
    (item_first c.args.ops.now c.loop-op.op-index c.op-item.result c.op-item.is c.loop-op-test.true) c.loop-op.invariant

pub returns-in_err-answer : goal.returns-in_err-answer
returns-in_err-answer g c =
    rw (escaped c.from_residual.result c.in_err-answer.field-0.0 c.from_residual.ensures.1)
    (does_stopped c.args.ops.now (drop c.loop-op.op-index c.args.ops.now) c.op-item.result c.loop-op.answers.items
    c.args.self.now c.loop-op.self c.run.new.self
    (g.L.LinkState.state c.args.link.now) (g.L.LinkState.state c.loop-op.link) (g.L.LinkState.state c.run.new.link)
    c.in_err-answer.field-0.0
    c.loop-op.invariant c.in_err-answer.ensures)

pub returns-then-is_err : goal.returns-then-is_err
returns-then-is_err g c =
    does_lost c.args.ops.now (drop c.loop-op.op-index c.args.ops.now) c.op-item.result c.loop-op.answers.items
    c.in_ok-answer.answer c.args.self.now c.loop-op.self
    c.run.new.self (g.L.LinkState.state c.args.link.now) (g.L.LinkState.state c.loop-op.link)
    (g.L.LinkState.state c.run.new.link) c.loop-op.invariant
    c.in_ok-answer.ensures

pub loop-op-preserved : goal.loop-op-preserved
loop-op-preserved g c =
    does_more c.args.ops.now (drop c.loop-op.op-index c.args.ops.now) (drop (c.loop-op.op-index + 1) c.args.ops.now)
    c.op-item.result c.loop-op.answers.items
    c.push.new.self.items c.in_ok-answer.answer c.args.self.now c.loop-op.self c.run.new.self
    (g.L.LinkState.state c.args.link.now)
    (g.L.LinkState.state c.loop-op.link) (g.L.LinkState.state c.run.new.link)
    (item_first c.args.ops.now c.loop-op.op-index c.op-item.result c.op-item.is c.loop-op-test.true)
    (search rules) c.loop-op.invariant c.in_ok-answer.ensures
