use Rattle.std.proofs.Common.{◌≡◌, ◌-◌, ◌^◌, rules}
use Rattle.link_frames.proofs.Joining.{escaped}
use Rattle.sftp_client.proofs.Waiting.{waits_end, waits_next, waits_out, waits_stop}
use Rattle.sftp_client.proofs.sftp.Sftp.run.Goals as goal

pub returns-in-Ready : goal.returns-in-Ready
returns-in-Ready g c =
    waits_end g.M.PlanRunner.meaning g.L.LinkState.state c.loop.counter c.args.self.now c.loop.self c.poll_call.new.self
    c.args.call.now
    c.loop.call c.poll_call.new.call c.in-Ready.value c.loop.invariant c.in-Ready.ensures

pub returns-in_err-round-in-Pending : goal.returns-in_err-round-in-Pending
returns-in_err-round-in-Pending g c =
    rw (escaped c.from_residual.result c.in_err-round-in-Pending.field-0.0 c.from_residual.ensures.1)
    (waits_stop g.M.PlanRunner.meaning g.L.LinkState.state c.loop.counter c.args.self.now c.loop.self
    c.poll_call.new.self c.round.new.self
    c.args.call.now c.loop.call c.poll_call.new.call c.in_err-round-in-Pending.field-0.0 c.loop.invariant
    c.in-Pending.ensures
    c.in_err-round-in-Pending.ensures)

pub loop-preserved : goal.loop-preserved
loop-preserved g c =
    waits_next g.M.PlanRunner.meaning g.L.LinkState.state c.loop.counter c.args.self.now c.loop.self
    c.poll_call.new.self c.round.new.self
    c.args.call.now c.loop.call c.poll_call.new.call c.loop.invariant c.in-Pending.ensures
    c.in_ok-round-in-Pending.ensures

pub returns : goal.returns
returns g c =
    let all : c.loop.counter ≡ 2 ^ 64 - 1 = search rules in
    waits_out g.M.PlanRunner.meaning g.L.LinkState.state c.loop.counter c.args.self.now c.loop.self c.args.call.now
    c.loop.call
    c.loop.invariant all
