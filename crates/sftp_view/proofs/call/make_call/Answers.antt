use Rattle.std.proofs.Common.{rules}
use Rattle.link_frames.proofs.Joining.{escaped}
use Rattle.sftp_view.proofs.CallLaws.{call_done, call_ended, call_ok, call_stopped, starved}
use Rattle.sftp_view.proofs.call.make_call.Goals as goal

pub returns-then-is_err : goal.returns-then-is_err
returns-then-is_err g c = starved c.args.session.now c.step_idly.new.session _ (search rules)

pub run_call-requires-clause-ok : goal.run_call-requires-clause-ok
run_call-requires-clause-ok g c =
    call_ok c.args.call c.args.session.now c.step_idly.new.session (g.L.LinkState.state c.args.link.now) c.requires.idle
    c.requires.may (search rules)

pub returns-in_err-run_call : goal.returns-in_err-run_call
returns-in_err-run_call g c =
    rw (escaped c.from_residual.result c.in_err-run_call.field-0.0 c.from_residual.ensures.1)
    (call_stopped c.args.call c.args.session.now c.step_idly.new.session (g.L.LinkState.state c.args.link.now)
    c.requires.idle (search rules)
    c.in_err-run_call.ensures.ongoing)

pub unreachable-requires : goal.unreachable-requires
unreachable-requires g c =
    call_ended c.args.call c.args.session.now c.step_idly.new.session (g.L.LinkState.state c.args.link.now)
    c.requires.idle (search rules)
    c.in_ok-run_call.ensures.ongoing c.outcomes.result.now c.outcomes.ensures (search rules)

pub returns-in-Ok : goal.returns-in-Ok
returns-in-Ok g c =
    call_done c.args.call c.args.session.now c.step_idly.new.session (g.L.LinkState.state c.args.link.now)
    c.requires.idle (search rules)
    c.in_ok-run_call.ensures.ongoing c.outcomes.result.now c.in-Some.outcome.now c.in-Ok.found c.outcomes.ensures
    (search rules) c.in-Ok.ensures
