use Rattle.link_frames.proofs.Joining.{escaped}
use Rattle.session_driver.proofs.Whole.{turns_stopped, ends_stopped, ended_on, go_stopped, gone_on, run_is, all_done, all_held, drives, unopened}
use Rattle.session_driver.proofs.driver.run_session.Goals as goal

pub returns-in_err-open : goal.returns-in_err-open
returns-in_err-open g c =
    rw (escaped c.from_residual.result c.in_err-open.field-0.0 c.from_residual.ensures.1)
    (unopened c.args.schedule.now _ c.in_err-open.ensures.stops c.in_err-open.ensures.caused)

pub returns-in_err-run_turns : goal.returns-in_err-run_turns
returns-in_err-run_turns g c =
    rw (escaped c.from_residual-in_err-run_turns.result c.in_err-run_turns.field-0.0
    c.from_residual-in_err-run_turns.ensures.1)
    (drives c.args.schedule.now _ c.in_ok-open.ensures.opened c.in_ok-open.ensures.log c.in_ok-open.ensures.caused
    (turns_stopped c.args.schedule.now c.in_err-run_turns.ensures.ongoing))

pub returns-in_err-end_lanes : goal.returns-in_err-end_lanes
returns-in_err-end_lanes g c =
    rw (escaped c.from_residual-in_err-end_lanes.result c.in_err-end_lanes.field-0.0
    c.from_residual-in_err-end_lanes.ensures.1)
    (drives c.args.schedule.now _ c.in_ok-open.ensures.opened c.in_ok-open.ensures.log c.in_ok-open.ensures.caused
    (ends_stopped c.args.schedule.now c.in_ok-run_turns.ensures.ongoing c.in_err-end_lanes.ensures.ongoing))

pub returns-in_err-let_go_lanes : goal.returns-in_err-let_go_lanes
returns-in_err-let_go_lanes g c =
    rw (escaped c.from_residual-in_err-let_go_lanes.result c.in_err-let_go_lanes.field-0.0
    c.from_residual-in_err-let_go_lanes.ensures.1)
    (drives c.args.schedule.now _ c.in_ok-open.ensures.opened c.in_ok-open.ensures.log c.in_ok-open.ensures.caused
    (go_stopped c.args.schedule.now (ended_on c.args.schedule.now c.in_ok-run_turns.ensures.ongoing
    c.in_ok-end_lanes.ensures.ongoing) c.in_err-let_go_lanes.ensures.ongoing))

pub let_go_lanes-requires-clause-done : goal.let_go_lanes-requires-clause-done
let_go_lanes-requires-clause-done g c = all_done c.args.schedule.now
    (ended_on c.args.schedule.now c.in_ok-run_turns.ensures.ongoing c.in_ok-end_lanes.ensures.ongoing)

pub let_go_lanes-requires-clause-holds : goal.let_go_lanes-requires-clause-holds
let_go_lanes-requires-clause-holds g c = all_held c.args.schedule.now c.in_ok-open.ensures.opened.opens
    (ended_on c.args.schedule.now c.in_ok-run_turns.ensures.ongoing c.in_ok-end_lanes.ensures.ongoing)

pub returns : goal.returns
returns g c = drives c.args.schedule.now _ c.in_ok-open.ensures.opened c.in_ok-open.ensures.log
    c.in_ok-open.ensures.caused
    (run_is c.args.schedule.now (gone_on c.args.schedule.now (ended_on c.args.schedule.now
    c.in_ok-run_turns.ensures.ongoing c.in_ok-end_lanes.ensures.ongoing) c.in_ok-let_go_lanes.ensures.ongoing)
    c.drain.ensures.ongoing)
