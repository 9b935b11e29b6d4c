use Rattle.std.proofs.Common.{◌∙◌, arith}
use Rattle.sftp_tasks.specs.Entries.{by_let_go, by_step}
use Rattle.session_threads.proofs.MoveLaws.{let_go_moves, step_moves}
use Rattle.session_threads.proofs.RunLaws.{ran_grew, ran_on}
use Rattle.session_threads.specs.Running.{moves_none}
use Rattle.session_threads.proofs.seats.finish_lane.Goals as goal

pub release-requires-clause-share : goal.release-requires-clause-share
release-requires-clause-share g c =
    let kept = c.poll_wait.ensures.own.2 in
    let some = c.requires.share in
    omega (arith, kept, some)

pub returns-in-Err : goal.returns-in-Err
returns-in-Err g c =
    ran_grew moves_none _ (by_step c.args.seat.now.lane) (step_moves c.args.seat.now.lane) c.args.seat.now
    c.poll_wait.new.seat (c.poll_wait.ensures.own.0 ∙ c.requires.own) c.poll_wait.ensures.own.1
    c.poll_wait.ensures.only

pub returns-in-Ok-true : goal.returns-in-Ok-true
returns-in-Ok-true g c =
    ran_on moves_none _ c.args.seat.now c.poll_wait.new.seat c.release.new.seat
    (ran_grew moves_none _ (by_step c.args.seat.now.lane) (step_moves c.args.seat.now.lane) c.args.seat.now
    c.poll_wait.new.seat (c.poll_wait.ensures.own.0 ∙ c.requires.own) c.poll_wait.ensures.own.1
    c.poll_wait.ensures.only)
    (ran_grew moves_none _ (by_let_go c.poll_wait.new.seat.lane) (let_go_moves c.poll_wait.new.seat.lane)
    c.poll_wait.new.seat c.release.new.seat
    (c.release.ensures.own.0 ∙ c.poll_wait.ensures.own.0 ∙ c.requires.own) c.release.ensures.own.1
    c.release.ensures.only)

pub returns-in-Ok-false : goal.returns-in-Ok-false
returns-in-Ok-false g c =
    ran_on moves_none _ c.args.seat.now c.poll_wait.new.seat c.release.new.seat
    (ran_grew moves_none _ (by_step c.args.seat.now.lane) (step_moves c.args.seat.now.lane) c.args.seat.now
    c.poll_wait.new.seat (c.poll_wait.ensures.own.0 ∙ c.requires.own) c.poll_wait.ensures.own.1
    c.poll_wait.ensures.only)
    (ran_grew moves_none _ (by_let_go c.poll_wait.new.seat.lane) (let_go_moves c.poll_wait.new.seat.lane)
    c.poll_wait.new.seat c.release.new.seat
    (c.release.ensures.own.0 ∙ c.poll_wait.ensures.own.0 ∙ c.requires.own) c.release.ensures.own.1
    c.release.ensures.only)

pub returns-in-Err-release : goal.returns-in-Err-release
returns-in-Err-release g c =
    ran_on moves_none _ c.args.seat.now c.poll_wait.new.seat c.release.new.seat
    (ran_grew moves_none _ (by_step c.args.seat.now.lane) (step_moves c.args.seat.now.lane) c.args.seat.now
    c.poll_wait.new.seat (c.poll_wait.ensures.own.0 ∙ c.requires.own) c.poll_wait.ensures.own.1
    c.poll_wait.ensures.only)
    (ran_grew moves_none _ (by_let_go c.poll_wait.new.seat.lane) (let_go_moves c.poll_wait.new.seat.lane)
    c.poll_wait.new.seat c.release.new.seat
    (c.release.ensures.own.0 ∙ c.poll_wait.ensures.own.0 ∙ c.requires.own) c.release.ensures.own.1
    c.release.ensures.only)
