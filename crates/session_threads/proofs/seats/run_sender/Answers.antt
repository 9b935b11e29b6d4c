use Rattle.std.proofs.Common.{◌∙◌}
use Rattle.sftp_tasks.specs.Entries.{by_flush}
use Rattle.sftp_tasks.specs.Workers.{FlushWorks}
use Rattle.session_threads.proofs.MoveLaws.{flush_takes, moves_takes}
use Rattle.session_threads.proofs.RunLaws.{ran_grew, stopped_ran, stopped_works}
use Rattle.session_threads.specs.Running.{takes_none}
use Rattle.session_threads.proofs.seats.run_sender.Goals as goal

pub returns-clause-ran : goal.returns-clause-ran
returns-clause-ran g c =
    stopped_ran takes_none _ c.flush_worker-did.result c.args.seat.now c.flush_worker-did.new.seat
    c.stop_after.new.seat moves_takes
    (ran_grew takes_none _ (by_flush c.args.seat.now.lane) (flush_takes c.args.seat.now.lane) c.args.seat.now
    c.flush_worker-did.new.seat (c.flush_worker-did.ensures.own.0 ∙ c.requires.own) c.flush_worker-did.ensures.own.1
    c.flush_worker-did.ensures.only)
    c.stop_after.ensures.stops

pub returns-clause-works : goal.returns-clause-works
returns-clause-works g c =
    stopped_works FlushWorks _ c.flush_worker-did.result c.stop_after.result c.args.seat.now.inner.me
    c.flush_worker-did.new.seat c.stop_after.new.seat (g.O.LinkState.state c.args.out.now)
    (g.O.LinkState.state c.flush_worker-did.new.out) c.stop_after.ensures.same c.flush_worker-did.ensures.rounds
    c.stop_after.ensures.stops
