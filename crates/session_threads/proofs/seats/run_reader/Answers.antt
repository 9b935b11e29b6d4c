use Rattle.std.proofs.Common.{◌∙◌}
use Rattle.sftp_tasks.specs.Entries.{by_read}
use Rattle.sftp_tasks.specs.Workers.{ReadWorks}
use Rattle.session_threads.proofs.MoveLaws.{read_sends, moves_sends}
use Rattle.session_threads.proofs.RunLaws.{ran_grew, stopped_ran, stopped_works}
use Rattle.session_threads.specs.Running.{sends_none}
use Rattle.session_threads.proofs.seats.run_reader.Goals as goal

pub returns-clause-ran : goal.returns-clause-ran
returns-clause-ran g c =
    stopped_ran sends_none _ c.read_worker-did.result c.args.seat.now c.read_worker-did.new.seat
    c.stop_after.new.seat moves_sends
    (ran_grew sends_none _ (by_read c.args.seat.now.lane) (read_sends c.args.seat.now.lane) c.args.seat.now
    c.read_worker-did.new.seat (c.read_worker-did.ensures.own.0 ∙ c.requires.own) c.read_worker-did.ensures.own.1
    c.read_worker-did.ensures.only)
    c.stop_after.ensures.stops

pub returns-clause-works : goal.returns-clause-works
returns-clause-works g c =
    stopped_works ReadWorks _ c.read_worker-did.result c.stop_after.result c.args.seat.now.inner.me
    c.read_worker-did.new.seat c.stop_after.new.seat (g.I.LinkState.state c.args.input.now)
    (g.I.LinkState.state c.read_worker-did.new.input) c.stop_after.ensures.same c.read_worker-did.ensures.rounds
    c.stop_after.ensures.stops
