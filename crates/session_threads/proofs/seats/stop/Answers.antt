use Rattle.std.proofs.Common.{◌∙◌}
use Rattle.sftp_tasks.specs.Entries.{by_nothing}
use Rattle.session_seats.specs.Holds.{claim_of}
use Rattle.session_seats.proofs.GrowLaws.{grew_weaker}
use Rattle.session_threads.proofs.MoveLaws.{nothing_moves}
use Rattle.session_threads.proofs.RunLaws.{ran_grew}
use Rattle.session_threads.specs.Running.{adds_nothing, moves_none}
use Rattle.session_threads.proofs.seats.stop.Goals as goal

pub returns-clause-ran : goal.returns-clause-ran
returns-clause-ran g c =
    ran_grew moves_none _ (by_nothing c.args.seat.now.lane) (nothing_moves c.args.seat.now.lane) c.args.seat.now
    c.give_up.new.seat (c.give_up.ensures.own.0 ∙ c.requires) c.give_up.ensures.own.1 c.give_up.ensures.only

pub returns-clause-adds : goal.returns-clause-adds
returns-clause-adds g c =
    grew_weaker (by_nothing c.args.seat.now.lane) adds_nothing (λ e h. h) (claim_of c.args.seat.now.inner.me)
    (claim_of c.give_up.new.seat.inner.me) c.give_up.ensures.only
