use Rattle.session_seats.specs.Holds.{no_allowance}
use Rattle.session_seats.proofs.GrowLaws.{grew_applied}
use Rattle.session_seats.proofs.HoldLaws.{hold_map}
use Rattle.sftp_tasks.specs.Entries.{by_nothing}
use Rattle.sftp_tasks.specs.Shows.{shown_of}
use Rattle.sftp_tasks.proofs.shared_sftp.SharedSftp.give_up.Goals as goal

pub returns : goal.returns
returns g c =
    let m = c.args.seat.now.inner.me in
    let n = c.apply.new.self.inner.me in
    let h = c.apply.ensures.held in record {
      own = (c.apply.ensures.own, c.apply.ensures.lane);
      only = grew_applied shown_of by_nothing c.args.seat.now.lane no_allowance m n h;
      gives_up = hold_map shown_of m n h h.did.does;
    }
