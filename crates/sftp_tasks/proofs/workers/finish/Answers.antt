use Rattle.std.proofs.Common.{sym, subst, Bool}
use Rattle.std.specs.Prelude.{Result}
use Rattle.session_seats.specs.Holds.{no_allowance}
use Rattle.session_seats.proofs.GrowLaws.{grew_applied}
use Rattle.sftp_model.specs.declared.error.Error.{Error}
use Rattle.sftp_tasks.specs.Calls.{InOneHold}
use Rattle.sftp_tasks.specs.Entries.{by_nothing}
use Rattle.sftp_tasks.specs.LockedEvents.{SettlesEnd}
use Rattle.sftp_tasks.specs.Shows.{shown_of}
use Rattle.sftp_tasks.proofs.CallLaws.{in_one_hold}
use Rattle.sftp_tasks.proofs.workers.finish.Goals as goal

pub returns : goal.returns
returns g c =
    let m = c.args.seat.now.inner.me in
    let n = c.apply-did.new.self.inner.me in
    let h = c.apply-did.ensures.held in record {
      own = (c.apply-did.ensures.own, c.apply-did.ensures.lane);
      only = grew_applied shown_of by_nothing c.args.seat.now.lane no_allowance m n h;
      looks = subst (λ (r : Result Bool Error). InOneHold SettlesEnd r m n) (sym c.settle.ensures)
          (in_one_hold SettlesEnd c.apply-did.result.0 c.apply-did.result.1 m n h);
    }
