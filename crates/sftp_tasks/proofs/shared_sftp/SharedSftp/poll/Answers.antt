use Rattle.std.proofs.Common.{sym, ap, subst}
use Rattle.std.specs.Prelude.{Result}
use Rattle.session_seats.specs.Holds.{no_allowance}
use Rattle.session_seats.proofs.GrowLaws.{grew_applied}
use Rattle.sftp_model.specs.declared.error.Error.{Error}
use Rattle.sftp_tasks.specs.declared.polls.Polled.{Polled}
use Rattle.sftp_tasks.specs.Calls.{InOneHold, PollsSeat}
use Rattle.sftp_tasks.specs.Entries.{by_step}
use Rattle.sftp_tasks.specs.Shows.{shown_of}
use Rattle.sftp_tasks.specs.declared.locked.Locked.{Locked}
use Rattle.sftp_tasks.proofs.CallLaws.{in_one_hold}
use Rattle.sftp_tasks.proofs.PollLaws.{share_kept}
use Rattle.sftp_tasks.proofs.shared_sftp.SharedSftp.poll.Goals as goal

pub returns : goal.returns
returns g c =
    let m = c.args.seat.now.inner.me in
    let n = c.apply-did.new.self.inner.me in
    let lane = c.args.seat.now.lane in
    let h = c.apply-did.ensures.held in record {
      own = (
        c.apply-did.ensures.own,
        c.apply-did.ensures.lane,
        share_kept m n h (ap (λ (x : Locked). x.users) h.did.does.0.0),
      );
      only = grew_applied shown_of by_step lane no_allowance m n h;
      polls = subst (λ (r : Result Polled Error). InOneHold (PollsSeat lane) r m n) (sym c.settle.ensures)
          (in_one_hold (PollsSeat lane) c.apply-did.result.0 c.apply-did.result.1 m n h);
    }
