use Rattle.std.proofs.Common.{sym, subst, false, Bool}
use Rattle.std.specs.Prelude.{Result}
use Rattle.session_seats.proofs.GrowLaws.{grew_applied}
use Rattle.session_seats.specs.Holds.{no_allowance}
use Rattle.sftp_model.specs.declared.error.Error.{Error}
use Rattle.sftp_tasks.specs.Calls.{AnswersSeat}
use Rattle.sftp_tasks.specs.Entries.{by_cancel}
use Rattle.sftp_tasks.specs.LockedEvents.{CancelsLaneCall, OfLane}
use Rattle.sftp_tasks.specs.Shows.{shown_of}
use Rattle.sftp_tasks.proofs.CallLaws.{answers_of}
use Rattle.sftp_tasks.proofs.PollLaws.{share_stays}
use Rattle.sftp_tasks.proofs.shared_sftp.SharedSftp.cancel.Goals as goal

pub returns : goal.returns
returns g c =
    let m = c.args.seat.now.inner.me in
    let n = c.apply-did.new.self.inner.me in
    let lane = c.args.seat.now.lane in
    let old = c.args.seat.now.receipts.items in
    let new = c.apply-did.new.self.receipts.items in
    let h = c.apply-did.ensures.held in
    let Does = OfLane CancelsLaneCall false lane in record {
      own = (c.apply-did.ensures.own, c.apply-did.ensures.lane, share_stays m n h);
      only = grew_applied shown_of by_cancel lane no_allowance m n h;
      answers = subst (λ (r : Result Bool Error). AnswersSeat Does old new r m n) (sym c.settle.ensures)
          (answers_of Does c.apply-did.result.0 c.apply-did.result.1 old new m n h);
    }
