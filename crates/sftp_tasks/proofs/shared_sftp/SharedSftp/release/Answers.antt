use Rattle.std.proofs.Common.{◌∙◌, sym, ap, subst, arith, Ok, true, Bool}
use Rattle.std.specs.Prelude.{Result}
use Rattle.session_seats.specs.Holds.{no_allowance}
use Rattle.session_seats.proofs.GrowLaws.{grew_applied, grew_leaves, grew_on}
use Rattle.sftp_model.specs.declared.error.Error.{Error}
use Rattle.sftp_tasks.specs.declared.locked.Locked.{Locked}
use Rattle.sftp_tasks.specs.Calls.{AnswersSeat}
use Rattle.sftp_tasks.specs.Entries.{by_let_go}
use Rattle.sftp_tasks.specs.LockedEvents.{ReleasesLane}
use Rattle.sftp_tasks.specs.Shows.{shown_of}
use Rattle.sftp_tasks.proofs.CallLaws.{answers_of}
use Rattle.sftp_tasks.proofs.PollLaws.{share_kept}
use Rattle.sftp_tasks.proofs.shared_sftp.SharedSftp.release.Goals as goal

pub leave-requires-clause-share : goal.leave-requires-clause-share
leave-requires-clause-share g c =
    let m = c.args.seat.now.inner.me in
    let h = c.apply-did.ensures.held in
    let kept = share_kept m c.apply-did.new.self.inner.me h (ap (λ (x : Locked). x.users) h.did.does.0.0) in
    let some = c.requires.share in
    omega (arith, kept, some)

pub returns-in-Ok-false-clause-only : goal.returns-in-Ok-false-clause-only
returns-in-Ok-false-clause-only g c =
    grew_applied shown_of by_let_go c.args.seat.now.lane no_allowance c.args.seat.now.inner.me
    c.apply-did.new.self.inner.me c.apply-did.ensures.held

pub returns-in-Ok-false-clause-releases : goal.returns-in-Ok-false-clause-releases
returns-in-Ok-false-clause-releases g c =
    let m = c.args.seat.now.inner.me in
    let n = c.apply-did.new.self.inner.me in
    let old = c.args.seat.now.receipts.items in
    let new = c.apply-did.new.self.receipts.items in
    let h = c.apply-did.ensures.held in
    let Does = ReleasesLane c.args.seat.now.lane in
    let is = sym c.settle.ensures ∙ c.in-Ok-false.is ∙ ap (λ o. Ok o) c.in-Ok-false.field-0-test in (
      subst (λ (r : Result Bool Error). AnswersSeat Does old new r m n) is
          (answers_of Does c.apply-did.result.0 c.apply-did.result.1 old new m n h),
      share_kept m n h (ap (λ (x : Locked). x.users) h.did.does.0.0),
    )

pub returns-in-Err-clause-only : goal.returns-in-Err-clause-only
returns-in-Err-clause-only g c =
    grew_applied shown_of by_let_go c.args.seat.now.lane no_allowance c.args.seat.now.inner.me
    c.apply-did.new.self.inner.me c.apply-did.ensures.held

pub returns-in-Err-clause-releases : goal.returns-in-Err-clause-releases
returns-in-Err-clause-releases g c =
    let m = c.args.seat.now.inner.me in
    let n = c.apply-did.new.self.inner.me in
    let old = c.args.seat.now.receipts.items in
    let new = c.apply-did.new.self.receipts.items in
    let h = c.apply-did.ensures.held in
    let Does = ReleasesLane c.args.seat.now.lane in
    let is = sym c.settle.ensures ∙ c.in-Err.is in (
      subst (λ (r : Result Bool Error). AnswersSeat Does old new r m n) is
          (answers_of Does c.apply-did.result.0 c.apply-did.result.1 old new m n h),
      share_kept m n h (ap (λ (x : Locked). x.users) h.did.does.0.0),
    )

pub returns-clause-only : goal.returns-clause-only
returns-clause-only g c =
    let lane = c.args.seat.now.lane in
    let mid = c.apply-did.new.self.inner.me in
    grew_on (by_let_go lane) _ _ _
    (grew_applied shown_of by_let_go lane no_allowance c.args.seat.now.inner.me mid c.apply-did.ensures.held)
    (grew_leaves shown_of c.leave.result mid c.leave.new.self.inner.me c.leave.ensures.left (by_let_go lane))

pub returns-clause-releases : goal.returns-clause-releases
returns-clause-releases g c =
    let m = c.args.seat.now.inner.me in
    let mid = c.apply-did.new.self.inner.me in
    let old = c.args.seat.now.receipts.items in
    let new = c.apply-did.new.self.receipts.items in
    let h = c.apply-did.ensures.held in
    let Does = ReleasesLane c.args.seat.now.lane in
    let is = sym c.settle.ensures ∙ c.in-Ok-true.is ∙ ap (λ o. Ok o) c.in-Ok-true.field-0-test in
    let answers : AnswersSeat Does old new (Ok true) m mid = subst
    (λ (r : Result Bool Error). AnswersSeat Does old new r m mid) is
    (answers_of Does c.apply-did.result.0 c.apply-did.result.1 old new m mid h) in
    let receipts = c.leave.ensures.same.1 in (
      record {
        mid = mid;
        lets = subst (λ r. AnswersSeat Does old r.items (Ok true) m mid) (sym receipts) answers;
        last = c.leave.result;
        leaves = c.leave.ensures.left;
      },
      c.leave.ensures.left.share ∙ share_kept m mid h (ap (λ (x : Locked). x.users) h.did.does.0.0),
    )
