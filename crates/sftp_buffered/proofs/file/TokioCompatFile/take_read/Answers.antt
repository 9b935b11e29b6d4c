use Rattle.std.proofs.Common.{rules, ◌≡◌, subst, Some}
use Rattle.sftp_model.specs.declared.answers.Expected.TheVariants as expected
use Rattle.sftp_core.specs.Core.{record_at, reply_in}
use Rattle.plan_state.specs.Asked.{HoldsTicket}
use Rattle.sftp_buffered.specs.declared.file.ReadUnderWay.{ReadUnderWay}
use Rattle.sftp_buffered.specs.Buffered.{IsHeldRead}
use Rattle.sftp_buffered.proofs.Replies.{allowed_read}
use Rattle.sftp_buffered.proofs.file.TokioCompatFile.take_read.Goals as goal

pub returns-clause-allowed : goal.returns-clause-allowed
returns-clause-allowed c =
    let read : ReadUnderWay = c.in-Some.field-0 in
    let is : c.args.self.now.reading ≡ Some read = search rules in
    let held : HoldsTicket c.args.core.now read.ticket (expected.Content read.len) =
    subst (IsHeldRead c.args.core.now) is c.requires.held in
    let came : reply_in (record_at c.args.core.now read.ticket) ≡ Some c.take_reply.result = search rules in
    allowed_read c.args.core.now c.args.self.now.reading read c.take_reply.result is came
    (c.take_reply.ensures.allowed (expected.Content read.len) held.expects)
