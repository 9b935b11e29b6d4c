-- The answer of a core about a request.
use Rattle.std.specs.Prelude.{◌≡◌, ℕ, true, Some, None}
use Rattle.sftp_model.specs.Answers.{allows_reply}
use Rattle.sftp_model.specs.declared.answers.Expected.{Expected}
use Rattle.sftp_model.specs.declared.reply.Reply.{Reply}
use Rattle.sftp_model.specs.declared.reply.Reply.TheVariants as reply
use Rattle.sftp_core.specs.Core.{Core, after_poll, record_at, reply_in}
use Rattle.sftp_core.specs.Table.{expected_at}
use Rattle.sftp_core.specs.declared.id_record.IdRecord.TheVariants.{Granted}
use Rattle.transfer_copy.specs.declared.answers.TicketAnswer.{TicketAnswer}
use Rattle.transfer_copy.specs.declared.answers.TicketAnswer.TheVariants as answer

-- The reply to a ticket was taken, and its request allows it.
pub record HasCome (core : Core) (ticket : ℕ) (r : Reply) : Type 0 where
  pub taken : reply_in (record_at core ticket) ≡ Some r
  pub allowed : (kind : Expected) → expected_at (record_at core ticket) ≡ Some kind → allows_reply kind r ≡ true

-- A taken reply is returned before a kept fault. If there is neither, the core is unchanged. A HANDLE is returned as a
-- grant under the number of its request.
abbrev pub AnswersTicket : Core → ℕ → TicketAnswer → Type 0
AnswersTicket core ticket (answer.Came r) = HasCome core ticket r
AnswersTicket core ticket (answer.Granted grant) = HasCome core ticket (reply.Handle grant.handle) × (grant.id ≡ ticket)
    × (record_at (after_poll core ticket) ticket ≡ Some (Granted grant.handle 1))
AnswersTicket core ticket (answer.Missing same) = (reply_in (record_at core ticket) ≡ None) × (core.fault ≡ None)
    × (same ≡ ticket)
    × (after_poll core ticket ≡ core)
AnswersTicket core ticket (answer.Failed fault) = (reply_in (record_at core ticket) ≡ None) × (core.fault ≡ Some fault)
