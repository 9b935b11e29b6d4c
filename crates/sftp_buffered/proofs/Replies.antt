-- A reply that was taken, and what a session's facts are.
use Rattle.std.proofs.Common.{ap, sym, ◌∙◌, ◌≡◌, refl, ℕ, true, List, Option, Some, None, Ok, Err, IsSome, max}
use Rattle.sftp_model.specs.Answers.{allows_reply}
use Rattle.sftp_model.specs.declared.answers.Expected.TheVariants as expected
use Rattle.sftp_model.specs.declared.error.Fault.{Fault}
use Rattle.sftp_model.specs.declared.options.SftpOptions.{SftpOptions}
use Rattle.sftp_model.specs.declared.reply.Reply.{Reply}
use Rattle.sftp_model.specs.declared.reply.Reply.TheVariants as reply
use Rattle.sftp_core.specs.Core.{Core, record_at, polled_with, reply_in}
use Rattle.sftp_core.specs.Grant.{GrantValue}
use Rattle.sftp_core.specs.Table.{IsAllowed}
use Rattle.sftp_core.specs.declared.info.Info.{Info}
use Rattle.sftp_core.specs.declared.tokens.Polled.TheVariants as polled
use Rattle.plan_state.proofs.Polling.{came_grant, failed_by, missed_by}
use Rattle.sftp_file.specs.Files.{facts_in}
use Rattle.sftp_buffered.specs.declared.file.ReadUnderWay.{ReadUnderWay}
use Rattle.sftp_buffered.specs.Reads.{IsAllowedRead}
use Rattle.sftp_buffered.specs.Steps.{HasReply}

-- what options say of the write limit, whatever the server told
pub limit_in : (options : SftpOptions) (info : Option Info) → (facts_in options info).write_limit
    ≡ max 1 options.tokio_compat_file_write_limit
limit_in options None = refl
limit_in options (Some info) = refl

is_there : (p : Option Reply) → IsSome p → p ≡ None → ⊥
is_there None some none = cc
is_there (Some r) some none = cc

-- no HANDLE comes
pub no_grant : (core : Core) (t : ℕ) (g : GrantValue) → HasReply core t → IsAllowed (record_at core t)
    → polled_with core t ≡ Ok (polled.Granted g) → ⊥
no_grant core t g h fits gave = h.plain g.handle ((came_grant core t g fits gave).allowed h.kind h.held.expects)

-- nor a fault
pub no_fault : (core : Core) (t : ℕ) (f : Fault) → HasReply core t → polled_with core t ≡ Ok (polled.Failed f) → ⊥
no_fault core t f h gave = is_there (reply_in (record_at core t)) h.taken (failed_by core t f gave).0

-- nor the ticket
pub no_ticket : (core : Core) (t q : ℕ) → HasReply core t → polled_with core t ≡ Err q → ⊥
no_ticket core t q h gave = is_there (reply_in (record_at core t)) h.taken (missed_by core t q h.held.counted gave).0

-- no STATUS is a HANDLE
pub status_plain : (handle : List ℕ) → allows_reply expected.Status (reply.Handle handle) ≡ true → ⊥
status_plain handle e = cc

-- nor a DATA
pub content_plain : (len : ℕ) (handle : List ℕ) → allows_reply (expected.Content len) (reply.Handle handle) ≡ true → ⊥
content_plain len handle e = cc

-- the reply to the READ is one that it allows
pub allowed_read : (core : Core) (r : Option ReadUnderWay) (read : ReadUnderWay) (got : Reply) → r ≡ Some read
    → reply_in (record_at core read.ticket) ≡ Some got
    → allows_reply (expected.Content read.len) got ≡ true → IsAllowedRead core r
allowed_read core None read got is came fits = absurd cc
allowed_read core (Some x) read got is came fits = λ r e.
    (let same : x ≡ read = cc in
    let both : Some r ≡ Some got = sym e ∙ (ap (λ (y : ReadUnderWay). reply_in (record_at core y.ticket)) same ∙ came)
    in
    let one : r ≡ got = cc in (λ i. allows_reply (expected.Content (same i).len) (one i)) ∙ fits)
