-- What a core tells of a part.
use Rattle.std.proofs.Common.{◌≡◌, ℕ, List, true, false, ◌∙◌, subst, Ok, Err, Some, None}
use Rattle.sftp_model.specs.Answers.{allows_reply}
use Rattle.sftp_model.specs.declared.answers.Expected.{Expected}
use Rattle.sftp_model.specs.declared.answers.Expected.TheVariants as expected
use Rattle.sftp_model.specs.declared.error.Fault.{Fault}
use Rattle.sftp_model.specs.declared.reply.Reply.{Reply}
use Rattle.sftp_model.specs.declared.reply.Reply.TheVariants as reply
use Rattle.std.specs.Prelude.{Bool, Option}
use Rattle.sftp_model.specs.declared.request.Request.{Request}
use Rattle.sftp_core.specs.declared.errors.SubmitError.{SubmitError}
use Rattle.sftp_core.specs.declared.errors.SubmitError.TheVariants as submit
use Rattle.sftp_model.specs.Frames.{is_too_long}
use Rattle.sftp_core.specs.Core.{Core, IsSubmitError, after_poll, record_at, polled_with, refusal_of, submit_refusal}
use Rattle.sftp_core.specs.Grant.{GrantValue}
use Rattle.sftp_core.specs.Table.{IsAllowed, asks_handle}
use Rattle.sftp_core.specs.declared.tokens.Polled.TheVariants as polled
use Rattle.plan_state.proofs.Polling.{came_grant, came_reply, failed_by, missed_by}
use Rattle.sftp_streams.specs.Parts.{AwaitsPlain, IsAnswer}
use Rattle.sftp_streams.specs.declared.parts.Answer.TheVariants as answer

no_handle : (kind : Expected) (handle : List ℕ) → asks_handle kind ≡ false → allows_reply kind (reply.Handle handle)
    ≡ true → ⊥
no_handle expected.Version handle plain e = cc
no_handle expected.Handle handle plain e = cc
no_handle (expected.Content len) handle plain e = cc
no_handle expected.Names handle plain e = cc
no_handle expected.FirstName handle plain e = cc
no_handle expected.Attrs handle plain e = cc
no_handle expected.Limits handle plain e = cc
no_handle expected.Status handle plain e = cc

pub never_granted : (core : Core) (t : ℕ) (g : GrantValue) → AwaitsPlain core t → IsAllowed (record_at core t)
    → polled_with core t ≡ Ok (polled.Granted g) → ⊥
never_granted core t g a allowed gave =
    no_handle a.kind g.handle a.plain ((came_grant core t g allowed gave).allowed a.kind a.holds.expects)

pub came : (core after : Core) (t : ℕ) (r : Reply) → IsAllowed (record_at core t) → polled_with core t
    ≡ Ok (polled.Reply r)
    → after ≡ after_poll core t → IsAnswer core after t (answer.Came r)
came core after t r allowed gave to = (let c = came_reply core t r allowed gave in
    (record { taken = c.taken; allowed = c.allowed }, to))

pub failed : (core after : Core) (t : ℕ) (f : Fault) → polled_with core t ≡ Ok (polled.Failed f) → after
    ≡ after_poll core t → IsAnswer core after t (answer.Failed f)
failed core after t f gave to = (let m = failed_by core t f gave in (m.0, m.1, to))

pub missing : (core after : Core) (t q : ℕ) → AwaitsPlain core t → polled_with core t ≡ Err q → after
    ≡ after_poll core t → IsAnswer core after t (answer.Missing q)
missing core after t q a gave to = (let m = missed_by core t q a.holds.counted gave in (m.0, m.2, m.1, to ∙ m.3))

-- a request that fits a frame is not refused for its length
pub never_long : (core : Core) (asked : Request) (e : SubmitError) → is_too_long asked ≡ false → e ≡ submit.TooLong
    → IsSubmitError e (submit_refusal core asked) → ⊥
never_long core asked e short is refused =
    by_fault core.fault (subst (λ (b : Bool). refusal_of core.fault b ≡ Some submit.TooLong) short
    (subst (λ (x : SubmitError). IsSubmitError x (submit_refusal core asked)) is refused))
  where
    by_fault : (fault : Option Fault) → refusal_of fault false ≡ Some submit.TooLong → ⊥
    by_fault None x = cc
    by_fault (Some f) x = cc
