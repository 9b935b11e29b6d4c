-- A READ or a WRITE stands at its place whatever comes later, and its reply brings no handle.
use Rattle.std.proofs.Common.{◌≡◌, ◌<◌, ℕ, true, false, List, Option, Some, None, refl, sym, ◌∙◌, inl, inr}
use Rattle.std.proofs.lemmas.Bool.{cases_lt}
use Rattle.sftp_model.specs.declared.answers.Expected.TheVariants as expected
use Rattle.sftp_model.specs.declared.reply.Reply.{Reply}
use Rattle.sftp_model.specs.declared.reply.Reply.TheVariants as reply
use Rattle.sftp_model.specs.declared.request.Request.{Request}
use Rattle.sftp_model.specs.declared.request.Request.TheVariants as request
use Rattle.sftp_model.specs.Answers.{allows_reply, is_handle, may_answer}
use Rattle.session_model.specs.declared.entry.Entry.{Entry}
use Rattle.session_model.specs.Readings.{AskedRequest, answer, count_submitted, asked_at}
use Rattle.session_model.specs.Calls.{Setting}
use Rattle.session_model.specs.Grants.{is_grant, is_granted}
use Rattle.session_model.specs.Journals.{IsJournal}
use Rattle.session_model.proofs.CallsSoFar.{reply_may}
use Rattle.session_model.proofs.RequestLaws.{asked_beyond}
use Rattle.session_laws.specs.Rest.{IsTransferAt, is_transfer}

-- ---- its place

-- what was asked stands below
pub place_below : (past : List Entry) (p : ℕ) (a : AskedRequest) → asked_at past p ≡ Some a → p < count_submitted past
place_below past p a is = elim (cases_lt p (count_submitted past)) [
  | inl lt ↦ lt
  | inr le ↦ absurd (let none : asked_at past p ≡ None = asked_beyond past p le in
      let clash : ◌≡◌ {A = Option AskedRequest} None (Some a) = sym none ∙ is in cc)
]

-- the request stays at its place
pub transfer_on : (past now : List Entry) (p : ℕ) → ((q : ℕ) → q < count_submitted past → asked_at now q
    ≡ asked_at past q) → IsTransferAt past p → IsTransferAt now p
transfer_on past now p same t = record {
  asked = t.asked;
  here = same p (place_below past p t.asked t.here) ∙ t.here;
  transfers = t.transfers;
}

-- ---- its reply

content_plain : (len : ℕ) (r : Reply) → allows_reply (expected.Content len) r ≡ true → is_handle r ≡ false
content_plain len (reply.Handle handle) may = absurd cc
content_plain len other may = refl

status_plain : (r : Reply) → allows_reply expected.Status r ≡ true → is_handle r ≡ false
status_plain (reply.Handle handle) may = absurd cc
status_plain other may = refl

-- what may answer a READ or a WRITE is no HANDLE,
pub transfer_plain : (q : Request) (r : Reply) → is_transfer q ≡ true → may_answer q r ≡ true → is_handle r ≡ false
transfer_plain (request.Read handle offset len) r is may = content_plain len r may
transfer_plain (request.Write handle offset content) r is may = status_plain r may
transfer_plain other r is may = absurd cc

-- so none came at its place
pub transfer_ungranted : (s : Setting) (past : List Entry) (p : ℕ) → IsJournal s past → IsTransferAt past p
    → is_grant past p ≡ false
transfer_ungranted s past p j t = by_reply (answer past p) refl
  where
    by_reply : (y : Option Reply) → answer past p ≡ y → is_granted y ≡ false
    by_reply None is = refl
    by_reply (Some r) is = transfer_plain t.asked.request r t.transfers (reply_may s past p r t.asked j is t.here)
