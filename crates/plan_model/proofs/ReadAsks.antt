-- What a read from a buffer asks first: a READ at the file's offset, and only where the buffer has no bytes.
use Rattle.std.proofs.Common.{◌≡◌, ◌==◌, ℕ, List, [], ◌∷◌, Option, Some, None, refl, ap, sym, subst}
use Rattle.std.specs.Prelude.{◌++◌, min, max, not}
use Rattle.sftp_model.specs.declared.outcome.Outcome.TheVariants as outcome
use Rattle.sftp_model.specs.declared.error.IoKind.TheVariants as kind
use Rattle.sftp_model.specs.declared.reply.Reply.{Reply}
use Rattle.sftp_model.specs.declared.request.Request.{Request}
use Rattle.sftp_model.specs.declared.request.Request.TheVariants as request
use Rattle.sftp_model.specs.declared.slot.Facts.{Facts}
use Rattle.sftp_model.specs.declared.slot.Move.{Move}
use Rattle.sftp_model.specs.declared.slot.Move.TheVariants.{Ask, Done}
use Rattle.sftp_model.specs.declared.slot.FileAt.{FileAt}
use Rattle.sftp_model.specs.declared.slot.Buffer.{Buffer}
use Rattle.sftp_model.specs.declared.slot.Slot.{Slot}
use Rattle.sftp_model.specs.declared.slot.Slot.TheVariants.{Buffered}
use Rattle.sftp_model.specs.declared.slot.Site.{Site}
use Rattle.sftp_model.specs.Slots.{slot_at}
use Rattle.plan_model.specs.Moves.{Answers, Own, Plan, ask_read, handle_of, overflows, refuse_locally, on_buffered}
use Rattle.plan_model.specs.BufferPlans.{buffered_bytes, without_reading, was_filled, fill_next, from_buffer, buf_read_file_next, buf_read_next}
use Rattle.plan_model.specs.OwnRequests.{oldest_first, AreAsked}
use Rattle.plan_model.specs.ReadsUnderWay.{IsReadAt}
use Rattle.plan_model.proofs.MoveLaws.{either, by_content}
use Rattle.plan_model.proofs.CountLaws.{answered_in}
use Rattle.plan_model.proofs.FileLaws.{in_range}
use Rattle.plan_model.proofs.LimitWrites.{asks_same, no_done, no_wait}

-- ---- the first of a call's own requests

-- the plan asked it by some replies, before any other
pub first_asked : (plan : Plan) (past : Own) (answers : Answers) (a : ℕ × Request) (later : Own)
    → AreAsked plan past answers → oldest_first past ≡ a ∷ later → (before : Answers) × (plan [] before ≡ Ask a.1)
first_asked plan [] answers a later asked is = absurd cc
first_asked plan (b ∷ past) answers a later (before, earlier, asks, none, stays) is =
    by_rest (oldest_first past) refl (λ d own some. first_asked plan past before d own earlier some)
  where
    by_rest : (own : Own) → oldest_first past ≡ own → ((d : ℕ × Request) (rest : Own) → oldest_first past ≡ d ∷ rest
        → (x : Answers) × (plan [] x ≡ Ask d.1)) → (x : Answers) × (plan [] x ≡ Ask a.1)
    by_rest [] none first =
        let same : b ≡ a = (let e : b ∷ [] ≡ a ∷ later = subst (λ (o : Own). o ++ b ∷ [] ≡ a ∷ later) none is in cc) in (
          before,
          subst (λ (o : Own). plan o before ≡ Ask a.1) none
              (subst (λ (x : ℕ × Request). plan (oldest_first past) before ≡ Ask x.1) same asks),
        )
    by_rest (d ∷ own) some first =
        let same : d ≡ a = (let e : d ∷ (own ++ b ∷ []) ≡ a ∷ later =
        subst (λ (o : Own). o ++ b ∷ [] ≡ a ∷ later) some is in cc) in
        let was : (x : Answers) × (plan [] x ≡ Ask d.1) = first d own some in
        (was.0, subst (λ (x : ℕ × Request). plan [] was.0 ≡ Ask x.1) same was.1)

-- ---- the READ of a buffer

-- nothing is asked once the READ under way is answered
filled_asks : (slot n : ℕ) (file : FileAt) (buffer : Buffer) (site : Site) (y : Reply) (r : Request)
    → was_filled slot n file buffer site y ≡ Ask r → ⊥
filled_asks slot n file buffer site y r =
    by_content (λ (m : Move). m ≡ Ask r → ⊥) y (without_reading slot file buffer site)
    (Done outcome.End (without_reading slot file buffer site))
    (λ bytes. buffered_bytes slot n bytes file (record buffer { reading = None }) site)
    (λ o. no_done o _ r) (no_done outcome.End _ r) (λ bytes. no_done _ _ r)

read_asks : (file : FileAt) (len : ℕ) (site : Site) (answers : Answers) (r : Request) → ask_read file len site answers
    ≡ Ask r → IsReadAt (Some r) file.offset
read_asks file len site answers r =
    either (λ (m : Move). m ≡ Ask r → IsReadAt (Some r) file.offset) (not file.readable)
    (refuse_locally kind.NotReadable site) _ (λ n e. absurd (no_done _ site r e))
    (λ n. either (λ (m : Move). m ≡ Ask r → IsReadAt (Some r) file.offset) (overflows file.offset len)
    (refuse_locally kind.OffsetOverflow site) (Ask (request.Read (handle_of (answers file.grant)) file.offset len))
    (λ o e. absurd (no_done _ site r e))
    (λ o e. record {
      handle = handle_of (answers file.grant);
      len = len;
      is =
          ap (λ (x : Request). Some x) (sym (asks_same _ r e));
      below = in_range file.offset len o;
    }))

fill_asks : (slot n : ℕ) (file : FileAt) (buffer : Buffer) (site : Site) (facts : Facts) (reading : Option ℕ)
    (answers : Answers) (r : Request) → fill_next slot n file buffer site facts reading [] answers ≡ Ask r
    → IsReadAt (Some r) file.offset
fill_asks slot n file buffer site facts (Some place) answers r e =
    absurd (answered_in (λ (m : Move). m ≡ Ask r → ⊥) answers place (answers place) (was_filled slot n file buffer site)
    refl (no_wait place r) (λ y is. filled_asks slot n file buffer site y r) e)
fill_asks slot n file buffer site facts None answers r e = read_asks file (min (max n buffer.len) facts.read_len) site
    answers r e

from_asks : (slot n : ℕ) (file : FileAt) (buffer : Buffer) (site : Site) (facts : Facts) (bytes : List ℕ)
    (answers : Answers) (r : Request) → from_buffer slot n file buffer site facts bytes [] answers ≡ Ask r
    → (bytes ≡ []) × IsReadAt (Some r) file.offset
from_asks slot n file buffer site facts [] answers r e = (
  refl,
  fill_asks slot n file buffer site facts buffer.reading answers r e,
)
from_asks slot n file buffer site facts (b ∷ bytes) answers r e = absurd (no_done _ _ r e)

pub buf_read_asks : (slot n : ℕ) (site : Site) (facts : Facts) (file : FileAt) (buffer : Buffer) (answers : Answers)
    (r : Request) → slot_at site slot ≡ Buffered file buffer → buf_read_next slot n site facts [] answers ≡ Ask r
    → (buffer.bytes ≡ []) × IsReadAt (Some r) file.offset
buf_read_asks slot n site facts file buffer answers r at e =
    either (λ (m : Move). m ≡ Ask r → (buffer.bytes ≡ []) × IsReadAt (Some r) file.offset) (not file.readable)
    (refuse_locally kind.NotReadable site) _ (λ x k. absurd (no_done _ site r k))
    (λ x. either (λ (m : Move). m ≡ Ask r → (buffer.bytes ≡ []) × IsReadAt (Some r) file.offset) (n == 0)
    (Done (outcome.Bytes []) site) (from_buffer slot n file buffer site facts buffer.bytes [] answers)
    (λ z k. absurd (no_done (outcome.Bytes []) site r k))
    (λ z. from_asks slot n file buffer site facts buffer.bytes answers r))
    (subst (λ (x : Slot). on_buffered x site (buf_read_file_next slot n site facts [] answers) ≡ Ask r) at e)
