-- The calls that open a file, buffer it and write to the buffer: what they ask, and what they leave of their slot.
use Rattle.std.proofs.Common.{
  ◌≡◌,
  ◌≢◌,
  ◌==◌,
  ℕ,
  zero,
  suc,
  Bool,
  true,
  false,
  List,
  [],
  ◌∷◌,
  ◌++◌,
  length,
  Option,
  Some,
  None,
  if◌then◌else◌,
  refl,
  ap,
  sym,
  ◌∙◌,
  subst,
}
use Rattle.std.specs.Prelude.{not, take, drop, slice_index_or, slice_set}
use Rattle.sftp_model.specs.Slots.{slot_at, with_slot}
use Rattle.sftp_model.specs.declared.error.IoKind.TheVariants as kind
use Rattle.sftp_model.specs.declared.flags.OpenFlags.{OpenFlags}
use Rattle.sftp_model.specs.declared.outcome.Outcome.TheVariants as outcome
use Rattle.sftp_model.specs.declared.reply.Reply.{Reply}
use Rattle.sftp_model.specs.declared.reply.Reply.TheVariants as reply
use Rattle.sftp_model.specs.declared.request.Request.{Request}
use Rattle.sftp_model.specs.declared.request.Request.TheVariants as request
use Rattle.sftp_model.specs.declared.slot.Buffer.{Buffer}
use Rattle.sftp_model.specs.declared.slot.Facts.{Facts}
use Rattle.sftp_model.specs.declared.slot.FileAt.{FileAt}
use Rattle.sftp_model.specs.declared.slot.Move.{Move}
use Rattle.sftp_model.specs.declared.slot.Move.TheVariants.{Ask, Done}
use Rattle.sftp_model.specs.declared.slot.Site.{Site}
use Rattle.sftp_model.specs.declared.slot.Slot.{Slot}
use Rattle.sftp_model.specs.declared.slot.Slot.TheVariants.{Empty, File, Buffered}
use Rattle.plan_model.specs.BufferPlans.{
  after_write,
  ask_deferred,
  buffered_rest,
  deferrable_len,
  flush_next,
  is_full,
  taken_out,
  with_capacity,
  with_deferred,
  written_slot,
}
use Rattle.plan_model.specs.declared.call.Call.TheVariants as call
use Rattle.sftp_model.specs.declared.open_options.OpenOptions.{OpenOptions}
use Rattle.sftp_model.specs.OpenOptions.{flags_of}
use Rattle.plan_model.specs.FilePlans.{open_request, opened_move, opened_file}
use Rattle.sftp_model.specs.Frames.{is_too_long}
use Rattle.plan_model.specs.Moves.{Answers, Own, Plan, ask_write, further, handle_of, on_buffered, on_file, once_answered, overflows, refuse_locally}
use Rattle.plan_model.specs.OwnRequests.{AreAsked, oldest_first}
use Rattle.plan_model.proofs.CountLaws.{answered_in, on_granted}
use Rattle.plan_model.proofs.MoveLaws.{at_buffered, at_file, by_status, either}
use Rattle.run_laws.specs.GrantUses.{WritesBy}
use Rattle.run_laws.proofs.WholeMoves.{AsksSo}
use Rattle.plan_model.specs.CallPlans.{next}

-- ---- slots

-- a slot that isn't empty once it was set holds what it was set to
slot_set : (slots : List Slot) (k : ℕ) (x y : Slot) → slice_index_or (slice_set slots k x) k Empty ≡ y → y ≢ Empty → x
    ≡ y
slot_set [] k x y e some = absurd (some (sym e))
slot_set (z ∷ slots) zero x y e some = e
slot_set (z ∷ slots) (suc k) x y e some = slot_set slots k x y e some

pub set_is : (site : Site) (slot : ℕ) (x y : Slot) → slot_at (with_slot site slot x) slot ≡ y → y ≢ Empty → x ≡ y
set_is site slot x y e some = slot_set site.slots slot x y e some

-- ---- the OPEN

-- what an `open` that ended well brought and left
pub record Opens (slot : ℕ) (flags : OpenFlags) (site : Site) (own : Own) (answers : Answers) (left : Site) : Type 0
  where
    pub first : ℕ × Request
    pub later : Own
    pub asks : own ≡ first ∷ later
    pub handle : List ℕ
    pub came : answers first.0 ≡ Some (reply.Handle handle)
    pub leaves : left ≡ with_slot site slot (File (opened_file flags first.0))

abbrev site_in : Move → Site → Site
site_in (Done o site) other = site
site_in m other = other

pub open_leaves : (slot : ℕ) (options : OpenOptions) (path : List ℕ) (site : Site) (facts : Facts) (own : Own)
    (answers : Answers) (left : Site) → next (call.OpenFile slot options path) site facts own answers
    ≡ Done outcome.Opened left
    → Opens slot (flags_of options) site own answers left
open_leaves slot options path site facts [] answers left e =
    by_test (is_too_long (open_request (flags_of options) path)) e
  where
    by_test : (b : Bool) → (if b then refuse_locally kind.PathTooLong site else
        Ask (open_request (flags_of options) path))
        ≡ Done outcome.Opened left → Opens slot (flags_of options) site [] answers left
    by_test true e = absurd cc
    by_test false e = absurd cc
open_leaves slot options path site facts (first ∷ later) answers left e = by_reply (answers first.0) refl e
  where
    by_reply : (o : Option Reply) → answers first.0 ≡ o → once_answered first.0 o
        (opened_move slot (flags_of options) site first.0)
        ≡ Done outcome.Opened left → Opens slot (flags_of options) site (first ∷ later) answers left
    by_reply None is e = absurd cc
    by_reply (Some (reply.Handle handle)) is e = record {
      first = first;
      later = later;
      asks = refl;
      handle = handle;
      came = is;
      leaves = sym (ap (λ (m : Move). site_in m site) e);
    }
    by_reply (Some (reply.Version version extensions)) is e = absurd cc
    by_reply (Some (reply.Status code message language)) is e = absurd cc
    by_reply (Some (reply.Content content)) is e = absurd cc
    by_reply (Some (reply.Names names)) is e = absurd cc
    by_reply (Some (reply.Attrs attrs)) is e = absurd cc
    by_reply (Some (reply.Extended content)) is e = absurd cc

-- an `open` asks once
asks_none : (m : Move) (r : Request) → AsksSo (λ q. ⊥) m → m ≡ Ask r → ⊥
asks_none m r none e = subst (AsksSo (λ q. ⊥)) e none

pub open_asks_once : (slot : ℕ) (options : OpenOptions) (path : List ℕ) (site : Site) (facts : Facts)
    (first : ℕ × Request)
    (later : Own) (answers : Answers) (r : Request) → next (call.OpenFile slot options path) site facts (first ∷ later)
    answers ≡ Ask r → ⊥
open_asks_once slot options path site facts first later answers r e =
    asks_none _ r (answered_in (AsksSo (λ q. ⊥)) answers first.0 (answers first.0)
    (opened_move slot (flags_of options) site first.0) refl
    tt (λ x is. on_granted (AsksSo (λ q. ⊥)) x site _ (λ o. tt) (λ handle. tt))) e

some_pushed : (xs : Own) (y : ℕ × Request) → (x : ℕ × Request) × (l : Own) × (xs ++ y ∷ [] ≡ x ∷ l)
some_pushed [] y = (y, [], refl)
some_pushed (x ∷ xs) y = (x, xs ++ y ∷ [], refl)

once_asked : (p : Plan) (requests : Own) (answers : Answers) (first : ℕ × Request) (later : Own)
    → ((x : ℕ × Request) (l : Own) (by : Answers) (r : Request) → p (x ∷ l) by ≡ Ask r → ⊥)
    → AreAsked p requests answers → oldest_first requests ≡ first ∷ later → later ≡ []
once_asked p [] answers first later none asks are = absurd cc
once_asked p (a ∷ []) answers first later none asks are = (let same : a ∷ [] ≡ first ∷ later = are in cc)
once_asked p (a ∷ (b ∷ older)) answers first later none (before, earlier, is, new, stays) are =
    let s = some_pushed (oldest_first older) b in absurd (none s.0 s.1 before a.1
    (subst (λ (l : Own). p l before ≡ Ask a.1) s.2 is))

pub open_once : (slot : ℕ) (options : OpenOptions) (path : List ℕ) (site : Site) (facts : Facts) (requests : Own)
    (answers : Answers) (first : ℕ × Request) (later : Own) → AreAsked
    (next (call.OpenFile slot options path) site facts)
    requests answers
    → oldest_first requests ≡ first ∷ later → later ≡ []
open_once slot options path site facts requests answers first later asks are =
    once_asked (next (call.OpenFile slot options path) site facts) requests answers first later
    (λ x l by r e. open_asks_once slot options path site facts x l by r e) asks are

-- ---- the buffer

-- what a `buffer` that ended well left
pub record Buffers (slot : ℕ) (site left : Site) : Type 0 where
  pub file : FileAt
  pub buffer : Buffer
  pub stood : slot_at site slot ≡ File file
  pub leaves : left ≡ with_slot site slot (Buffered file buffer)

pub buffer_leaves : (slot len : ℕ) (site : Site) (facts : Facts) (own : Own) (answers : Answers) (left : Site)
    → next (call.Buffer slot len) site facts own answers ≡ Done outcome.Done left → Buffers slot site left
buffer_leaves slot len site facts own answers left e = by_slot (slot_at site slot) refl e
  where
    fresh : Buffer
    fresh = record { len = len; bytes = []; deferred = []; reading = None }

    by_slot : (x : Slot) → slot_at site slot ≡ x → on_file x site
        (λ file. Done outcome.Done (with_slot site slot (Buffered file fresh))) ≡ Done outcome.Done left
        → Buffers slot site left
    by_slot Empty is e = absurd cc
    by_slot (File file) is e = record {
      file = file;
      buffer = fresh;
      stood = is;
      leaves =
          sym (ap (λ (m : Move). site_in m site) e);
    }
    by_slot (Buffered file buffer) is e = absurd cc

-- ---- the WRITEs

-- a WRITE of a file is one by its handle
write_by : (file : FileAt) (part : List ℕ) (site : Site) (answers : Answers)
    → AsksSo (λ r. WritesBy r (handle_of (answers file.grant))) (ask_write file part site answers)
write_by file part site answers =
    either (AsksSo (λ r. WritesBy r (handle_of (answers file.grant)))) (not file.writable)
    (refuse_locally kind.NotWritable site) _ (λ e. tt)
    (λ e. either (AsksSo (λ r. WritesBy r (handle_of (answers file.grant)))) (overflows file.offset (length part))
    (refuse_locally kind.OffsetOverflow site) (Ask (request.Write (handle_of (answers file.grant)) file.offset part))
    (λ o. tt) (λ o. refl))

taken_asks : (P : Request → Type 0) (slot : ℕ) (file : FileAt) (buffer : Buffer) (site : Site) (answers : Answers)
    (writes : List (ℕ × ℕ)) (go : Buffer → Site → Move) → ((freed : Buffer) (x : Site) → AsksSo P (go freed x))
    → AsksSo P (taken_out slot file buffer site answers writes go)
taken_asks P slot file buffer site answers [] go goes = goes buffer site
taken_asks P slot file buffer site answers (write ∷ writes) go goes =
    answered_in (AsksSo P) answers write.0 (answers write.0) _ refl tt
    (λ r is. by_status (AsksSo P) r (with_deferred slot file buffer site writes) _ (λ o. tt)
    (goes (record buffer { deferred = writes }) (with_deferred slot file buffer site writes)))

capacity_asks : (P : Request → Type 0) (slot : ℕ) (file : FileAt) (buffer : Buffer) (site : Site) (facts : Facts)
    (answers : Answers) (go : Buffer → Site → Move) → ((freed : Buffer) (x : Site) → AsksSo P (go freed x))
    → AsksSo P (with_capacity slot file buffer site facts answers go)
capacity_asks P slot file buffer site facts answers go goes =
    either (AsksSo P) (is_full facts buffer) (taken_out slot file buffer site answers buffer.deferred go)
    (go buffer site) (λ e. taken_asks P slot file buffer site answers buffer.deferred go goes)
    (λ e. goes buffer site)

rest_asks_by : (slot : ℕ) (bytes : List ℕ) (file : FileAt) (buffer : Buffer) (site : Site) (facts : Facts) (own : Own)
    (answers : Answers) → AsksSo (λ r. WritesBy r (handle_of (answers file.grant)))
    (buffered_rest slot bytes file buffer site facts own answers)
rest_asks_by slot bytes file buffer site facts [] answers =
    either (AsksSo (λ r. WritesBy r (handle_of (answers file.grant)))) (length bytes == 0) (Done outcome.Done site) _
    (λ z. tt)
    (λ z. either (AsksSo (λ r. WritesBy r (handle_of (answers file.grant)))) (not file.writable)
    (refuse_locally kind.NotWritable site) _ (λ e. tt)
    (λ e. capacity_asks (λ r. WritesBy r (handle_of (answers file.grant))) slot file buffer site facts answers
    (ask_deferred file bytes facts answers) (λ freed x. write_by file
    (take (deferrable_len facts bytes freed) bytes) x answers)))
rest_asks_by slot bytes file buffer site facts (asked ∷ later) answers =
    capacity_asks (λ r. WritesBy r (handle_of (answers file.grant))) slot file buffer site facts answers _ (λ freed x.
    rest_asks_by slot (drop (deferrable_len facts bytes freed) bytes) (further file (deferrable_len facts bytes freed))
    (after_write freed asked.0 (deferrable_len facts bytes freed))
    (with_slot x slot (written_slot file freed asked.0 (deferrable_len facts bytes freed))) facts later answers)

-- what a `buf_write_all` asks writes by the handle of its file
pub buffered_asks : (slot : ℕ) (bytes : List ℕ) (file : FileAt) (buffer : Buffer) (site : Site) (facts : Facts)
    (own : Own) (answers : Answers) (r : Request) → slot_at site slot ≡ Buffered file buffer
    → next (call.BufWriteAll slot bytes) site facts own answers ≡ Ask r → WritesBy r (handle_of (answers file.grant))
buffered_asks slot bytes file buffer site facts own answers r stands e =
    subst (AsksSo (λ q. WritesBy q (handle_of (answers file.grant))))
    (sym (ap (λ (x : Slot). on_buffered x site (λ f b. buffered_rest slot bytes f b site facts own answers)) stands)
    ∙ e) (rest_asks_by slot bytes file buffer site facts own answers)

-- ---- calls that ask nothing

pub buffer_asks_none : (slot len : ℕ) (site : Site) (facts : Facts) (own : Own) (answers : Answers) (r : Request)
    → next (call.Buffer slot len) site facts own answers ≡ Ask r → ⊥
buffer_asks_none slot len site facts own answers r e = asks_none _ r
    (at_file (AsksSo (λ q. ⊥)) (slot_at site slot) site _ (λ o. tt) (λ file at. tt)) e

flush_none : (slot : ℕ) (file : FileAt) (buffer : Buffer) (site : Site) (answers : Answers) (writes : List (ℕ × ℕ))
    → AsksSo (λ q. ⊥) (flush_next slot file buffer site answers writes)
flush_none slot file buffer site answers [] = tt
flush_none slot file buffer site answers (write ∷ writes) =
    answered_in (AsksSo (λ q. ⊥)) answers write.0 (answers write.0) _ refl tt
    (λ r is. by_status (AsksSo (λ q. ⊥)) r (with_deferred slot file buffer site writes) _ (λ o. tt)
    (flush_none slot file buffer (with_deferred slot file buffer site writes) answers writes))

pub flush_asks_none : (slot : ℕ) (site : Site) (facts : Facts) (own : Own) (answers : Answers) (r : Request)
    → next (call.BufFlush slot) site facts own answers ≡ Ask r → ⊥
flush_asks_none slot site facts own answers r e =
    asks_none _ r
    (at_buffered (AsksSo (λ q. ⊥)) (slot_at site slot) site _ (λ o. tt)
    (λ file buffer at. either (AsksSo (λ q. ⊥)) (not file.writable) (refuse_locally kind.NotWritable site)
    (flush_next slot file buffer site answers buffer.deferred) (λ w. tt)
    (λ w. flush_none slot file buffer site answers buffer.deferred)))
    e
