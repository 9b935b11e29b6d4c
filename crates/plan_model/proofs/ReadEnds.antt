-- Each call that ends or is cancelled leaves the READs under way where their files stand.
use Rattle.std.proofs.Common.{◌≡◌, ◌==◌, ℕ, Bool, true, false, List, [], ◌∷◌, Option, Some, None, refl, sym, ◌∙◌, subst, if◌then◌else◌}
use Rattle.std.specs.Prelude.{length, min, max, not, take, drop}
use Rattle.sftp_model.specs.declared.outcome.Outcome.{Outcome}
use Rattle.sftp_model.specs.declared.outcome.Outcome.TheVariants as outcome
use Rattle.sftp_model.specs.declared.error.IoKind.TheVariants as kind
use Rattle.sftp_model.specs.declared.reply.Reply.{Reply}
use Rattle.sftp_model.specs.declared.request.Request.{Request}
use Rattle.sftp_model.specs.declared.slot.Facts.{Facts}
use Rattle.sftp_model.specs.declared.slot.Move.{Move}
use Rattle.sftp_model.specs.declared.slot.Move.TheVariants.{Ask, Done}
use Rattle.sftp_model.specs.declared.slot.FileAt.{FileAt}
use Rattle.sftp_model.specs.declared.slot.Buffer.{Buffer}
use Rattle.sftp_model.specs.declared.slot.Slot.{Slot}
use Rattle.sftp_model.specs.declared.slot.Slot.TheVariants.{Empty, File, Buffered}
use Rattle.sftp_model.specs.declared.slot.Site.{Site}
use Rattle.sftp_model.specs.Slots.{slot_at, with_slot}
use Rattle.plan_model.specs.Moves.{Answers, Own, ask_read, refuse_locally, on_buffered, further}
use Rattle.plan_model.specs.BufferPlans.{
  sought_slot,
  sought_buffer,
  without_reading,
  was_filled,
  fill_next,
  from_buffer,
  buf_read_file_next,
  buf_read_next,
  with_deferred,
  taken_out,
  is_full,
  with_capacity,
  deferrable_len,
  ask_deferred,
  after_write,
  written_slot,
  send_next,
  buffered_rest,
  carried_length,
  with_oldest_settled,
  after_writes,
  flush_next,
  unflushed_writes,
}
use Rattle.plan_model.specs.declared.call.Call.TheVariants as call
use Rattle.plan_model.specs.declared.call.Call.{Call}
use Rattle.plan_model.specs.CallPlans.{site_after_cancel, next}
use Rattle.plan_model.specs.Ends.{EndsLeaving}
use Rattle.plan_model.specs.OwnRequests.{oldest_first, AreAsked}
use Rattle.plan_model.specs.ReadsUnderWay.{Requests, AreAt, IsReadAt, ReadsStand}
use Rattle.plan_model.proofs.MoveLaws.{either, by_status, by_content, at_buffered}
use Rattle.plan_model.proofs.CountLaws.{answered_in}
use Rattle.plan_model.proofs.LeftSites.{AwaitsNothing, IsKept, once_leaves, read_leaves, write_leaves, seek_leaves, on_buffer_left}
use Rattle.plan_model.proofs.LeftCalls.{ChangesBuffer, call_leaves, cancelled_leaves}
use Rattle.plan_model.proofs.LimitLaws.{set_cases}
use Rattle.plan_model.proofs.ReadAsks.{first_asked, buf_read_asks}

-- ---- slots that are set

-- the READ under way for what a slot holds
abbrev SlotStands : Requests → Slot → Type 0
SlotStands requests (Buffered file buffer) = (p : ℕ) → buffer.reading ≡ Some p → (buffer.bytes ≡ [])
    × IsReadAt (requests p) file.offset
SlotStands requests other = Unit {0}

to_slot : (requests : Requests) (site : Site) (k : ℕ) → ReadsStand requests site → SlotStands requests (slot_at site k)
to_slot requests site k b = by_slot (slot_at site k) refl
  where
    by_slot : (x : Slot) → slot_at site k ≡ x → SlotStands requests x
    by_slot Empty is = tt
    by_slot (File file) is = tt
    by_slot (Buffered file buffer) is = λ p reading. b.each k p file buffer is reading

slot_set : (requests : Requests) (site : Site) (slot : ℕ) (x : Slot) → SlotStands requests x → ReadsStand requests site
    → ReadsStand requests (with_slot site slot x)
slot_set requests site slot x new b =
    record {
      each = λ k p file buffer is. subst (SlotStands requests) is
          (set_cases (SlotStands requests) site.slots slot k x (to_slot requests site k b) new) p;
    }

-- no READ is under way
none_reading : (requests : Requests) (file : FileAt) (buffer : Buffer) → buffer.reading ≡ None
    → SlotStands requests (Buffered file buffer)
none_reading requests file buffer none p reading = absurd cc

idle_stands : (requests : Requests) (x : Slot) → AwaitsNothing x → SlotStands requests x
idle_stands requests Empty idle = tt
idle_stands requests (File file) idle = tt
idle_stands requests (Buffered file buffer) idle = none_reading requests file buffer idle.1

stand_kept : (requests : Requests) → IsKept (ReadsStand requests)
stand_kept requests = record {
  set = λ site slot x idle b. slot_set requests site slot x (idle_stands requests x idle)
      b;
  moved = λ site path b. record { each = b.each };
}

-- what a plan leaves where a slot holds a buffered file
on_buffer_leaves : (requests : Requests) (site : Site) (slot : ℕ) (go : FileAt → Buffer → Move)
    → ReadsStand requests site
    → ((file : FileAt) (buffer : Buffer) → SlotStands requests (Buffered file buffer)
    → EndsLeaving (ReadsStand requests) (go file buffer)) → EndsLeaving (ReadsStand requests)
    (on_buffered (slot_at site slot) site go)
on_buffer_leaves requests site slot go b goes = at_buffered (EndsLeaving (ReadsStand requests)) (slot_at site slot) site
    go
    (λ o. b) (λ file buffer at. goes file buffer (λ p. b.each slot p file buffer at))

-- ---- buf_seek, buf_read

sought_stands : (requests : Requests) (file : FileAt) (to : ℕ) (buffer : Buffer)
    → SlotStands requests (Buffered file buffer) → SlotStands requests (sought_slot file to buffer)
sought_stands requests file to buffer w = by_same (to == file.offset)
  where
    by_same : (t : Bool) → SlotStands requests (if t then Buffered file buffer else
        Buffered (record file { offset = to }) (sought_buffer file.offset to buffer))
    by_same true = w
    by_same false = none_reading requests (record file { offset = to }) (sought_buffer file.offset to buffer) refl

filled_stands : (requests : Requests) (slot n : ℕ) (file : FileAt) (buffer : Buffer) (site : Site) (r : Reply)
    → ReadsStand requests site → EndsLeaving (ReadsStand requests) (was_filled slot n file buffer site r)
filled_stands requests slot n file buffer site r b =
    let left : ReadsStand requests (without_reading slot file buffer site) =
    slot_set requests site slot (Buffered file (record buffer { reading = None }))
    (none_reading requests file (record buffer { reading = None }) refl) b in
    by_content (EndsLeaving (ReadsStand requests)) r (without_reading slot file buffer site)
    (Done outcome.End (without_reading slot file buffer site)) _ (λ o. left) left
    (λ bytes. slot_set requests site slot (Buffered (further file (length (take n bytes)))
    (record buffer { bytes = drop n bytes; reading = None }))
    (none_reading requests (further file (length (take n bytes)))
    (record buffer { bytes = drop n bytes; reading = None }) refl) b)

fill_stands : (requests : Requests) (slot n : ℕ) (file : FileAt) (buffer : Buffer) (site : Site) (facts : Facts)
    (reading : Option ℕ) (own : Own) (answers : Answers) → ReadsStand requests site
    → EndsLeaving (ReadsStand requests) (fill_next slot n file buffer site facts reading own answers)
fill_stands requests slot n file buffer site facts (Some place) own answers b =
    answered_in (EndsLeaving (ReadsStand requests)) answers place (answers place) _ refl tt
    (λ r is. filled_stands requests slot n file buffer site r b)
fill_stands requests slot n file buffer site facts None own answers b =
    once_leaves (ReadsStand requests) (ask_read file (min (max n buffer.len) facts.read_len) site answers)
    (was_filled slot n file buffer site) own answers
    (read_leaves (ReadsStand requests) file (min (max n buffer.len) facts.read_len) site answers b)
    (λ r. filled_stands requests slot n file buffer site r b)

-- bytes that are given from the buffer: no READ is under way for it
from_stands : (requests : Requests) (slot n : ℕ) (file : FileAt) (buffer : Buffer) (site : Site) (facts : Facts)
    (bytes : List ℕ) (own : Own) (answers : Answers) → buffer.bytes ≡ bytes → SlotStands requests (Buffered file buffer)
    → ReadsStand requests site
    → EndsLeaving (ReadsStand requests) (from_buffer slot n file buffer site facts bytes own answers)
from_stands requests slot n file buffer site facts [] own answers is w b =
    fill_stands requests slot n file buffer site facts buffer.reading own answers b
from_stands requests slot n file buffer site facts (c ∷ bytes) own answers is w b =
    slot_set requests site slot (Buffered (further file (length (take n (c ∷ bytes))))
    (record buffer { bytes = drop n (c ∷ bytes) })) (λ p reading. absurd
    (let none : c ∷ bytes ≡ [] = sym is ∙ (w p reading).0 in cc)) b

read_stands : (requests : Requests) (slot n : ℕ) (file : FileAt) (buffer : Buffer) (site : Site) (facts : Facts)
    (own : Own) (answers : Answers) → SlotStands requests (Buffered file buffer) → ReadsStand requests site
    → EndsLeaving (ReadsStand requests) (buf_read_file_next slot n site facts own answers file buffer)
read_stands requests slot n file buffer site facts own answers w b =
    either (EndsLeaving (ReadsStand requests)) (not file.readable) (refuse_locally kind.NotReadable site) _ (λ e. b)
    (λ e. either (EndsLeaving (ReadsStand requests)) (n == 0) (Done (outcome.Bytes []) site)
    (from_buffer slot n file buffer site facts buffer.bytes own answers) (λ z. b)
    (λ z. from_stands requests slot n file buffer site facts buffer.bytes own answers refl w b))

-- ---- writes and flushes

left_deferred : (requests : Requests) (slot : ℕ) (file : FileAt) (buffer : Buffer) (site : Site) (writes : List (ℕ × ℕ))
    → SlotStands requests (Buffered file buffer) → ReadsStand requests site
    → ReadsStand requests (with_deferred slot file buffer site writes)
left_deferred requests slot file buffer site writes w b = slot_set requests site slot
    (Buffered file (record buffer { deferred = writes })) w b

taken_stands : (requests : Requests) (slot : ℕ) (file : FileAt) (buffer : Buffer) (site : Site) (answers : Answers)
    (writes : List (ℕ × ℕ)) (go : Buffer → Site → Move) → SlotStands requests (Buffered file buffer)
    → ReadsStand requests site
    → ((freed : Buffer) (left : Site) → ReadsStand requests left → EndsLeaving (ReadsStand requests) (go freed left))
    → EndsLeaving (ReadsStand requests) (taken_out slot file buffer site answers writes go)
taken_stands requests slot file buffer site answers [] go w b goes = goes buffer site b
taken_stands requests slot file buffer site answers (write ∷ writes) go w b goes =
    let left : ReadsStand requests (with_deferred slot file buffer site writes) =
    left_deferred requests slot file buffer site writes w b in
    answered_in (EndsLeaving (ReadsStand requests)) answers write.0 (answers write.0) _ refl tt (λ r is.
    by_status (EndsLeaving (ReadsStand requests)) r (with_deferred slot file buffer site writes) _ (λ o. left)
    (goes (record buffer { deferred = writes }) (with_deferred slot file buffer site writes) left))

capacity_stands : (requests : Requests) (slot : ℕ) (file : FileAt) (buffer : Buffer) (site : Site) (facts : Facts)
    (answers : Answers) (go : Buffer → Site → Move) → SlotStands requests (Buffered file buffer)
    → ReadsStand requests site
    → ((freed : Buffer) (left : Site) → ReadsStand requests left → EndsLeaving (ReadsStand requests) (go freed left))
    → EndsLeaving (ReadsStand requests) (with_capacity slot file buffer site facts answers go)
capacity_stands requests slot file buffer site facts answers go w b goes =
    either (EndsLeaving (ReadsStand requests)) (is_full facts buffer)
    (taken_out slot file buffer site answers buffer.deferred go) (go buffer site)
    (λ e. taken_stands requests slot file buffer site answers buffer.deferred go w b goes) (λ e. goes buffer site b)

written_stands : (requests : Requests) (slot : ℕ) (file : FileAt) (buffer : Buffer) (place n : ℕ) (site : Site)
    → ReadsStand requests site → ReadsStand requests (with_slot site slot (written_slot file buffer place n))
written_stands requests slot file buffer place n site b = slot_set requests site slot (written_slot file buffer place n)
    (none_reading requests (further file n) (after_write buffer place n) refl) b

send_stands : (requests : Requests) (slot : ℕ) (file : FileAt) (bytes : List ℕ) (facts : Facts) (own : Own)
    (answers : Answers) (buffer : Buffer) (site : Site) → ReadsStand requests site
    → EndsLeaving (ReadsStand requests) (send_next slot file bytes facts own answers buffer site)
send_stands requests slot file bytes facts [] answers buffer site b =
    write_leaves (ReadsStand requests) file (take (deferrable_len facts bytes buffer) bytes) site answers b
send_stands requests slot file bytes facts (asked ∷ later) answers buffer site b =
    written_stands requests slot file buffer asked.0 (deferrable_len facts bytes buffer) site b

rest_stands : (requests : Requests) (slot : ℕ) (bytes : List ℕ) (file : FileAt) (buffer : Buffer) (site : Site)
    (facts : Facts) (own : Own) (answers : Answers) → SlotStands requests (Buffered file buffer)
    → ReadsStand requests site
    → EndsLeaving (ReadsStand requests) (buffered_rest slot bytes file buffer site facts own answers)
rest_stands requests slot bytes file buffer site facts [] answers w b =
    either (EndsLeaving (ReadsStand requests)) (length bytes == 0) (Done outcome.Done site) _ (λ z. b)
    (λ z. either (EndsLeaving (ReadsStand requests)) (not file.writable) (refuse_locally kind.NotWritable site) _
    (λ n. b)
    (λ n. capacity_stands requests slot file buffer site facts answers (ask_deferred file bytes facts answers) w b
    (λ freed left h. write_leaves (ReadsStand requests) file (take (deferrable_len facts bytes freed) bytes) left
    answers h)))
rest_stands requests slot bytes file buffer site facts (asked ∷ later) answers w b =
    capacity_stands requests slot file buffer site facts answers _ w b (λ freed left h.
    rest_stands requests slot (drop (deferrable_len facts bytes freed) bytes)
    (further file (deferrable_len facts bytes freed)) (after_write freed asked.0 (deferrable_len facts bytes freed))
    (with_slot left slot (written_slot file freed asked.0 (deferrable_len facts bytes freed))) facts later answers
    (none_reading requests (further file (deferrable_len facts bytes freed))
    (after_write freed asked.0 (deferrable_len facts bytes freed)) refl)
    (written_stands requests slot file freed asked.0 (deferrable_len facts bytes freed) left h))

flush_stands : (requests : Requests) (slot : ℕ) (file : FileAt) (buffer : Buffer) (site : Site) (answers : Answers)
    (writes : List (ℕ × ℕ)) → SlotStands requests (Buffered file buffer) → ReadsStand requests site
    → EndsLeaving (ReadsStand requests) (flush_next slot file buffer site answers writes)
flush_stands requests slot file buffer site answers [] w b = b
flush_stands requests slot file buffer site answers (write ∷ writes) w b =
    let left : ReadsStand requests (with_deferred slot file buffer site writes) =
    left_deferred requests slot file buffer site writes w b in
    answered_in (EndsLeaving (ReadsStand requests)) answers write.0 (answers write.0) _ refl tt
    (λ r is. by_status (EndsLeaving (ReadsStand requests)) r (with_deferred slot file buffer site writes) _ (λ o. left)
    (flush_stands requests slot file buffer (with_deferred slot file buffer site writes) answers writes w left))

-- ---- the law

pub ended_stand : (requests : Requests) (c : Call) (site : Site) (facts : Facts) (own : Own) (answers : Answers)
    → ReadsStand requests site → EndsLeaving (ReadsStand requests) (next c site facts own answers)
ended_stand requests c site facts own answers b = call_leaves (ReadsStand requests) (stand_kept requests) c site facts
    own answers b (of_buffer c)
  where
    of_buffer : (d : Call) → ChangesBuffer d → EndsLeaving (ReadsStand requests) (next d site facts own answers)
    of_buffer (call.BufRead slot n) h = on_buffer_leaves requests site slot _ b
        (λ file buffer w. read_stands requests slot n file buffer site facts own answers w b)
    of_buffer (call.BufWrite slot bytes) h = on_buffer_leaves requests site slot _ b (λ file buffer w.
        either (EndsLeaving (ReadsStand requests)) (not file.writable) (refuse_locally kind.NotWritable site) _ (λ e. b)
        (λ e. either (EndsLeaving (ReadsStand requests)) (length bytes == 0) (Done (outcome.Count 0) site) _ (λ z. b)
        (λ z. capacity_stands requests slot file buffer site facts answers _ w b
        (send_stands requests slot file bytes facts own answers))))
    of_buffer (call.BufWriteAll slot bytes) h = on_buffer_leaves requests site slot _ b
        (λ file buffer w. rest_stands requests slot bytes file buffer site facts own answers w b)
    of_buffer (call.BufFlush slot) h = on_buffer_leaves requests site slot _ b (λ file buffer w.
        either (EndsLeaving (ReadsStand requests)) (not file.writable) (refuse_locally kind.NotWritable site) _ (λ e. b)
        (λ e. flush_stands requests slot file buffer site answers buffer.deferred w b))
    of_buffer (call.BufSeek slot position) h = on_buffer_leaves requests site slot _ b (λ file buffer w.
        seek_leaves (ReadsStand requests) position file.offset site _ b
        (λ to. slot_set requests site slot (sought_slot file to buffer) (sought_stands requests file to buffer w)
        b))
    of_buffer other h = absurd h

pub done_stand : (requests : Requests) (c : Call) (site : Site) (facts : Facts) (own : Own) (answers : Answers)
    (o : Outcome) (after : Site) → ReadsStand requests site → next c site facts own answers ≡ Done o after
    → ReadsStand requests after
done_stand requests c site facts own answers o after b is = subst (EndsLeaving (ReadsStand requests)) is
    (ended_stand requests c site facts own answers b)

-- ---- cancelled

writes_stand : (requests : Requests) (facts : Facts) (file : FileAt) (buffer : Buffer) (own : Own)
    → SlotStands requests (Buffered file buffer) → SlotStands requests (after_writes facts file buffer own)
writes_stand requests facts file buffer [] w = w
writes_stand requests facts file buffer (asked ∷ later) w =
    writes_stand requests facts (further file (carried_length asked.1))
    (after_write (with_oldest_settled facts buffer) asked.0 (carried_length asked.1)) later
    (none_reading requests (further file (carried_length asked.1))
    (after_write (with_oldest_settled facts buffer) asked.0 (carried_length asked.1)) refl)

-- the READ that a cancelled read leaves under way is its own first request
reading_stands : (requests : Requests) (slot n : ℕ) (site : Site) (facts : Facts) (past : Own) (answers : Answers)
    (own : Own) → oldest_first past ≡ own → AreAsked (buf_read_next slot n site facts) past answers → AreAt requests own
    → ReadsStand requests site → ReadsStand requests (site_after_cancel (call.BufRead slot n) site facts own answers)
reading_stands requests slot n site facts past answers [] are asked stood b = b
reading_stands requests slot n site facts past answers (a ∷ later) are asked stood b =
    on_buffer_left (ReadsStand requests) site (slot_at site slot) _ b (λ file buffer at.
    let first : (before : Answers) × (buf_read_next slot n site facts [] before ≡ Ask a.1) =
    first_asked (buf_read_next slot n site facts) past answers a later asked are in
    let reads : (buffer.bytes ≡ []) × IsReadAt (Some a.1) file.offset =
    buf_read_asks slot n site facts file buffer first.0 a.1 at first.1 in
    slot_set requests site slot (Buffered file (record buffer { reading = Some a.0 }))
    (λ p reading. (
      reads.0,
      (let same : a.0 ≡ p = cc in subst (λ (k : ℕ). IsReadAt (requests k) file.offset) same
          (subst (λ (x : Option Request). IsReadAt x file.offset) (sym stood.0) reads.1)),
    )) b)

pub cancelled_stand : (requests : Requests) (c : Call) (site : Site) (facts : Facts) (past : Own) (answers : Answers)
    → AreAsked (next c site facts) past answers → AreAt requests (oldest_first past) → ReadsStand requests site
    → ReadsStand requests (site_after_cancel c site facts (oldest_first past) answers)
cancelled_stand requests c site facts past answers asked stood b =
    cancelled_leaves (ReadsStand requests) (stand_kept requests) c site facts (oldest_first past) answers b
    (of_buffer c asked)
  where
    written : (slot : ℕ) → ReadsStand requests (site_after_cancel (call.BufWrite slot []) site facts (oldest_first past)
        answers)
    written slot = on_buffer_left (ReadsStand requests) site (slot_at site slot) _ b (λ file buffer at.
        slot_set requests site slot (after_writes facts file buffer (oldest_first past))
        (writes_stand requests facts file buffer (oldest_first past)
        (λ p reading. b.each slot p file buffer at reading)) b)

    of_buffer : (d : Call) → AreAsked (next d site facts) past answers → ChangesBuffer d
        → ReadsStand requests (site_after_cancel d site facts (oldest_first past) answers)
    of_buffer (call.BufRead slot n) asked h = reading_stands requests slot n site facts past answers (oldest_first past)
        refl asked stood b
    of_buffer (call.BufWrite slot bytes) asked h = written slot
    of_buffer (call.BufWriteAll slot bytes) asked h = written slot
    of_buffer (call.BufFlush slot) asked h = on_buffer_left (ReadsStand requests) site (slot_at site slot) _ b
        (λ file buffer at.
        left_deferred requests slot file buffer site (unflushed_writes answers buffer.deferred)
        (λ p reading. b.each slot p file buffer at reading) b)
    of_buffer (call.BufSeek slot position) asked h = b
    of_buffer other asked h = absurd h
