-- The law of moves for the calls on buffered files.
use Rattle.std.proofs.Common.{◌≡◌, ◌==◌, ℕ, Bool, true, false, List, [], ◌∷◌, Option, Some, None, refl, ap, arith, if◌then◌else◌}
use Rattle.std.specs.Prelude.{length, min, max, not, take, drop}
use Rattle.std.specs.declared.io.traits.SeekFrom.{SeekFrom}
use Rattle.sftp_model.specs.declared.outcome.Outcome.TheVariants as outcome
use Rattle.sftp_model.specs.declared.error.IoKind.TheVariants as kind
use Rattle.sftp_model.specs.declared.reply.Reply.{Reply}
use Rattle.sftp_model.specs.declared.slot.Move.{Move}
use Rattle.sftp_model.specs.declared.slot.Move.TheVariants.{Done}
use Rattle.sftp_model.specs.declared.slot.FileAt.{FileAt}
use Rattle.sftp_model.specs.declared.slot.Buffer.{Buffer}
use Rattle.sftp_model.specs.declared.slot.Site.{Site}
use Rattle.sftp_model.specs.declared.slot.Slot.TheVariants.{File, Buffered}
use Rattle.sftp_model.specs.Slots.{slot_at, with_slot, grant_of}
use Rattle.plan_model.specs.Moves.{Own, ask_read, refuse_locally, on_buffered, further}
use Rattle.plan_model.specs.BufferPlans.{
  unbuffer_next,
  sought_slot,
  sought_buffer,
  buf_seek_next,
  buffered_bytes,
  without_reading,
  was_filled,
  fill_next,
  from_buffer,
  buf_read_next,
  with_deferred,
  taken_out,
  is_full,
  with_capacity,
  deferrable_len,
  ask_deferred,
  after_write,
  written_slot,
  send_next,
  buf_write_next,
  buffered_rest,
  buf_write_all_next,
  flush_next,
  buf_flush_next,
}
use Rattle.plan_model.specs.GoodMoves.{Situation, HoldsWithin, IsGood}
use Rattle.plan_model.proofs.MoveLaws.{either, answered, replied, by_status, by_content, at_buffered, as_begun}
use Rattle.plan_model.proofs.FileLaws.{Stands, stands_set, first_stands, stands_held, ends_in, ask_read_good, ask_write_good, taken_within}
use Rattle.plan_model.proofs.OpenLaws.{by_seek}

on_buffered_good : (s : Situation) (slot : ℕ) (go : FileAt → Buffer → Move)
    → ((file : FileAt) (buffer : Buffer) → Stands s slot s.site file.grant → IsGood s (go file buffer))
    → IsGood s (on_buffered (slot_at s.site slot) s.site go)
on_buffered_good s slot go goes = at_buffered (IsGood s) (slot_at s.site slot) s.site go (as_begun s)
    (λ file buffer at. goes file buffer (first_stands s slot file.grant (ap grant_of at)))

-- the buffered file changed
changed : (s : Situation) (slot : ℕ) (site : Site) (file to : FileAt) (buffer : Buffer) → to.grant ≡ file.grant
    → Stands s slot site file.grant → Stands s slot (with_slot site slot (Buffered to buffer)) file.grant
changed s slot site file to buffer same st = stands_set s slot site file.grant (Buffered to buffer)
    (ap (λ (n : ℕ). Some n) same) st

pub unbuffer_good : (s : Situation) (slot : ℕ) → IsGood s (unbuffer_next slot s.site s.facts s.own s.answers)
unbuffer_good s slot = on_buffered_good s slot _ (λ file buffer st. Stands.within
    (stands_set s slot s.site file.grant (File file) refl st))

sought_within : (s : Situation) (slot : ℕ) (file : FileAt) (buffer : Buffer) (to : ℕ) → Stands s slot s.site file.grant
    → HoldsWithin s (with_slot s.site slot (sought_slot file to buffer))
sought_within s slot file buffer to st = by_same (to == file.offset)
  where
    by_same : (b : Bool) → HoldsWithin s (with_slot s.site slot
        (if b then Buffered file buffer else Buffered (record file { offset = to })
        (sought_buffer file.offset to buffer)))
    by_same true = Stands.within (changed s slot s.site file file buffer refl st)
    by_same false = Stands.within (changed s slot s.site file (record file { offset = to })
        (sought_buffer file.offset to buffer) refl st)

pub buf_seek_good : (s : Situation) (slot : ℕ) (position : SeekFrom)
    → IsGood s (buf_seek_next slot position s.site s.facts s.own s.answers)
buf_seek_good s slot position = on_buffered_good s slot _ (λ file buffer st. by_seek s position file.offset _
    (λ to. sought_within s slot file buffer to st))

-- ---- buf_read

given_good : (s : Situation) (slot n : ℕ) (bytes : List ℕ) (file : FileAt) (buffer : Buffer)
    → Stands s slot s.site file.grant → IsGood s (buffered_bytes slot n bytes file buffer s.site)
given_good s slot n bytes file buffer st = Stands.within (changed s slot s.site file
    (further file (length (take n bytes))) (record buffer { bytes = drop n bytes }) refl st)

filled_good : (s : Situation) (slot n : ℕ) (file : FileAt) (buffer : Buffer) (r : Reply)
    → Stands s slot s.site file.grant → IsGood s (was_filled slot n file buffer s.site r)
filled_good s slot n file buffer r st =
    let left : HoldsWithin s (without_reading slot file buffer s.site) =
    Stands.within (changed s slot s.site file file (record buffer { reading = None }) refl st) in
    by_content (IsGood s) r (without_reading slot file buffer s.site)
    (Done outcome.End (without_reading slot file buffer s.site)) _
    (ends_in s (without_reading slot file buffer s.site) left) left
    (λ bytes. given_good s slot n bytes file (record buffer { reading = None }) st)

fill_good : (s : Situation) (slot n : ℕ) (file : FileAt) (buffer : Buffer) (reading : Option ℕ)
    → Stands s slot s.site file.grant → IsGood s (fill_next slot n file buffer s.site s.facts reading s.own s.answers)
fill_good s slot n file buffer (Some place) st = answered s place (s.answers place) _ refl
    (λ r is. filled_good s slot n file buffer r st)
fill_good s slot n file buffer None st =
    replied s s.own (ask_read file (min (max n buffer.len) s.facts.read_len) s.site s.answers)
    (was_filled slot n file buffer s.site)
    (λ e. ask_read_good s s.site file (min (max n buffer.len) s.facts.read_len) st.within
    (stands_held s slot s.site file.grant st) (omega arith))
    (λ r. filled_good s slot n file buffer r st)

from_good : (s : Situation) (slot n : ℕ) (file : FileAt) (buffer : Buffer) (bytes : List ℕ)
    → Stands s slot s.site file.grant → IsGood s (from_buffer slot n file buffer s.site s.facts bytes s.own s.answers)
from_good s slot n file buffer [] st = fill_good s slot n file buffer buffer.reading st
from_good s slot n file buffer (b ∷ bytes) st = given_good s slot n (b ∷ bytes) file buffer st

pub buf_read_good : (s : Situation) (slot n : ℕ) → IsGood s (buf_read_next slot n s.site s.facts s.own s.answers)
buf_read_good s slot n = on_buffered_good s slot _ (λ file buffer st.
    either (IsGood s) (not file.readable) (refuse_locally kind.NotReadable s.site) _ (λ e. as_begun s outcome.NoFile)
    (λ e. either (IsGood s) (n == 0) (Done (outcome.Bytes []) s.site)
    (from_buffer slot n file buffer s.site s.facts buffer.bytes s.own s.answers) (λ z. as_begun s outcome.NoFile)
    (λ z. from_good s slot n file buffer buffer.bytes st)))

-- ---- buf_write

taken_good : (s : Situation) (slot : ℕ) (file : FileAt) (buffer : Buffer) (site : Site) (writes : List (ℕ × ℕ))
    (go : Buffer → Site → Move) → Stands s slot site file.grant
    → ((b : Buffer) (x : Site) → Stands s slot x file.grant → IsGood s (go b x))
    → IsGood s (taken_out slot file buffer site s.answers writes go)
taken_good s slot file buffer site [] go st goes = goes buffer site st
taken_good s slot file buffer site (write ∷ writes) go st goes =
    let left : Stands s slot (with_deferred slot file buffer site writes) file.grant =
    changed s slot site file file (record buffer { deferred = writes }) refl st in
    answered s write.0 (s.answers write.0) _ refl (λ r is. by_status (IsGood s) r
    (with_deferred slot file buffer site writes) _ (ends_in s (with_deferred slot file buffer site writes)
    left.within)
    (goes (record buffer { deferred = writes }) (with_deferred slot file buffer site writes) left))

capacity_good : (s : Situation) (slot : ℕ) (file : FileAt) (buffer : Buffer) (site : Site) (go : Buffer → Site → Move)
    → Stands s slot site file.grant
    → ((b : Buffer) (x : Site) → Stands s slot x file.grant → IsGood s (go b x))
    → IsGood s (with_capacity slot file buffer site s.facts s.answers go)
capacity_good s slot file buffer site go st goes =
    either (IsGood s) (is_full s.facts buffer) (taken_out slot file buffer site s.answers buffer.deferred go)
    (go buffer site) (λ e. taken_good s slot file buffer site buffer.deferred go st goes) (λ e. goes buffer site st)

deferred_good : (s : Situation) (slot : ℕ) (file : FileAt) (bytes : List ℕ) (b : Buffer) (x : Site)
    → Stands s slot x file.grant → IsGood s (ask_deferred file bytes s.facts s.answers b x)
deferred_good s slot file bytes b x st = ask_write_good s x file (take (deferrable_len s.facts bytes b) bytes) st.within
    (stands_held s slot x file.grant st) (taken_within (deferrable_len s.facts bytes b) s.facts.write_len bytes
    (omega arith))

send_good : (s : Situation) (slot : ℕ) (file : FileAt) (bytes : List ℕ) (own : Own) (b : Buffer) (x : Site)
    → Stands s slot x file.grant → IsGood s (send_next slot file bytes s.facts own s.answers b x)
send_good s slot file bytes [] b x st = deferred_good s slot file bytes b x st
send_good s slot file bytes (asked ∷ later) b x st =
    Stands.within (changed s slot x file (further file (deferrable_len s.facts bytes b))
    (after_write b asked.0 (deferrable_len s.facts bytes b)) refl st)

pub buf_write_good : (s : Situation) (slot : ℕ) (bytes : List ℕ)
    → IsGood s (buf_write_next slot bytes s.site s.facts s.own s.answers)
buf_write_good s slot bytes = on_buffered_good s slot _ (λ file buffer st.
    either (IsGood s) (not file.writable) (refuse_locally kind.NotWritable s.site) _ (λ e. as_begun s outcome.NoFile)
    (λ e. either (IsGood s) (length bytes == 0) (Done (outcome.Count 0) s.site) _ (λ z. as_begun s outcome.NoFile)
    (λ z. capacity_good s slot file buffer s.site _ st (send_good s slot file bytes s.own))))

rest_good : (s : Situation) (slot : ℕ) (bytes : List ℕ) (file : FileAt) (buffer : Buffer) (site : Site) (own : Own)
    → Stands s slot site file.grant → IsGood s (buffered_rest slot bytes file buffer site s.facts own s.answers)
rest_good s slot bytes file buffer site [] st =
    either (IsGood s) (length bytes == 0) (Done outcome.Done site) _ (λ z. st.within)
    (λ z. either (IsGood s) (not file.writable) (refuse_locally kind.NotWritable site) _ (λ e. st.within)
    (λ e. capacity_good s slot file buffer site _ st (deferred_good s slot file bytes)))
rest_good s slot bytes file buffer site (asked ∷ later) st =
    capacity_good s slot file buffer site _ st (λ b x k.
    rest_good s slot (drop (deferrable_len s.facts bytes b) bytes) (further file (deferrable_len s.facts bytes b))
    (after_write b asked.0 (deferrable_len s.facts bytes b))
    (with_slot x slot (written_slot file b asked.0 (deferrable_len s.facts bytes b))) later
    (changed s slot x file (further file (deferrable_len s.facts bytes b))
    (after_write b asked.0 (deferrable_len s.facts bytes b)) refl k))

pub buf_write_all_good : (s : Situation) (slot : ℕ) (bytes : List ℕ)
    → IsGood s (buf_write_all_next slot bytes s.site s.facts s.own s.answers)
buf_write_all_good s slot bytes = on_buffered_good s slot _ (λ file buffer st. rest_good s slot bytes file buffer s.site
    s.own st)

-- ---- buf_flush

flush_good : (s : Situation) (slot : ℕ) (file : FileAt) (buffer : Buffer) (site : Site) (writes : List (ℕ × ℕ))
    → Stands s slot site file.grant → IsGood s (flush_next slot file buffer site s.answers writes)
flush_good s slot file buffer site [] st = st.within
flush_good s slot file buffer site (write ∷ writes) st =
    let left : Stands s slot (with_deferred slot file buffer site writes) file.grant =
    changed s slot site file file (record buffer { deferred = writes }) refl st in
    answered s write.0 (s.answers write.0) _ refl (λ r is. by_status (IsGood s) r
    (with_deferred slot file buffer site writes) _ (ends_in s (with_deferred slot file buffer site writes)
    left.within)
    (flush_good s slot file buffer (with_deferred slot file buffer site writes) writes left))

pub buf_flush_good : (s : Situation) (slot : ℕ) → IsGood s (buf_flush_next slot s.site s.facts s.own s.answers)
buf_flush_good s slot = on_buffered_good s slot _ (λ file buffer st.
    either (IsGood s) (not file.writable) (refuse_locally kind.NotWritable s.site) _ (λ e. as_begun s outcome.NoFile)
    (λ e. flush_good s slot file buffer s.site buffer.deferred st))
