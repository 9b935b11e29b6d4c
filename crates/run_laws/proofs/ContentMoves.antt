-- The requests of the parts of a plan that read and write files or list directories, for any predicate on requests.
use Rattle.std.proofs.Common.{◌-◌, ◌==◌, ℕ, List, [], ◌∷◌, Option, Some, None, refl}
use Rattle.std.specs.Prelude.{◌++◌, length, min, max, not, take, drop, nat_lt}
use Rattle.sftp_model.specs.Slots.{slot_at, with_slot}
use Rattle.sftp_model.specs.declared.error.IoKind.TheVariants as kind
use Rattle.sftp_model.specs.declared.outcome.Outcome.TheVariants as outcome
use Rattle.sftp_model.specs.declared.reply.NameEntry.{NameEntry}
use Rattle.sftp_model.specs.declared.reply.Reply.{Reply}
use Rattle.sftp_model.specs.declared.request.Request.{Request}
use Rattle.sftp_model.specs.declared.request.Request.TheVariants as request
use Rattle.sftp_model.specs.declared.slot.Buffer.{Buffer}
use Rattle.sftp_model.specs.declared.slot.Facts.{Facts}
use Rattle.sftp_model.specs.declared.slot.FileAt.{FileAt}
use Rattle.sftp_model.specs.declared.slot.Move.{Move}
use Rattle.sftp_model.specs.declared.slot.Move.TheVariants.{Ask, Done}
use Rattle.sftp_model.specs.declared.slot.Site.{Site}
use Rattle.sftp_model.specs.declared.slot.Slot.TheVariants.{File, Buffered}
use Rattle.plan_model.specs.BufferPlans.{
  after_write,
  buf_read_file_next,
  buffered_rest,
  deferrable_len,
  fill_next,
  flush_next,
  from_buffer,
  is_full,
  send_next,
  taken_out,
  was_filled,
  with_capacity,
  with_deferred,
  without_reading,
  written_slot,
}
use Rattle.plan_model.specs.declared.call.Call.TheVariants as call
use Rattle.plan_model.specs.Moves.{
  Answers,
  Own,
  Plan,
  ask_read,
  ask_write,
  by_reply,
  further,
  handle_of,
  on_buffered,
  overflows,
  refuse_locally,
}
use Rattle.plan_model.specs.TransferPlans.{
  FileKeeper,
  missing_next,
  next_part,
  part_len,
  read_first,
  rest_next,
  was_read,
  was_written,
  write_first,
}
use Rattle.plan_model.specs.WholePlans.{entries_next, once_opened}
use Rattle.plan_model.specs.WindowPlans.{
  ask_more,
  await_first,
  contents,
  ends_or,
  first_refusal,
  gaps,
  go_on,
  least,
  least_end,
  reaches,
  unless_refused,
  window_next,
}
use Rattle.plan_model.proofs.CountLaws.{answered_in, on_entries, on_granted}
use Rattle.plan_model.proofs.MoveLaws.{at_buffered, by_content, by_refusal, by_status, either}
use Rattle.plan_model.specs.CallPlans.{next}
use Rattle.run_laws.proofs.PartMoves.{HoldsByHandle, GoesSo, IsKeptAt, once_goes, done_goes}

-- ---- reads and writes

read_goes : (P : Request → Type 0) (E : Site → Type 0) (file : FileAt) (len : ℕ) (site : Site) (answers : Answers)
    → HoldsByHandle P → E site → GoesSo P E (ask_read file len site answers)
read_goes P E file len site answers h b =
    either (GoesSo P E) (not file.readable) (refuse_locally kind.NotReadable site) _ (λ e. b)
    (λ e. either (GoesSo P E) (overflows file.offset len) (refuse_locally kind.OffsetOverflow site)
    (Ask (request.Read (handle_of (answers file.grant)) file.offset len)) (λ o. b)
    (λ o. h (request.Read (handle_of (answers file.grant)) file.offset len) tt))

write_goes : (P : Request → Type 0) (E : Site → Type 0) (file : FileAt) (bytes : List ℕ) (site : Site)
    (answers : Answers)
    → HoldsByHandle P → E site → GoesSo P E (ask_write file bytes site answers)
write_goes P E file bytes site answers h b =
    either (GoesSo P E) (not file.writable) (refuse_locally kind.NotWritable site) _ (λ e. b)
    (λ e. either (GoesSo P E) (overflows file.offset (length bytes)) (refuse_locally kind.OffsetOverflow site)
    (Ask (request.Write (handle_of (answers file.grant)) file.offset bytes)) (λ o. b)
    (λ o. h (request.Write (handle_of (answers file.grant)) file.offset bytes) tt))

pub was_read_goes : (P : Request → Type 0) (E : Site → Type 0) (facts : Facts) (slot n : ℕ) (file : FileAt)
    (site : Site)
    (own : Own) (answers : Answers) → HoldsByHandle P → IsKeptAt E slot → E site
    → GoesSo P E (by_reply (read_first file n site facts answers) (was_read slot file site) own answers)
was_read_goes P E facts slot n file site own answers h k b =
    once_goes P E (read_first file n site facts answers) (was_read slot file site) own answers
    (either (GoesSo P E) (n == 0) (Done outcome.End site) (ask_read file (min n facts.read_len) site answers) (λ z. b)
    (λ z. read_goes P E file (min n facts.read_len) site answers h b))
    (λ r. by_content (GoesSo P E) r site (Done outcome.End site) _ (λ o. b) b
    (λ bytes. k site (File (further file (length bytes))) b))

pub missing_goes : (P : Request → Type 0) (E : Site → Type 0) (facts : Facts) (slot : ℕ) (file : FileAt) (got : List ℕ)
    (n : ℕ)
    (site : Site) (own : Own) (answers : Answers) → HoldsByHandle P → IsKeptAt E slot → E site
    → GoesSo P E (missing_next slot file got n site facts own answers)
missing_goes P E facts slot file got n site [] answers h k b =
    either (GoesSo P E) (n == 0) (Done (outcome.Bytes got) site) (ask_read file (min n facts.read_len) site answers)
    (λ z. b) (λ z. read_goes P E file (min n facts.read_len) site answers h b)
missing_goes P E facts slot file got n site (asked ∷ later) answers h k b =
    answered_in (GoesSo P E) answers asked.0 (answers asked.0) _ refl tt
    (λ r is. by_content (GoesSo P E) r site (refuse_locally kind.UnexpectedEof site) _ (λ o. b) b
    (λ bytes. missing_goes P E facts slot (further file (length bytes)) _ _
    (with_slot site slot (File (further file (length bytes)))) later answers h k
    (k site (File (further file (length bytes))) b)))

pub was_written_goes : (P : Request → Type 0) (E : Site → Type 0) (facts : Facts) (slot : ℕ) (bytes : List ℕ)
    (file : FileAt)
    (site : Site) (own : Own) (answers : Answers) → HoldsByHandle P → IsKeptAt E slot → E site
    → GoesSo P E (by_reply (write_first file bytes site facts answers)
    (was_written slot file (part_len facts bytes) site) own answers)
was_written_goes P E facts slot bytes file site own answers h k b =
    once_goes P E (write_first file bytes site facts answers) (was_written slot file (part_len facts bytes) site) own
    answers
    (either (GoesSo P E) (length bytes == 0) (Done (outcome.Count 0) site) _ (λ z. b)
    (λ z. write_goes P E file (next_part facts bytes) site answers h b))
    (λ r. done_goes P E site (with_slot site slot (File (further file (part_len facts bytes))))
    (outcome.Count (part_len facts bytes)) r b
    (k site (File (further file (part_len facts bytes))) b))

pub parts_go : (P : Request → Type 0) (E : Site → Type 0) (facts : Facts) (keep : FileKeeper) (file : FileAt)
    (bytes : List ℕ)
    (site : Site) (own : Own) (answers : Answers) → HoldsByHandle P
    → ((f : FileAt) (x : Site) → E x → E (keep f x))
    → E site → GoesSo P E (rest_next keep file bytes site facts own answers)
parts_go P E facts keep file bytes site [] answers h keeps b =
    either (GoesSo P E) (length bytes == 0) (Done outcome.Done site) _ (λ z. b)
    (λ z. write_goes P E file (next_part facts bytes) site answers h b)
parts_go P E facts keep file bytes site (asked ∷ later) answers h keeps b =
    answered_in (GoesSo P E) answers asked.0 (answers asked.0) _ refl tt
    (λ r is. by_status (GoesSo P E) r site _ (λ o. b)
    (parts_go P E facts keep (further file (part_len facts bytes)) (drop (part_len facts bytes) bytes)
    (keep (further file (part_len facts bytes)) site) later answers h keeps
    (keeps (further file (part_len facts bytes)) site b)))

-- ---- whole files and listings

pub opened_goes : (P : Request → Type 0) (E : Site → Type 0) (first : Move) (site : Site) (go : ℕ → List ℕ → Plan)
    (own : Own)
    (answers : Answers) → E site → GoesSo P E first
    → ((place : ℕ) (handle : List ℕ) (later : Own) → GoesSo P E (go place handle later answers))
    → GoesSo P E (once_opened first site go own answers)
opened_goes P E first site go [] answers b asks goes = asks
opened_goes P E first site go (asked ∷ later) answers b asks goes =
    answered_in (GoesSo P E) answers asked.0 (answers asked.0) _ refl tt
    (λ r is. on_granted (GoesSo P E) r site _ (λ o. b) (λ handle. goes asked.0 handle later))

pub entries_go : (P : Request → Type 0) (E : Site → Type 0) (handle : List ℕ) (got : List NameEntry) (bound : ℕ)
    (site : Site)
    (own : Own) (answers : Answers) → P (request.Readdir handle) → E site
    → GoesSo P E (entries_next handle got bound site own answers)
entries_go P E handle got bound site [] answers p b = either (GoesSo P E) (bound == 0) (Done outcome.GivenUp site)
    (Ask (request.Readdir handle)) (λ e. b) (λ e. p)
entries_go P E handle got bound site (asked ∷ later) answers p b =
    answered_in (GoesSo P E) answers asked.0 (answers asked.0) _ refl tt
    (λ r is. on_entries (GoesSo P E) r site (Done (outcome.Names got) site) _ (λ o. b) b
    (λ entries. entries_go P E handle (got ++ entries) (bound - 1) site later answers p b))

awaits_go : (P : Request → Type 0) (E : Site → Type 0) (waiting : Own) (site : Site) → E site
    → GoesSo P E (await_first waiting site)
awaits_go P E [] site b = b
awaits_go P E (asked ∷ later) site b = tt

more_go : (P : Request → Type 0) (E : Site → Type 0) (facts : Facts) (handle : List ℕ) (reads : Own)
    (replies : List (ℕ × Reply)) (waiting : Own) (site : Site) (gap end : Option ℕ) → HoldsByHandle P → E site
    → GoesSo P E (ask_more handle reads replies waiting site facts gap end)
more_go P E facts handle reads replies waiting site (Some p) end h b = h _ tt
more_go P E facts handle reads replies waiting site None None h b = h _ tt
more_go P E facts handle reads replies waiting site None (Some end) h b = awaits_go P E waiting site b

ends_go : (P : Request → Type 0) (E : Site → Type 0) (missing : List ℕ) (replies : List (ℕ × Reply)) (waiting : Own)
    (site : Site) (end : Option ℕ) (other : Move) → E site → GoesSo P E other
    → GoesSo P E (ends_or missing replies waiting site end other)
ends_go P E [] replies [] site (Some end) other b goes = b
ends_go P E [] replies [] site None other b goes = goes
ends_go P E [] replies (asked ∷ later) site end other b goes = goes
ends_go P E (p ∷ ps) replies waiting site end other b goes = goes

pub window_goes : (P : Request → Type 0) (E : Site → Type 0) (facts : Facts) (handle : List ℕ) (bound : Option ℕ)
    (reads : Own)
    (replies : List (ℕ × Reply)) (waiting : Own) (site : Site) → HoldsByHandle P → E site
    → GoesSo P E (window_next handle bound reads replies waiting site facts)
window_goes P E facts handle bound reads replies waiting site h b = by_refused (first_refusal replies)
  where
    goes : GoesSo P E (go_on handle bound reads replies waiting site facts)
    goes =
        either (GoesSo P E) (reaches bound (length (contents replies))) (Done outcome.GivenUp site) _ (λ e. b)
        (λ e. either (GoesSo P E) (nat_lt (length waiting) facts.read_window)
        (ask_more handle reads replies waiting site facts (least (gaps reads replies waiting)) (least_end replies))
        (await_first waiting site)
        (λ f. more_go P E facts handle reads replies waiting site (least (gaps reads replies waiting))
        (least_end replies) h b) (λ f. awaits_go P E waiting site b))

    by_refused : (o : Option (ℕ × Reply)) → GoesSo P E (unless_refused o site
        (ends_or (gaps reads replies waiting) replies waiting site (least_end replies)
        (go_on handle bound reads replies waiting site facts)))
    by_refused None = ends_go P E (gaps reads replies waiting) replies waiting site (least_end replies)
        (go_on handle bound reads replies waiting site facts) b goes
    by_refused (Some got) = by_refusal (GoesSo P E) got.1 site (λ o. b)

-- ---- buffered files

pub buffered_goes : (P : Request → Type 0) (E : Site → Type 0) (site : Site) (slot : ℕ) (go : FileAt → Buffer → Move)
    → E site → ((file : FileAt) (buffer : Buffer) → GoesSo P E (go file buffer))
    → GoesSo P E (on_buffered (slot_at site slot) site go)
buffered_goes P E site slot go b goes = at_buffered (GoesSo P E) (slot_at site slot) site go (λ o. b)
    (λ file buffer at. goes file buffer)

filled_goes : (P : Request → Type 0) (E : Site → Type 0) (slot n : ℕ) (file : FileAt) (buffer : Buffer) (site : Site)
    (r : Reply) → IsKeptAt E slot → E site → GoesSo P E (was_filled slot n file buffer site r)
filled_goes P E slot n file buffer site r k b =
    let left : E (without_reading slot file buffer site) = k site (Buffered file (record buffer { reading = None })) b
    in
    by_content (GoesSo P E) r (without_reading slot file buffer site)
    (Done outcome.End (without_reading slot file buffer site)) _ (λ o. left) left (λ bytes. k site _ b)

fill_goes : (P : Request → Type 0) (E : Site → Type 0) (facts : Facts) (slot n : ℕ) (file : FileAt) (buffer : Buffer)
    (site : Site) (reading : Option ℕ) (own : Own) (answers : Answers) → HoldsByHandle P → IsKeptAt E slot → E site
    → GoesSo P E (fill_next slot n file buffer site facts reading own answers)
fill_goes P E facts slot n file buffer site (Some place) own answers h k b =
    answered_in (GoesSo P E) answers place (answers place) _ refl tt
    (λ r is. filled_goes P E slot n file buffer site r k b)
fill_goes P E facts slot n file buffer site None own answers h k b =
    once_goes P E (ask_read file (min (max n buffer.len) facts.read_len) site answers)
    (was_filled slot n file buffer site) own answers (read_goes P E file (min (max n buffer.len) facts.read_len)
    site answers h b)
    (λ r. filled_goes P E slot n file buffer site r k b)

from_goes : (P : Request → Type 0) (E : Site → Type 0) (facts : Facts) (slot n : ℕ) (file : FileAt) (buffer : Buffer)
    (site : Site) (bytes : List ℕ) (own : Own) (answers : Answers) → HoldsByHandle P → IsKeptAt E slot → E site
    → GoesSo P E (from_buffer slot n file buffer site facts bytes own answers)
from_goes P E facts slot n file buffer site [] own answers h k b =
    fill_goes P E facts slot n file buffer site buffer.reading own answers h k b
from_goes P E facts slot n file buffer site (c ∷ bytes) own answers h k b = k site _ b

pub buf_read_goes : (P : Request → Type 0) (E : Site → Type 0) (facts : Facts) (slot n : ℕ) (file : FileAt)
    (buffer : Buffer)
    (site : Site) (own : Own) (answers : Answers) → HoldsByHandle P → IsKeptAt E slot → E site
    → GoesSo P E (buf_read_file_next slot n site facts own answers file buffer)
buf_read_goes P E facts slot n file buffer site own answers h k b =
    either (GoesSo P E) (not file.readable) (refuse_locally kind.NotReadable site) _ (λ e. b)
    (λ e. either (GoesSo P E) (n == 0) (Done (outcome.Bytes []) site)
    (from_buffer slot n file buffer site facts buffer.bytes own answers) (λ z. b)
    (λ z. from_goes P E facts slot n file buffer site buffer.bytes own answers h k b))

taken_goes : (P : Request → Type 0) (E : Site → Type 0) (slot : ℕ) (file : FileAt) (buffer : Buffer) (site : Site)
    (answers : Answers) (writes : List (ℕ × ℕ)) (go : Buffer → Site → Move) → IsKeptAt E slot → E site
    → ((freed : Buffer) (x : Site) → E x → GoesSo P E (go freed x))
    → GoesSo P E (taken_out slot file buffer site answers writes go)
taken_goes P E slot file buffer site answers [] go k b goes = goes buffer site b
taken_goes P E slot file buffer site answers (write ∷ writes) go k b goes =
    let left : E (with_deferred slot file buffer site writes) =
    k site (Buffered file (record buffer { deferred = writes })) b in
    answered_in (GoesSo P E) answers write.0 (answers write.0) _ refl tt
    (λ r is. by_status (GoesSo P E) r (with_deferred slot file buffer site writes) _ (λ o. left)
    (goes (record buffer { deferred = writes }) (with_deferred slot file buffer site writes) left))

capacity_goes : (P : Request → Type 0) (E : Site → Type 0) (facts : Facts) (slot : ℕ) (file : FileAt) (buffer : Buffer)
    (site : Site) (answers : Answers) (go : Buffer → Site → Move) → IsKeptAt E slot → E site
    → ((freed : Buffer) (x : Site) → E x → GoesSo P E (go freed x))
    → GoesSo P E (with_capacity slot file buffer site facts answers go)
capacity_goes P E facts slot file buffer site answers go k b goes =
    either (GoesSo P E) (is_full facts buffer) (taken_out slot file buffer site answers buffer.deferred go)
    (go buffer site) (λ e. taken_goes P E slot file buffer site answers buffer.deferred go k b goes)
    (λ e. goes buffer site b)

send_goes : (P : Request → Type 0) (E : Site → Type 0) (facts : Facts) (slot : ℕ) (file : FileAt) (bytes : List ℕ)
    (own : Own)
    (answers : Answers) (buffer : Buffer) (site : Site) → HoldsByHandle P → IsKeptAt E slot → E site
    → GoesSo P E (send_next slot file bytes facts own answers buffer site)
send_goes P E facts slot file bytes [] answers buffer site h k b =
    write_goes P E file (take (deferrable_len facts bytes buffer) bytes) site answers h b
send_goes P E facts slot file bytes (asked ∷ later) answers buffer site h k b = k site _ b

pub buf_write_goes : (P : Request → Type 0) (E : Site → Type 0) (facts : Facts) (slot : ℕ) (bytes : List ℕ)
    (site : Site)
    (own : Own) (answers : Answers) → HoldsByHandle P → IsKeptAt E slot → E site
    → GoesSo P E (next (call.BufWrite slot bytes) site facts own answers)
buf_write_goes P E facts slot bytes site own answers h k b = buffered_goes P E site slot _ b (λ file buffer.
    either (GoesSo P E) (not file.writable) (refuse_locally kind.NotWritable site) _ (λ e. b)
    (λ e. either (GoesSo P E) (length bytes == 0) (Done (outcome.Count 0) site) _ (λ z. b)
    (λ z. capacity_goes P E facts slot file buffer site answers _ k b
    (λ freed x l. send_goes P E facts slot file bytes own answers freed x h k l))))

pub rest_goes : (P : Request → Type 0) (E : Site → Type 0) (facts : Facts) (slot : ℕ) (bytes : List ℕ) (file : FileAt)
    (buffer : Buffer) (site : Site) (own : Own) (answers : Answers) → HoldsByHandle P → IsKeptAt E slot → E site
    → GoesSo P E (buffered_rest slot bytes file buffer site facts own answers)
rest_goes P E facts slot bytes file buffer site [] answers h k b =
    either (GoesSo P E) (length bytes == 0) (Done outcome.Done site) _ (λ z. b)
    (λ z. either (GoesSo P E) (not file.writable) (refuse_locally kind.NotWritable site) _ (λ e. b)
    (λ e. capacity_goes P E facts slot file buffer site answers _ k b
    (λ freed x l. write_goes P E file (take (deferrable_len facts bytes freed) bytes) x answers h l)))
rest_goes P E facts slot bytes file buffer site (asked ∷ later) answers h k b =
    capacity_goes P E facts slot file buffer site answers _ k b (λ freed x l.
    rest_goes P E facts slot (drop (deferrable_len facts bytes freed) bytes)
    (further file (deferrable_len facts bytes freed)) (after_write freed asked.0 (deferrable_len facts bytes freed))
    (with_slot x slot (written_slot file freed asked.0 (deferrable_len facts bytes freed))) later answers h k
    (k x (written_slot file freed asked.0 (deferrable_len facts bytes freed)) l))

pub flush_goes : (P : Request → Type 0) (E : Site → Type 0) (slot : ℕ) (file : FileAt) (buffer : Buffer) (site : Site)
    (answers : Answers) (writes : List (ℕ × ℕ)) → IsKeptAt E slot → E site
    → GoesSo P E (flush_next slot file buffer site answers writes)
flush_goes P E slot file buffer site answers [] k b = b
flush_goes P E slot file buffer site answers (write ∷ writes) k b =
    let left : E (with_deferred slot file buffer site writes) =
    k site (Buffered file (record buffer { deferred = writes })) b in
    answered_in (GoesSo P E) answers write.0 (answers write.0) _ refl tt
    (λ r is. by_status (GoesSo P E) r (with_deferred slot file buffer site writes) _ (λ o. left)
    (flush_goes P E slot file buffer (with_deferred slot file buffer site writes) answers writes k left))
