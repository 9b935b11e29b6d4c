-- What the moves of plans leave of a site, for any property of sites that slots which await nothing keep.
use Rattle.std.proofs.Common.{◌≡◌, ◌+◌, ◌-◌, ◌==◌, ℕ, List, [], ◌∷◌, Option, Some, None, refl, if◌then◌else◌}
use Rattle.std.specs.Prelude.{◌++◌, length, min, not, drop, pos, negsuc, nat_le, nat_lt}
use Rattle.std.specs.declared.io.traits.SeekFrom.{SeekFrom}
use Rattle.std.specs.declared.io.traits.SeekFrom.TheVariants.{Start, End, Current}
use Rattle.sftp_model.specs.declared.file_attrs.FileAttrs.{FileAttrs}
use Rattle.sftp_model.specs.declared.flags.OpenFlags.{OpenFlags}
use Rattle.sftp_model.specs.declared.outcome.Outcome.{Outcome}
use Rattle.sftp_model.specs.declared.outcome.Outcome.TheVariants as outcome
use Rattle.sftp_model.specs.declared.error.IoKind.TheVariants as kind
use Rattle.sftp_model.specs.declared.reply.NameEntry.{NameEntry}
use Rattle.sftp_model.specs.declared.reply.Reply.{Reply}
use Rattle.sftp_model.specs.declared.reply.Reply.TheVariants as reply
use Rattle.sftp_model.specs.declared.request.Request.{Request}
use Rattle.sftp_model.specs.declared.request.Request.TheVariants as request
use Rattle.sftp_model.specs.declared.slot.Facts.{Facts}
use Rattle.sftp_model.specs.declared.slot.Move.{Move}
use Rattle.sftp_model.specs.declared.slot.Move.TheVariants.{Ask, Done}
use Rattle.sftp_model.specs.declared.slot.FileAt.{FileAt}
use Rattle.sftp_model.specs.declared.slot.Buffer.{Buffer}
use Rattle.sftp_model.specs.declared.slot.Slot.{Slot}
use Rattle.sftp_model.specs.declared.slot.Slot.TheVariants.{Empty, File, Buffered}
use Rattle.sftp_model.specs.declared.slot.Site.{Site}
use Rattle.sftp_model.specs.Slots.{slot_at, with_slot, has_grant}
use Rattle.sftp_model.specs.Numbers.{FSYNC, COPY_DATA}
use Rattle.sftp_model.specs.Frames.{is_too_long}
use Rattle.plan_model.specs.Moves.{
  Answers,
  Own,
  Plan,
  by_reply,
  ask_path,
  ask_read,
  ask_write,
  handle_of,
  overflows,
  refuse_locally,
  refuses_extension,
  offers,
  on_status,
  on_file,
  left_on_file,
  left_on_buffered,
  done_by,
  told_by,
  further,
}
use Rattle.plan_model.specs.PathPlans.{path_done, path_told, path_named, named_by}
use Rattle.plan_model.specs.FilePlans.{
  open_request,
  opened_move,
  opened_file,
  first_place,
  close_grant_next,
  close_slot_next,
  cancelled_close,
  ask_set,
  set_next,
  ask_meta,
  ask_sync,
  ask_copy,
  site_after_copy,
  copy_files_next,
  on_seek,
}
use Rattle.plan_model.specs.TransferPlans.{
  read_first,
  was_read,
  missing_next,
  part_len,
  next_part,
  write_first,
  was_written,
  FileKeeper,
  rest_next,
  last_offset,
  cancelled_transfer,
}
use Rattle.plan_model.specs.WholePlans.{once_opened, entries_next}
use Rattle.plan_model.specs.WindowPlans.{
  first_refusal,
  least,
  least_end,
  gaps,
  contents,
  await_first,
  ask_more,
  go_on,
  reaches,
  ends_or,
  unless_refused,
  window_next,
}
use Rattle.plan_model.specs.Ends.{EndsLeaving}
use Rattle.plan_model.proofs.MoveLaws.{either, by_status, by_refusal, by_content, by_attrs, at_file}
use Rattle.plan_model.proofs.CountLaws.{answered_in, on_granted, on_entries}

-- ---- slots that are set

-- the slot awaits no reply: no status was deferred, and no READ is under way
abbrev pub AwaitsNothing : Slot → Type 0
AwaitsNothing (Buffered file buffer) = (buffer.deferred ≡ []) × (buffer.reading ≡ None)
AwaitsNothing other = Unit {0}

-- a site keeps the property where such a slot is set, and with another directory
pub record IsKept (P : Site → Type 0) : Type 0 where
  pub set : (site : Site) (slot : ℕ) (x : Slot) → AwaitsNothing x → P site → P (with_slot site slot x)
  pub moved : (site : Site) (path : List ℕ) → P site → P (record site { directory = path })

-- ---- one request

pub once_leaves : (P : Site → Type 0) (first : Move) (go : Reply → Move) (own : Own) (answers : Answers)
    → EndsLeaving P first → ((r : Reply) → EndsLeaving P (go r)) → EndsLeaving P (by_reply first go own answers)
once_leaves P first go [] answers asks goes = asks
once_leaves P first go (asked ∷ later) answers asks goes = answered_in (EndsLeaving P) answers asked.0 (answers asked.0)
    go refl tt (λ r is. goes r)

pub path_leaves : (P : Site → Type 0) (r : Request) (site : Site) → P site → EndsLeaving P (ask_path r site)
path_leaves P r site b = either (EndsLeaving P) (is_too_long r) (refuse_locally kind.PathTooLong site) (Ask r) (λ e. b)
    (λ e. tt)

done_leaves : (P : Site → Type 0) (site left : Site) (o : Outcome) (r : Reply) → P site → P left
    → EndsLeaving P (on_status r site (Done o left))
done_leaves P site left o r b l = by_status (EndsLeaving P) r site (Done o left) (λ x. b) l

pub path_done_leaves : (P : Site → Type 0) (r : Request) (site : Site) (own : Own) (answers : Answers) → P site
    → EndsLeaving P (path_done r site own answers)
path_done_leaves P r site own answers b = once_leaves P (ask_path r site) (done_by site) own answers
    (path_leaves P r site b) (λ y. done_leaves P site site outcome.Done y b b)

pub link_leaves : (P : Site → Type 0) (facts : Facts) (bit : ℕ) (r : Request) (site : Site) (own : Own)
    (answers : Answers) → P site → EndsLeaving P (by_reply (if offers facts bit then ask_path r site else
    refuses_extension bit site) (done_by site) own answers)
link_leaves P facts bit r site own answers b =
    once_leaves P (if offers facts bit then ask_path r site else refuses_extension bit site) (done_by site) own answers
    (either (EndsLeaving P) (offers facts bit) (ask_path r site) (refuses_extension bit site)
    (λ e. path_leaves P r site b)
    (λ e. b)) (λ y. done_leaves P site site outcome.Done y b b)

pub path_told_leaves : (P : Site → Type 0) (r : Request) (site : Site) (own : Own) (answers : Answers) → P site
    → EndsLeaving P (path_told r site own answers)
path_told_leaves P r site own answers b = once_leaves P (ask_path r site) (told_by site) own answers
    (path_leaves P r site b) (λ y. by_attrs (EndsLeaving P) y site (λ o. b))

named_leaves : (P : Site → Type 0) (site : Site) (y : Reply) → P site → EndsLeaving P (named_by site y)
named_leaves P site (reply.Names []) b = b
named_leaves P site (reply.Names (entry ∷ entries)) b = b
named_leaves P site (reply.Status code message language) b = b
named_leaves P site y b = b

pub path_named_leaves : (P : Site → Type 0) (r : Request) (site : Site) (own : Own) (answers : Answers) → P site
    → EndsLeaving P (path_named r site own answers)
path_named_leaves P r site own answers b = once_leaves P (ask_path r site) (named_by site) own answers
    (path_leaves P r site b) (λ y. named_leaves P site y b)

-- ---- files in slots

pub file_leaves : (P : Site → Type 0) (site : Site) (slot : ℕ) (go : FileAt → Move) → P site
    → ((file : FileAt) → EndsLeaving P (go file)) → EndsLeaving P (on_file (slot_at site slot) site go)
file_leaves P site slot go b goes = at_file (EndsLeaving P) (slot_at site slot) site go (λ o. b) (λ file at. goes file)

pub set_file : (P : Site → Type 0) (k : IsKept P) (site : Site) (slot : ℕ) (file : FileAt) → P site
    → P (with_slot site slot (File file))
set_file P k site slot file b = k.set site slot (File file) tt b

pub open_leaves : (P : Site → Type 0) (k : IsKept P) (slot : ℕ) (flags : OpenFlags) (path : List ℕ) (site : Site)
    (own : Own) (answers : Answers) → P site → EndsLeaving P (by_reply (ask_path (open_request flags path) site)
    (opened_move slot flags site (first_place own)) own answers)
open_leaves P k slot flags path site own answers b =
    once_leaves P (ask_path (open_request flags path) site) (opened_move slot flags site (first_place own)) own answers
    (path_leaves P (open_request flags path) site b)
    (λ r. on_granted (EndsLeaving P) r site _ (λ o. b) (λ handle. set_file P k site slot
    (opened_file flags (first_place own)) b))

pub close_leaves : (P : Site → Type 0) (k : IsKept P) (slot : ℕ) (site : Site) (own : Own) (answers : Answers)
    (x : Slot) → P site → EndsLeaving P (close_slot_next slot site own answers x)
close_leaves P k slot site own answers x b = by_slot x
  where
    emptied : P (with_slot site slot Empty)
    emptied = k.set site slot Empty tt b

    by_grant : (grant : ℕ) → EndsLeaving P (close_grant_next grant (with_slot site slot Empty) own answers)
    by_grant grant =
        once_leaves P (if has_grant (with_slot site slot Empty) grant then
        Done outcome.Done (with_slot site slot Empty) else Ask (request.Close (handle_of (answers grant))))
        (done_by (with_slot site slot Empty)) own answers
        (either (EndsLeaving P) (has_grant (with_slot site slot Empty) grant)
        (Done outcome.Done (with_slot site slot Empty))
        (Ask (request.Close (handle_of (answers grant)))) (λ e. emptied) (λ e. tt))
        (λ r. done_leaves P (with_slot site slot Empty) (with_slot site slot Empty) outcome.Done r emptied emptied)

    by_slot : (y : Slot) → EndsLeaving P (close_slot_next slot site own answers y)
    by_slot Empty = b
    by_slot (File file) = by_grant file.grant
    by_slot (Buffered file buffer) = by_grant file.grant

pub set_leaves : (P : Site → Type 0) (facts : Facts) (slot : ℕ) (attrs : FileAttrs) (site : Site) (own : Own)
    (answers : Answers) → P site → EndsLeaving P (set_next slot attrs site facts own answers)
set_leaves P facts slot attrs site own answers b = file_leaves P site slot _ b
    (λ file. once_leaves P (ask_set attrs file site answers) (done_by site) own answers
    (either (EndsLeaving P) (not file.writable) (refuse_locally kind.NotWritable site)
    (Ask (request.Fsetstat (handle_of (answers file.grant)) attrs)) (λ e. b) (λ e. tt))
    (λ r. done_leaves P site site outcome.Done r b b))

pub meta_leaves : (P : Site → Type 0) (file : FileAt) (site : Site) (own : Own) (answers : Answers) → P site
    → EndsLeaving P (by_reply (ask_meta file site answers) (told_by site) own answers)
meta_leaves P file site own answers b = once_leaves P (ask_meta file site answers) (told_by site) own answers
    (either (EndsLeaving P) (not file.readable) (refuse_locally kind.NotReadable site)
    (Ask (request.Fstat (handle_of (answers file.grant)))) (λ e. b) (λ e. tt))
    (λ y. by_attrs (EndsLeaving P) y site (λ o. b))

pub sync_leaves : (P : Site → Type 0) (facts : Facts) (file : FileAt) (site : Site) (own : Own) (answers : Answers)
    → P site → EndsLeaving P (by_reply (ask_sync file site facts answers) (done_by site) own answers)
sync_leaves P facts file site own answers b = once_leaves P (ask_sync file site facts answers) (done_by site) own
    answers
    (either (EndsLeaving P) (not (offers facts FSYNC)) (refuses_extension FSYNC site) _ (λ e. b)
    (λ e. either (EndsLeaving P) (not file.writable) (refuse_locally kind.NotWritable site)
    (Ask (request.Fsync (handle_of (answers file.grant)))) (λ n. b) (λ n. tt)))
    (λ r. done_leaves P site site outcome.Done r b b)

pub copy_leaves : (P : Site → Type 0) (k : IsKept P) (facts : Facts) (from to n : ℕ) (site : Site) (own : Own)
    (answers : Answers) (source target : FileAt) → P site → EndsLeaving P
    (copy_files_next from to n site facts own answers source target)
copy_leaves P k facts from to n site own answers source target b =
    once_leaves P (ask_copy source target n site facts answers) _ own answers
    (either (EndsLeaving P) (not (offers facts COPY_DATA)) (refuses_extension COPY_DATA site) _ (λ e. b)
    (λ e. either (EndsLeaving P) (not target.writable) (refuse_locally kind.NotWritable site) _ (λ f. b)
    (λ f. either (EndsLeaving P) (not source.readable) (refuse_locally kind.NotReadable site) _ (λ g. b)
    (λ g. either (EndsLeaving P) (overflows source.offset n) (refuse_locally kind.OffsetOverflow site) _ (λ h. b)
    (λ h. either (EndsLeaving P) (overflows target.offset n) (refuse_locally kind.OffsetOverflow site)
    (Ask (request.CopyData (handle_of (answers source.grant)) source.offset n (handle_of (answers target.grant))
    target.offset)) (λ i. b) (λ i. tt))))))
    (λ r. done_leaves P site (site_after_copy from to source target n site) outcome.Done r b
    (set_file P k (with_slot site from (File (further source n))) to (further target n)
    (set_file P k site from (further source n) b)))

pub seek_leaves : (P : Site → Type 0) (position : SeekFrom) (offset : ℕ) (site : Site) (go : ℕ → Move) → P site
    → ((to : ℕ) → EndsLeaving P (go to)) → EndsLeaving P (on_seek position offset site go)
seek_leaves P (Start n) offset site go b goes = goes n
seek_leaves P (End n) offset site go b goes = b
seek_leaves P (Current (pos n)) offset site go b goes = either (EndsLeaving P) (overflows offset n)
    (refuse_locally kind.SeekOverflow site) (go (offset + n)) (λ e. b) (λ e. goes (offset + n))
seek_leaves P (Current (negsuc n)) offset site go b goes = either (EndsLeaving P) (nat_le offset n)
    (refuse_locally kind.SeekUnderflow site) (go (offset - (n + 1))) (λ e. b) (λ e. goes (offset - (n + 1)))

-- ---- reads and writes

pub read_leaves : (P : Site → Type 0) (file : FileAt) (len : ℕ) (site : Site) (answers : Answers) → P site
    → EndsLeaving P (ask_read file len site answers)
read_leaves P file len site answers b =
    either (EndsLeaving P) (not file.readable) (refuse_locally kind.NotReadable site) _ (λ e. b)
    (λ e. either (EndsLeaving P) (overflows file.offset len) (refuse_locally kind.OffsetOverflow site)
    (Ask (request.Read (handle_of (answers file.grant)) file.offset len)) (λ o. b) (λ o. tt))

pub write_leaves : (P : Site → Type 0) (file : FileAt) (bytes : List ℕ) (site : Site) (answers : Answers) → P site
    → EndsLeaving P (ask_write file bytes site answers)
write_leaves P file bytes site answers b =
    either (EndsLeaving P) (not file.writable) (refuse_locally kind.NotWritable site) _ (λ e. b)
    (λ e. either (EndsLeaving P) (overflows file.offset (length bytes)) (refuse_locally kind.OffsetOverflow site)
    (Ask (request.Write (handle_of (answers file.grant)) file.offset bytes)) (λ o. b) (λ o. tt))

pub was_read_leaves : (P : Site → Type 0) (k : IsKept P) (facts : Facts) (slot n : ℕ) (file : FileAt) (site : Site)
    (own : Own) (answers : Answers) → P site → EndsLeaving P (by_reply (read_first file n site facts answers)
    (was_read slot file site) own answers)
was_read_leaves P k facts slot n file site own answers b = once_leaves P (read_first file n site facts answers)
    (was_read slot file site) own answers
    (either (EndsLeaving P) (n == 0) (Done outcome.End site) (ask_read file (min n facts.read_len) site answers)
    (λ z. b)
    (λ z. read_leaves P file (min n facts.read_len) site answers b))
    (λ r. by_content (EndsLeaving P) r site (Done outcome.End site) _ (λ o. b) b
    (λ bytes. set_file P k site slot (further file (length bytes)) b))

pub missing_leaves : (P : Site → Type 0) (k : IsKept P) (facts : Facts) (slot : ℕ) (file : FileAt) (got : List ℕ)
    (n : ℕ) (site : Site) (own : Own) (answers : Answers) → P site
    → EndsLeaving P (missing_next slot file got n site facts own answers)
missing_leaves P k facts slot file got n site [] answers b =
    either (EndsLeaving P) (n == 0) (Done (outcome.Bytes got) site) (ask_read file (min n facts.read_len) site answers)
    (λ z. b) (λ z. read_leaves P file (min n facts.read_len) site answers b)
missing_leaves P k facts slot file got n site (asked ∷ later) answers b =
    answered_in (EndsLeaving P) answers asked.0 (answers asked.0) _ refl tt
    (λ r is. by_content (EndsLeaving P) r site (refuse_locally kind.UnexpectedEof site) _ (λ o. b) b
    (λ bytes. missing_leaves P k facts slot (further file (length bytes)) _ _
    (with_slot site slot (File (further file (length bytes)))) later answers
    (set_file P k site slot (further file (length bytes)) b)))

pub was_written_leaves : (P : Site → Type 0) (k : IsKept P) (facts : Facts) (slot : ℕ) (bytes : List ℕ) (file : FileAt)
    (site : Site) (own : Own) (answers : Answers) → P site
    → EndsLeaving P (by_reply (write_first file bytes site facts answers)
    (was_written slot file (part_len facts bytes) site) own answers)
was_written_leaves P k facts slot bytes file site own answers b =
    once_leaves P (write_first file bytes site facts answers) (was_written slot file (part_len facts bytes) site) own
    answers
    (either (EndsLeaving P) (length bytes == 0) (Done (outcome.Count 0) site) _ (λ z. b)
    (λ z. write_leaves P file (next_part facts bytes) site answers b))
    (λ r. done_leaves P site (with_slot site slot (File (further file (part_len facts bytes))))
    (outcome.Count (part_len facts bytes)) r b (set_file P k site slot (further file (part_len facts bytes)) b))

pub parts_leave : (P : Site → Type 0) (facts : Facts) (keep : FileKeeper) (file : FileAt) (bytes : List ℕ) (site : Site)
    (own : Own) (answers : Answers) → ((x : Site) (f : FileAt) → P x → P (keep f x)) → P site
    → EndsLeaving P (rest_next keep file bytes site facts own answers)
parts_leave P facts keep file bytes site [] answers keeps b =
    either (EndsLeaving P) (length bytes == 0) (Done outcome.Done site) _ (λ z. b)
    (λ z. write_leaves P file (next_part facts bytes) site answers b)
parts_leave P facts keep file bytes site (asked ∷ later) answers keeps b =
    answered_in (EndsLeaving P) answers asked.0 (answers asked.0) _ refl tt
    (λ r is. by_status (EndsLeaving P) r site _ (λ o. b)
    (parts_leave P facts keep (further file (part_len facts bytes)) (drop (part_len facts bytes) bytes)
    (keep (further file (part_len facts bytes)) site) later answers keeps
    (keeps site (further file (part_len facts bytes)) b)))

-- ---- whole files and listings

pub opened_leaves : (P : Site → Type 0) (first : Move) (site : Site) (go : ℕ → List ℕ → Plan) (own : Own)
    (answers : Answers) → P site → EndsLeaving P first
    → ((place : ℕ) (handle : List ℕ) (later : Own) → EndsLeaving P (go place handle later answers))
    → EndsLeaving P (once_opened first site go own answers)
opened_leaves P first site go [] answers b asks goes = asks
opened_leaves P first site go (asked ∷ later) answers b asks goes =
    answered_in (EndsLeaving P) answers asked.0 (answers asked.0) _ refl tt
    (λ r is. on_granted (EndsLeaving P) r site _ (λ o. b) (λ handle. goes asked.0 handle later))

pub entries_leave : (P : Site → Type 0) (handle : List ℕ) (got : List NameEntry) (bound : ℕ) (site : Site) (own : Own)
    (answers : Answers) → P site → EndsLeaving P (entries_next handle got bound site own answers)
entries_leave P handle got bound site [] answers b = either (EndsLeaving P) (bound == 0) (Done outcome.GivenUp site)
    (Ask (request.Readdir handle)) (λ e. b) (λ e. tt)
entries_leave P handle got bound site (asked ∷ later) answers b =
    answered_in (EndsLeaving P) answers asked.0 (answers asked.0) _ refl tt
    (λ r is. on_entries (EndsLeaving P) r site (Done (outcome.Names got) site) _ (λ o. b) b
    (λ entries. entries_leave P handle (got ++ entries) (bound - 1) site later answers b))

awaits_leave : (P : Site → Type 0) (waiting : Own) (site : Site) → P site → EndsLeaving P (await_first waiting site)
awaits_leave P [] site b = b
awaits_leave P (asked ∷ later) site b = tt

more_leaves : (P : Site → Type 0) (facts : Facts) (handle : List ℕ) (reads : Own) (replies : List (ℕ × Reply))
    (waiting : Own) (site : Site) (gap end : Option ℕ) → P site
    → EndsLeaving P (ask_more handle reads replies waiting site facts gap end)
more_leaves P facts handle reads replies waiting site (Some p) end b = tt
more_leaves P facts handle reads replies waiting site None None b = tt
more_leaves P facts handle reads replies waiting site None (Some end) b = awaits_leave P waiting site b

ends_leave : (P : Site → Type 0) (missing : List ℕ) (replies : List (ℕ × Reply)) (waiting : Own) (site : Site)
    (end : Option ℕ) (other : Move) → P site → EndsLeaving P other →
    EndsLeaving P (ends_or missing replies waiting site end other)
ends_leave P [] replies [] site (Some end) other b goes = b
ends_leave P [] replies [] site None other b goes = goes
ends_leave P [] replies (asked ∷ later) site end other b goes = goes
ends_leave P (p ∷ ps) replies waiting site end other b goes = goes

pub window_leaves : (P : Site → Type 0) (facts : Facts) (handle : List ℕ) (bound : Option ℕ) (reads : Own)
    (replies : List (ℕ × Reply)) (waiting : Own) (site : Site) → P site
    → EndsLeaving P (window_next handle bound reads replies waiting site facts)
window_leaves P facts handle bound reads replies waiting site b = by_refused (first_refusal replies)
  where
    goes : EndsLeaving P (go_on handle bound reads replies waiting site facts)
    goes =
        either (EndsLeaving P) (reaches bound (length (contents replies))) (Done outcome.GivenUp site) _ (λ e. b)
        (λ e. either (EndsLeaving P) (nat_lt (length waiting) facts.read_window)
        (ask_more handle reads replies waiting site facts (least (gaps reads replies waiting)) (least_end replies))
        (await_first waiting site)
        (λ f. more_leaves P facts handle reads replies waiting site (least (gaps reads replies waiting))
        (least_end replies) b) (λ f. awaits_leave P waiting site b))

    by_refused : (o : Option (ℕ × Reply)) → EndsLeaving P (unless_refused o site
        (ends_or (gaps reads replies waiting) replies waiting site (least_end replies)
        (go_on handle bound reads replies waiting site facts)))
    by_refused None = ends_leave P (gaps reads replies waiting) replies waiting site (least_end replies)
        (go_on handle bound reads replies waiting site facts) b goes
    by_refused (Some got) = by_refusal (EndsLeaving P) got.1 site (λ o. b)

-- ---- cancelled

pub on_file_left : (P : Site → Type 0) (site : Site) (x : Slot) (go : FileAt → Site) → P site
    → ((file : FileAt) → P (go file)) → P (left_on_file x site go)
on_file_left P site Empty go b goes = b
on_file_left P site (File file) go b goes = goes file
on_file_left P site (Buffered file buffer) go b goes = b

pub on_buffer_left : (P : Site → Type 0) (site : Site) (x : Slot) (go : FileAt → Buffer → Site) → P site
    → ((file : FileAt) (buffer : Buffer) → x ≡ Buffered file buffer → P (go file buffer))
    → P (left_on_buffered x site go)
on_buffer_left P site Empty go b goes = b
on_buffer_left P site (File file) go b goes = b
on_buffer_left P site (Buffered file buffer) go b goes = goes file buffer refl

pub transfer_left : (P : Site → Type 0) (k : IsKept P) (slot : ℕ) (site : Site) (facts : Facts) (own : Own)
    (answers : Answers) → P site → P (cancelled_transfer slot site facts own answers)
transfer_left P k slot site facts own answers b = on_file_left P site (slot_at site slot) _ b
    (λ file. set_file P k site slot (record file { offset = last_offset file.offset own }) b)

pub close_left : (P : Site → Type 0) (k : IsKept P) (slot : ℕ) (site : Site) (facts : Facts) (own : Own)
    (answers : Answers) → P site → P (cancelled_close slot site facts own answers)
close_left P k slot site facts [] answers b = b
close_left P k slot site facts (asked ∷ later) answers b = k.set site slot Empty tt b
