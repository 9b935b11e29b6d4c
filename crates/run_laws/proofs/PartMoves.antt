-- The requests of the parts of a plan that open, close, set and seek, for any predicate on requests.
use Rattle.std.proofs.Common.{◌+◌, ◌-◌, ℕ, List, [], ◌∷◌, refl, if◌then◌else◌}
use Rattle.std.specs.Prelude.{not, pos, negsuc, nat_le}
use Rattle.std.specs.declared.io.traits.SeekFrom.{SeekFrom}
use Rattle.std.specs.declared.io.traits.SeekFrom.TheVariants.{Start, End, Current}
use Rattle.sftp_model.specs.Numbers.{COPY_DATA, FSYNC}
use Rattle.sftp_model.specs.Slots.{has_grant, slot_at, with_slot}
use Rattle.sftp_model.specs.declared.error.IoKind.TheVariants as kind
use Rattle.sftp_model.specs.declared.file_attrs.FileAttrs.{FileAttrs}
use Rattle.sftp_model.specs.declared.flags.OpenFlags.{OpenFlags}
use Rattle.sftp_model.specs.declared.outcome.Outcome.{Outcome}
use Rattle.sftp_model.specs.declared.outcome.Outcome.TheVariants as outcome
use Rattle.sftp_model.specs.declared.reply.Reply.{Reply}
use Rattle.sftp_model.specs.declared.reply.Reply.TheVariants as reply
use Rattle.sftp_model.specs.declared.request.Request.{Request}
use Rattle.sftp_model.specs.declared.request.Request.TheVariants as request
use Rattle.sftp_model.specs.declared.slot.Facts.{Facts}
use Rattle.sftp_model.specs.declared.slot.FileAt.{FileAt}
use Rattle.sftp_model.specs.declared.slot.Move.{Move}
use Rattle.sftp_model.specs.declared.slot.Move.TheVariants.{Ask, Wait, Done}
use Rattle.sftp_model.specs.declared.slot.Site.{Site}
use Rattle.sftp_model.specs.declared.slot.Slot.{Slot}
use Rattle.sftp_model.specs.declared.slot.Slot.TheVariants.{Empty, File, Buffered}
use Rattle.plan_model.specs.FilePlans.{
  ask_copy,
  ask_meta,
  ask_set,
  ask_sync,
  close_grant_next,
  close_slot_next,
  site_after_copy,
  copy_files_next,
  first_place,
  on_seek,
  open_request,
  opened_move,
  opened_file,
  set_next,
}
use Rattle.sftp_model.specs.Frames.{is_too_long}
use Rattle.plan_model.specs.Moves.{
  Answers,
  Own,
  ask_path,
  by_reply,
  done_by,
  further,
  handle_of,
  offers,
  on_file,
  on_status,
  overflows,
  refuse_locally,
  refuses_extension,
  told_by,
}
use Rattle.plan_model.specs.PathPlans.{named_by, path_done, path_named, path_told}
use Rattle.plan_model.proofs.CountLaws.{answered_in, on_granted}
use Rattle.plan_model.proofs.MoveLaws.{at_file, by_attrs, by_status, either}

-- ---- moves

-- the request bears handles, and names no path
abbrev pub IsByHandle : Request → Type 0
IsByHandle (request.Close handle) = Unit {0}
IsByHandle (request.Read handle offset len) = Unit {0}
IsByHandle (request.Write handle offset content) = Unit {0}
IsByHandle (request.Fstat handle) = Unit {0}
IsByHandle (request.Fsetstat handle attrs) = Unit {0}
IsByHandle (request.Fsync handle) = Unit {0}
IsByHandle (request.Readdir handle) = Unit {0}
IsByHandle (request.CopyData from from_offset len to to_offset) = Unit {0}
IsByHandle other = ⊥

-- so are all requests by handles
abbrev pub HoldsByHandle : (Request → Type 0) → Type 0
HoldsByHandle P = (r : Request) → IsByHandle r → P r

-- where the move asks, it asks so, and where it ends the call, so is what it leaves
abbrev pub GoesSo : (Request → Type 0) → (Site → Type 0) → Move → Type 0
GoesSo P E (Ask r) = P r
GoesSo P E (Wait place) = Unit {0}
GoesSo P E (Done o after) = E after

abbrev pub IsAnySite : Site → Type 0
IsAnySite site = Unit {0}

-- what holds of a site still does once this slot is set
abbrev pub IsKeptAt : (Site → Type 0) → ℕ → Type 0
IsKeptAt E slot = (site : Site) (x : Slot) → E site → E (with_slot site slot x)

-- ---- one request

pub once_goes : (P : Request → Type 0) (E : Site → Type 0) (first : Move) (go : Reply → Move) (own : Own)
    (answers : Answers)
    → GoesSo P E first → ((r : Reply) → GoesSo P E (go r)) → GoesSo P E (by_reply first go own answers)
once_goes P E first go [] answers asks goes = asks
once_goes P E first go (asked ∷ later) answers asks goes = answered_in (GoesSo P E) answers asked.0 (answers asked.0) go
    refl tt (λ r is. goes r)

pub path_goes : (P : Request → Type 0) (E : Site → Type 0) (r : Request) (site : Site) → P r → E site
    → GoesSo P E (ask_path r site)
path_goes P E r site p b = either (GoesSo P E) (is_too_long r) (refuse_locally kind.PathTooLong site) (Ask r) (λ e. b)
    (λ e. p)

pub done_goes : (P : Request → Type 0) (E : Site → Type 0) (site left : Site) (o : Outcome) (r : Reply) → E site
    → E left → GoesSo P E (on_status r site (Done o left))
done_goes P E site left o r b l = by_status (GoesSo P E) r site (Done o left) (λ x. b) l

pub path_done_goes : (P : Request → Type 0) (E : Site → Type 0) (r : Request) (site : Site) (own : Own)
    (answers : Answers) → P r
    → E site → GoesSo P E (path_done r site own answers)
path_done_goes P E r site own answers p b = once_goes P E (ask_path r site) (done_by site) own answers
    (path_goes P E r site p b) (λ y. done_goes P E site site outcome.Done y b b)

pub link_goes : (P : Request → Type 0) (E : Site → Type 0) (facts : Facts) (bit : ℕ) (r : Request) (site : Site)
    (own : Own) (answers : Answers) → P r → E site
    → GoesSo P E (by_reply (if offers facts bit then ask_path r site else refuses_extension bit site) (done_by site) own
    answers)
link_goes P E facts bit r site own answers p b =
    once_goes P E (if offers facts bit then ask_path r site else refuses_extension bit site) (done_by site) own answers
    (either (GoesSo P E) (offers facts bit) (ask_path r site) (refuses_extension bit site)
    (λ e. path_goes P E r site p b) (λ e. b)) (λ y. done_goes P E site site outcome.Done y b b)

pub path_told_goes : (P : Request → Type 0) (E : Site → Type 0) (r : Request) (site : Site) (own : Own)
    (answers : Answers) → P r
    → E site → GoesSo P E (path_told r site own answers)
path_told_goes P E r site own answers p b = once_goes P E (ask_path r site) (told_by site) own answers
    (path_goes P E r site p b) (λ y. by_attrs (GoesSo P E) y site (λ o. b))

named_goes : (P : Request → Type 0) (E : Site → Type 0) (site : Site) (y : Reply) → E site
    → GoesSo P E (named_by site y)
named_goes P E site (reply.Names []) b = b
named_goes P E site (reply.Names (entry ∷ entries)) b = b
named_goes P E site (reply.Status code message language) b = b
named_goes P E site y b = b

pub path_named_goes : (P : Request → Type 0) (E : Site → Type 0) (r : Request) (site : Site) (own : Own)
    (answers : Answers) → P r
    → E site → GoesSo P E (path_named r site own answers)
path_named_goes P E r site own answers p b = once_goes P E (ask_path r site) (named_by site) own answers
    (path_goes P E r site p b) (λ y. named_goes P E site y b)

-- ---- files in slots

pub file_goes : (P : Request → Type 0) (E : Site → Type 0) (site : Site) (slot : ℕ) (go : FileAt → Move) → E site
    → ((file : FileAt) → GoesSo P E (go file)) → GoesSo P E (on_file (slot_at site slot) site go)
file_goes P E site slot go b goes = at_file (GoesSo P E) (slot_at site slot) site go (λ o. b) (λ file at. goes file)

pub open_goes : (P : Request → Type 0) (E : Site → Type 0) (slot : ℕ) (flags : OpenFlags) (path : List ℕ) (site : Site)
    (own : Own)
    (answers : Answers) → P (open_request flags path) → IsKeptAt E slot → E site
    → GoesSo P E (by_reply (ask_path (open_request flags path) site) (opened_move slot flags site (first_place own)) own
    answers)
open_goes P E slot flags path site own answers p k b =
    once_goes P E (ask_path (open_request flags path) site) (opened_move slot flags site (first_place own)) own answers
    (path_goes P E (open_request flags path) site p b)
    (λ r. on_granted (GoesSo P E) r site _ (λ o. b) (λ handle. k site (File (opened_file flags (first_place own))) b))

pub close_goes : (P : Request → Type 0) (E : Site → Type 0) (slot : ℕ) (site : Site) (own : Own) (answers : Answers)
    (x : Slot)
    → HoldsByHandle P → IsKeptAt E slot → E site → GoesSo P E (close_slot_next slot site own answers x)
close_goes P E slot site own answers x h k b = by_slot x
  where
    emptied : E (with_slot site slot Empty)
    emptied = k site Empty b

    by_grant : (grant : ℕ) → GoesSo P E (close_grant_next grant (with_slot site slot Empty) own answers)
    by_grant grant =
        once_goes P E (if has_grant (with_slot site slot Empty) grant then
        Done outcome.Done (with_slot site slot Empty) else Ask (request.Close (handle_of (answers grant))))
        (done_by (with_slot site slot Empty)) own answers
        (either (GoesSo P E) (has_grant (with_slot site slot Empty) grant)
        (Done outcome.Done (with_slot site slot Empty)) (Ask (request.Close (handle_of (answers grant)))) (λ e. emptied)
        (λ e. h (request.Close (handle_of (answers grant))) tt))
        (λ r. done_goes P E (with_slot site slot Empty) (with_slot site slot Empty) outcome.Done r emptied emptied)

    by_slot : (y : Slot) → GoesSo P E (close_slot_next slot site own answers y)
    by_slot Empty = b
    by_slot (File file) = by_grant file.grant
    by_slot (Buffered file buffer) = by_grant file.grant

pub set_goes : (P : Request → Type 0) (E : Site → Type 0) (facts : Facts) (slot : ℕ) (attrs : FileAttrs) (site : Site)
    (own : Own)
    (answers : Answers) → HoldsByHandle P → E site → GoesSo P E (set_next slot attrs site facts own answers)
set_goes P E facts slot attrs site own answers h b = file_goes P E site slot _ b
    (λ file. once_goes P E (ask_set attrs file site answers) (done_by site) own answers
    (either (GoesSo P E) (not file.writable) (refuse_locally kind.NotWritable site)
    (Ask (request.Fsetstat (handle_of (answers file.grant)) attrs)) (λ e. b)
    (λ e. h (request.Fsetstat (handle_of (answers file.grant)) attrs) tt))
    (λ r. done_goes P E site site outcome.Done r b b))

pub meta_goes : (P : Request → Type 0) (E : Site → Type 0) (file : FileAt) (site : Site) (own : Own) (answers : Answers)
    → HoldsByHandle P → E site → GoesSo P E (by_reply (ask_meta file site answers) (told_by site) own
    answers)
meta_goes P E file site own answers h b = once_goes P E (ask_meta file site answers) (told_by site) own answers
    (either (GoesSo P E) (not file.readable) (refuse_locally kind.NotReadable site)
    (Ask (request.Fstat (handle_of (answers file.grant)))) (λ e. b)
    (λ e. h (request.Fstat (handle_of (answers file.grant))) tt))
    (λ y. by_attrs (GoesSo P E) y site (λ o. b))

pub sync_goes : (P : Request → Type 0) (E : Site → Type 0) (facts : Facts) (file : FileAt) (site : Site) (own : Own)
    (answers : Answers) → HoldsByHandle P → E site
    → GoesSo P E (by_reply (ask_sync file site facts answers) (done_by site) own answers)
sync_goes P E facts file site own answers h b = once_goes P E (ask_sync file site facts answers) (done_by site) own
    answers
    (either (GoesSo P E) (not (offers facts FSYNC)) (refuses_extension FSYNC site) _ (λ e. b)
    (λ e. either (GoesSo P E) (not file.writable) (refuse_locally kind.NotWritable site)
    (Ask (request.Fsync (handle_of (answers file.grant)))) (λ n. b)
    (λ n. h (request.Fsync (handle_of (answers file.grant))) tt)))
    (λ r. done_goes P E site site outcome.Done r b b)

pub copy_goes : (P : Request → Type 0) (E : Site → Type 0) (facts : Facts) (from to n : ℕ) (site : Site) (own : Own)
    (answers : Answers) (source target : FileAt) → HoldsByHandle P → IsKeptAt E from → IsKeptAt E to → E site
    → GoesSo P E (copy_files_next from to n site facts own answers source target)
copy_goes P E facts from to n site own answers source target h k l b =
    once_goes P E (ask_copy source target n site facts answers) _ own answers
    (either (GoesSo P E) (not (offers facts COPY_DATA)) (refuses_extension COPY_DATA site) _ (λ e. b)
    (λ e. either (GoesSo P E) (not target.writable) (refuse_locally kind.NotWritable site) _ (λ f. b)
    (λ f. either (GoesSo P E) (not source.readable) (refuse_locally kind.NotReadable site) _ (λ g. b)
    (λ g. either (GoesSo P E) (overflows source.offset n) (refuse_locally kind.OffsetOverflow site) _ (λ i. b)
    (λ i. either (GoesSo P E) (overflows target.offset n) (refuse_locally kind.OffsetOverflow site)
    (Ask (request.CopyData (handle_of (answers source.grant)) source.offset n (handle_of (answers target.grant))
    target.offset)) (λ j. b)
    (λ j. h (request.CopyData (handle_of (answers source.grant)) source.offset n (handle_of (answers target.grant))
    target.offset) tt))))))
    (λ r. done_goes P E site (site_after_copy from to source target n site) outcome.Done r b
    (l (with_slot site from (File (further source n))) (File (further target n)) (k site (File (further source n)) b)))

pub seek_goes : (P : Request → Type 0) (E : Site → Type 0) (position : SeekFrom) (offset : ℕ) (site : Site)
    (go : ℕ → Move)
    → E site → ((to : ℕ) → GoesSo P E (go to)) → GoesSo P E (on_seek position offset site go)
seek_goes P E (Start n) offset site go b goes = goes n
seek_goes P E (End n) offset site go b goes = b
seek_goes P E (Current (pos n)) offset site go b goes = either (GoesSo P E) (overflows offset n)
    (refuse_locally kind.SeekOverflow site) (go (offset + n)) (λ e. b) (λ e. goes (offset + n))
seek_goes P E (Current (negsuc n)) offset site go b goes = either (GoesSo P E) (nat_le offset n)
    (refuse_locally kind.SeekUnderflow site) (go (offset - (n + 1))) (λ e. b) (λ e. goes (offset - (n + 1)))
