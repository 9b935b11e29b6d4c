-- How many requests each call makes at most. So the number that is left falls with each request.
use Rattle.std.proofs.Common.{◌≡◌, ◌+◌, ◌-◌, ◌==◌, ℕ, List, [], ◌∷◌, Option, Some, None, refl, arith}
use Rattle.std.specs.Prelude.{length, not, pos, negsuc, nat_le}
use Rattle.std.specs.declared.io.traits.SeekFrom.{SeekFrom}
use Rattle.std.specs.declared.io.traits.SeekFrom.TheVariants.{Start, End, Current}
use Rattle.sftp_model.specs.declared.file_attrs.FileAttrs.{FileAttrs}
use Rattle.sftp_model.specs.declared.flags.OpenFlags.{OpenFlags}
use Rattle.sftp_model.specs.declared.outcome.Outcome.{Outcome}
use Rattle.sftp_model.specs.declared.outcome.Outcome.TheVariants as outcome
use Rattle.sftp_model.specs.declared.error.IoKind.TheVariants as kind
use Rattle.sftp_model.specs.declared.reply.Reply.{Reply}
use Rattle.sftp_model.specs.declared.reply.Reply.TheVariants as reply
use Rattle.sftp_model.specs.declared.request.Request.{Request}
use Rattle.sftp_model.specs.declared.slot.Facts.{Facts}
use Rattle.sftp_model.specs.declared.slot.Move.{Move}
use Rattle.sftp_model.specs.declared.slot.Move.TheVariants.{Done}
use Rattle.sftp_model.specs.declared.slot.FileAt.{FileAt}
use Rattle.sftp_model.specs.declared.slot.Buffer.{Buffer}
use Rattle.sftp_model.specs.declared.slot.Slot.{Slot}
use Rattle.sftp_model.specs.declared.slot.Site.{Site}
use Rattle.sftp_model.specs.declared.slot.Slot.TheVariants.{Empty, File, Buffered}
use Rattle.sftp_model.specs.Slots.{slot_at, with_slot}
use Rattle.sftp_model.specs.OpenOptions.{flags_of}
use Rattle.plan_model.specs.Moves.{Answers, Own, refuse_locally, on_status, on_file, on_buffered}
use Rattle.plan_model.specs.PathPlans.{path_done, path_told, path_named, named_by}
use Rattle.plan_model.specs.FilePlans.{opened_move, opened_file, first_place, set_next, close_slot_next, on_seek}
use Rattle.plan_model.specs.TransferPlans.{joined_parts}
use Rattle.plan_model.specs.BufferPlans.{was_filled, fill_next, from_buffer, with_deferred, send_next, flush_next, ask_deferred}
use Rattle.plan_model.specs.WholePlans.{nowhere, to_replace}
use Rattle.plan_model.specs.declared.call.Call.TheVariants as call
use Rattle.plan_model.specs.declared.call.Call.{Call}
use Rattle.plan_model.specs.CallPlans.{next}
use Rattle.plan_model.proofs.MoveLaws.{either, by_status, by_content, by_attrs, at_file, at_buffered}
use Rattle.plan_model.specs.GoodMoves.{FitsFacts}
use Rattle.plan_model.specs.OwnRequests.{MayBeAnswered}
use Rattle.plan_model.specs.RequestCounts.{AsksBelow, BuffersWithin, work}
use Rattle.plan_model.proofs.CountLaws.{fresh, answered_in, once_at_most, read_all_within, write_all_within, rest_within, opened_within, entries_within}
use Rattle.plan_model.proofs.BufferCounts.{capacity_any, buf_write_all_within}

-- ---- one request, or none

reply_done : (made : ℕ) (site left : Site) (o : Outcome) (r : Reply) → AsksBelow made 1 (on_status r site (Done o left))
reply_done made site left o r = by_status (AsksBelow made 1) r site (Done o left) (λ x. tt) tt

path_once : (r : Request) (site : Site) (own : Own) (answers : Answers)
    → AsksBelow (length own) 1 (path_done r site own answers)
path_once r site own answers = once_at_most _ _ own answers (reply_done (length own) site site outcome.Done)

told_once : (r : Request) (site : Site) (own : Own) (answers : Answers)
    → AsksBelow (length own) 1 (path_told r site own answers)
told_once r site own answers = once_at_most _ _ own answers (λ y. by_attrs (AsksBelow (length own) 1) y site (λ o. tt))

named : (made : ℕ) (site : Site) (y : Reply) → AsksBelow made 1 (named_by site y)
named made site (reply.Names []) = tt
named made site (reply.Names (entry ∷ entries)) = tt
named made site (reply.Status code message language) = tt
named made site y = tt

named_once : (r : Request) (site : Site) (own : Own) (answers : Answers)
    → AsksBelow (length own) 1 (path_named r site own answers)
named_once r site own answers = once_at_most _ _ own answers (named (length own) site)

opened_ends : (made slot : ℕ) (flags : OpenFlags) (site : Site) (place : ℕ) (r : Reply)
    → AsksBelow made 1 (opened_move slot flags site place r)
opened_ends made slot flags site place (reply.Handle handle) = tt
opened_ends made slot flags site place (reply.Status code message language) = tt
opened_ends made slot flags site place r = tt

on_file_once : (site : Site) (slot : ℕ) (own : Own) (most : ℕ) (go : FileAt → Move)
    → ((file : FileAt) → AsksBelow (length own) most (go file))
    → AsksBelow (length own) most (on_file (slot_at site slot) site go)
on_file_once site slot own most go goes = at_file (AsksBelow (length own) most) (slot_at site slot) site go (λ o. tt)
    (λ file at. goes file)

on_buffered_once : (site : Site) (slot : ℕ) (own : Own) (most : ℕ) (go : FileAt → Buffer → Move)
    → ((file : FileAt) (buffer : Buffer) → AsksBelow (length own) most (go file buffer))
    → AsksBelow (length own) most (on_buffered (slot_at site slot) site go)
on_buffered_once site slot own most go goes = at_buffered (AsksBelow (length own) most) (slot_at site slot) site go
    (λ o. tt) (λ file buffer at. goes file buffer)

set_once : (slot : ℕ) (attrs : FileAttrs) (site : Site) (facts : Facts) (own : Own) (answers : Answers)
    → AsksBelow (length own) 1 (set_next slot attrs site facts own answers)
set_once slot attrs site facts own answers = on_file_once site slot own 1 _
    (λ file. once_at_most _ _ own answers (reply_done (length own) site site outcome.Done))

close_once : (slot : ℕ) (site : Site) (own : Own) (answers : Answers) (x : Slot)
    → AsksBelow (length own) 1 (close_slot_next slot site own answers x)
close_once slot site own answers Empty = tt
close_once slot site own answers (File file) = once_at_most _ _ own answers
    (reply_done (length own) (with_slot site slot Empty) (with_slot site slot Empty) outcome.Done)
close_once slot site own answers (Buffered file buffer) = once_at_most _ _ own answers
    (reply_done (length own) (with_slot site slot Empty) (with_slot site slot Empty) outcome.Done)

seeks : (made : ℕ) (position : SeekFrom) (offset : ℕ) (site : Site) (go : ℕ → Move)
    → ((to : ℕ) → AsksBelow made 0 (go to)) → AsksBelow made 0 (on_seek position offset site go)
seeks made (Start n) offset site go goes = goes n
seeks made (End n) offset site go goes = tt
seeks made (Current (pos n)) offset site go goes = either (AsksBelow made 0) _ (refuse_locally kind.SeekOverflow site)
    (go (offset + n)) (λ e. tt) (λ e. goes (offset + n))
seeks made (Current (negsuc n)) offset site go goes = either (AsksBelow made 0) (nat_le offset n)
    (refuse_locally kind.SeekUnderflow site) (go (offset - (n + 1))) (λ e. tt) (λ e. goes (offset - (n + 1)))

-- ---- buffered files

filled : (made slot n : ℕ) (file : FileAt) (buffer : Buffer) (site : Site) (r : Reply)
    → AsksBelow made 1 (was_filled slot n file buffer site r)
filled made slot n file buffer site r = by_content (AsksBelow made 1) r _ _ _ (λ o. tt) tt (λ bytes. tt)

fill_once : (slot n : ℕ) (file : FileAt) (buffer : Buffer) (site : Site) (facts : Facts) (reading : Option ℕ)
    (own : Own) (answers : Answers) → AsksBelow (length own) 1
    (fill_next slot n file buffer site facts reading own answers)
fill_once slot n file buffer site facts (Some place) own answers =
    answered_in (AsksBelow (length own) 1) answers place (answers place) _ refl tt
    (λ r is. filled (length own) slot n file buffer site r)
fill_once slot n file buffer site facts None own answers = once_at_most _ _ own answers
    (filled (length own) slot n file buffer site)

from_once : (slot n : ℕ) (file : FileAt) (buffer : Buffer) (site : Site) (facts : Facts) (bytes : List ℕ) (own : Own)
    (answers : Answers) → AsksBelow (length own) 1 (from_buffer slot n file buffer site facts bytes own answers)
from_once slot n file buffer site facts [] own answers = fill_once slot n file buffer site facts buffer.reading own
    answers
from_once slot n file buffer site facts (b ∷ bytes) own answers = tt

send_once : (slot : ℕ) (file : FileAt) (bytes : List ℕ) (facts : Facts) (own : Own) (answers : Answers)
    (buffer : Buffer) (site : Site) → AsksBelow (length own) 1 (send_next slot file bytes facts own answers buffer site)
send_once slot file bytes facts [] answers buffer site = fresh 1 (ask_deferred file bytes facts answers buffer site)
    (omega arith)
send_once slot file bytes facts (asked ∷ later) answers buffer site = tt

flush_never : (made slot : ℕ) (file : FileAt) (buffer : Buffer) (site : Site) (answers : Answers)
    (writes : List (ℕ × ℕ)) → AsksBelow made 0 (flush_next slot file buffer site answers writes)
flush_never made slot file buffer site answers [] = tt
flush_never made slot file buffer site answers (write ∷ writes) =
    answered_in (AsksBelow made 0) answers write.0 (answers write.0) _ refl tt (λ r is.
    by_status (AsksBelow made 0) r (with_deferred slot file buffer site writes) _ (λ o. tt)
    (flush_never made slot file buffer (with_deferred slot file buffer site writes) answers writes))

-- ---- all calls

-- what the law asks of a call and of its replies; of a whole read it is the law itself
pub record Working (c : Call) (site : Site) (facts : Facts) (own : Own) (answers : Answers) : Type 0 where
  pub fits : FitsFacts facts
  pub may : MayBeAnswered own answers
  pub limits : BuffersWithin facts site
  pub whole : (path : List ℕ) (bound : ℕ) → c ≡ call.FsRead path bound
      → AsksBelow (length own) (bound + facts.read_window) (next c site facts own answers)

pub next_within : (c : Call) (site : Site) (facts : Facts) (own : Own) (answers : Answers)
    → Working c site facts own answers → AsksBelow (length own) (work c facts) (next c site facts own answers)
next_within (call.OpenFile slot flags path) site facts own answers w =
    once_at_most _ _ own answers (opened_ends (length own) slot (flags_of flags) site (first_place own))
next_within (call.Read slot n) site facts own answers w = on_file_once site slot own 1 _
    (λ file. once_at_most _ _ own answers (λ r. by_content (AsksBelow (length own) 1) r site _ _ (λ o. tt) tt
    (λ bytes. tt)))
next_within (call.ReadAll slot n) site facts own answers w = read_all_within slot n site facts own answers w.may
next_within (call.Write slot bytes) site facts own answers w =
    on_file_once site slot own 1 _ (λ file. once_at_most _ _ own answers
    (λ r. by_status (AsksBelow (length own) 1) r site _ (λ o. tt) tt))
next_within (call.WriteAll slot bytes) site facts own answers w =
    write_all_within slot bytes site facts own answers w.fits.write_len.0
next_within (call.WriteParts slot parts) site facts own answers w =
    write_all_within slot (joined_parts parts) site facts own answers w.fits.write_len.0
next_within (call.Seek slot position) site facts own answers w =
    on_file_once site slot own 0 _ (λ file. seeks (length own) position file.offset site _ (λ to. tt))
next_within (call.SetLen slot n) site facts own answers w = set_once slot _ site facts own answers
next_within (call.SetPerm slot mode) site facts own answers w = set_once slot _ site facts own answers
next_within (call.Meta slot) site facts own answers w = on_file_once site slot own 1 _
    (λ file. once_at_most _ _ own answers (λ y. by_attrs (AsksBelow (length own) 1) y site (λ o. tt)))
next_within (call.Sync slot) site facts own answers w = on_file_once site slot own 1 _
    (λ file. once_at_most _ _ own answers (reply_done (length own) site site outcome.Done))
next_within (call.Copy from to n) site facts own answers w =
    either (AsksBelow (length own) 1) (from == to) (Done outcome.NoFile site) _ (λ e. tt)
    (λ e. on_file_once site from own 1 _ (λ source. on_file_once site to own 1 _
    (λ target. once_at_most _ _ own answers (λ r. by_status (AsksBelow (length own) 1) r site _ (λ o. tt) tt))))
next_within (call.CloneFile from to) site facts own answers w =
    either (AsksBelow (length own) 0) (from == to) (Done outcome.NoFile site) _ (λ e. tt)
    (λ e. on_file_once site from own 0 _ (λ file. tt))
next_within (call.Close slot) site facts own answers w = close_once slot site own answers (slot_at site slot)
next_within (call.Buffer slot len) site facts own answers w = on_file_once site slot own 0 _ (λ file. tt)
next_within (call.Unbuffer slot) site facts own answers w = on_buffered_once site slot own 0 _ (λ file buffer. tt)
next_within (call.BufRead slot n) site facts own answers w = on_buffered_once site slot own 1 _ (λ file buffer.
    either (AsksBelow (length own) 1) (not file.readable) (refuse_locally kind.NotReadable site) _ (λ e. tt)
    (λ e. either (AsksBelow (length own) 1) (n == 0) (Done (outcome.Bytes []) site)
    (from_buffer slot n file buffer site facts buffer.bytes own answers) (λ z. tt)
    (λ z. from_once slot n file buffer site facts buffer.bytes own answers)))
next_within (call.BufWrite slot bytes) site facts own answers w = on_buffered_once site slot own 1 _ (λ file buffer.
    either (AsksBelow (length own) 1) (not file.writable) (refuse_locally kind.NotWritable site) _ (λ e. tt)
    (λ e. either (AsksBelow (length own) 1) (length bytes == 0) (Done (outcome.Count 0) site) _ (λ z. tt)
    (λ z. capacity_any (length own) 1 slot file buffer site facts answers _
    (send_once slot file bytes facts own answers))))
next_within (call.BufWriteAll slot bytes) site facts own answers w =
    buf_write_all_within slot bytes site facts own answers w.fits.write_len.0 w.fits.write_limit (w.limits slot)
next_within (call.BufFlush slot) site facts own answers w = on_buffered_once site slot own 0 _ (λ file buffer.
    either (AsksBelow (length own) 0) (not file.writable) (refuse_locally kind.NotWritable site) _ (λ e. tt)
    (λ e. flush_never (length own) slot file buffer site answers buffer.deferred))
next_within (call.BufSeek slot position) site facts own answers w =
    on_buffered_once site slot own 0 _ (λ file buffer. seeks (length own) position file.offset site _ (λ to. tt))
next_within (call.FsRead path bound) site facts own answers w = w.whole path bound refl
next_within (call.FsWrite path bytes) site facts own answers w =
    opened_within (length bytes) _ site _ own answers (λ place handle later. rest_within nowhere
    (opened_file to_replace place) bytes site facts later answers w.fits.write_len.0)
next_within (call.List path bound) site facts own answers w =
    opened_within bound _ site _ own answers (λ place handle later. entries_within handle [] bound site later answers)
next_within (call.Stat path) site facts own answers w = told_once _ site own answers
next_within (call.Lstat path) site facts own answers w = told_once _ site own answers
next_within (call.SetStat path size mode) site facts own answers w = path_once _ site own answers
next_within (call.Remove path) site facts own answers w = path_once _ site own answers
next_within (call.Mkdir path) site facts own answers w = path_once _ site own answers
next_within (call.Rmdir path) site facts own answers w = path_once _ site own answers
next_within (call.Rename old to) site facts own answers w = path_once _ site own answers
next_within (call.HardLink old to) site facts own answers w =
    once_at_most _ _ own answers (reply_done (length own) site site outcome.Done)
next_within (call.Symlink src dst) site facts own answers w = path_once _ site own answers
next_within (call.ReadLink path) site facts own answers w = named_once _ site own answers
next_within (call.Canonicalize path) site facts own answers w = named_once _ site own answers
next_within (call.Cwd path) site facts own answers w = tt
