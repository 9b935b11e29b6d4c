-- What a call leaves of a site, for any such property: the calls that change a buffer are left to each law.
use Rattle.std.proofs.Common.{◌==◌, [], Some, None, refl}
use Rattle.sftp_model.specs.Numbers.{HARDLINK}
use Rattle.sftp_model.specs.declared.outcome.Outcome.TheVariants as outcome
use Rattle.sftp_model.specs.declared.request.Request.TheVariants as request
use Rattle.sftp_model.specs.declared.slot.Facts.{Facts}
use Rattle.sftp_model.specs.declared.slot.Move.TheVariants.{Done}
use Rattle.sftp_model.specs.declared.slot.Slot.TheVariants.{Buffered}
use Rattle.sftp_model.specs.declared.slot.Site.{Site}
use Rattle.sftp_model.specs.Slots.{slot_at}
use Rattle.sftp_model.specs.OpenOptions.{flags_of}
use Rattle.plan_model.specs.Moves.{Answers, Own}
use Rattle.plan_model.specs.PathPlans.{from_directory}
use Rattle.plan_model.specs.FilePlans.{open_request, opened_file}
use Rattle.plan_model.specs.TransferPlans.{in_slot, joined_parts}
use Rattle.plan_model.specs.WholePlans.{nowhere, to_replace}
use Rattle.plan_model.specs.WindowPlans.{answered_prefix, outside, to_read}
use Rattle.plan_model.specs.declared.call.Call.TheVariants as call
use Rattle.plan_model.specs.declared.call.Call.{Call}
use Rattle.plan_model.specs.CallPlans.{site_after_cancel, next}
use Rattle.plan_model.specs.Ends.{EndsLeaving}
use Rattle.plan_model.proofs.MoveLaws.{either, at_buffered}
use Rattle.plan_model.proofs.LeftSites.{
  IsKept,
  path_leaves,
  path_done_leaves,
  link_leaves,
  path_told_leaves,
  path_named_leaves,
  file_leaves,
  set_file,
  open_leaves,
  close_leaves,
  set_leaves,
  meta_leaves,
  sync_leaves,
  copy_leaves,
  seek_leaves,
  was_read_leaves,
  missing_leaves,
  was_written_leaves,
  parts_leave,
  opened_leaves,
  entries_leave,
  window_leaves,
  transfer_left,
  close_left,
}

-- the calls that change a buffer
abbrev pub ChangesBuffer : Call → Type 0
ChangesBuffer (call.BufRead slot n) = Unit {0}
ChangesBuffer (call.BufWrite slot bytes) = Unit {0}
ChangesBuffer (call.BufWriteAll slot bytes) = Unit {0}
ChangesBuffer (call.BufFlush slot) = Unit {0}
ChangesBuffer (call.BufSeek slot position) = Unit {0}
ChangesBuffer other = ⊥

pub call_leaves : (P : Site → Type 0) (k : IsKept P) (c : Call) (site : Site) (facts : Facts) (own : Own)
    (answers : Answers) → P site → (ChangesBuffer c → EndsLeaving P (next c site facts own answers))
    → EndsLeaving P (next c site facts own answers)
call_leaves P k (call.OpenFile slot flags path) site facts own answers b rest =
    open_leaves P k slot (flags_of flags) path site own answers b
call_leaves P k (call.Read slot n) site facts own answers b rest =
    file_leaves P site slot _ b (λ file. was_read_leaves P k facts slot n file site own answers b)
call_leaves P k (call.ReadAll slot n) site facts own answers b rest =
    file_leaves P site slot _ b (λ file. missing_leaves P k facts slot file [] n site own answers b)
call_leaves P k (call.Write slot bytes) site facts own answers b rest =
    file_leaves P site slot _ b (λ file. was_written_leaves P k facts slot bytes file site own answers b)
call_leaves P k (call.WriteAll slot bytes) site facts own answers b rest =
    file_leaves P site slot _ b (λ file. parts_leave P facts (in_slot slot) file bytes site own answers
    (λ x f w. set_file P k x slot f w) b)
call_leaves P k (call.WriteParts slot parts) site facts own answers b rest =
    file_leaves P site slot _ b (λ file. parts_leave P facts (in_slot slot) file (joined_parts parts) site own answers
    (λ x f w. set_file P k x slot f w) b)
call_leaves P k (call.Seek slot position) site facts own answers b rest =
    file_leaves P site slot _ b (λ file. seek_leaves P position file.offset site _ b
    (λ to. set_file P k site slot (record file { offset = to }) b))
call_leaves P k (call.SetLen slot n) site facts own answers b rest = set_leaves P facts slot _ site own answers b
call_leaves P k (call.SetPerm slot mode) site facts own answers b rest = set_leaves P facts slot _ site own answers b
call_leaves P k (call.Meta slot) site facts own answers b rest =
    file_leaves P site slot _ b (λ file. meta_leaves P file site own answers b)
call_leaves P k (call.Sync slot) site facts own answers b rest =
    file_leaves P site slot _ b (λ file. sync_leaves P facts file site own answers b)
call_leaves P k (call.Copy from to n) site facts own answers b rest =
    either (EndsLeaving P) (from == to) (Done outcome.NoFile site) _ (λ e. b)
    (λ e. file_leaves P site from _ b (λ source. file_leaves P site to _ b
    (λ target. copy_leaves P k facts from to n site own answers source target b)))
call_leaves P k (call.CloneFile from to) site facts own answers b rest =
    either (EndsLeaving P) (from == to) (Done outcome.NoFile site) _ (λ e. b)
    (λ e. file_leaves P site from _ b (λ file. set_file P k site to file b))
call_leaves P k (call.Close slot) site facts own answers b rest =
    close_leaves P k slot site own answers (slot_at site slot) b
call_leaves P k (call.Buffer slot len) site facts own answers b rest =
    file_leaves P site slot _ b (λ file. k.set site slot (Buffered file
    (record { len = len; bytes = []; deferred = []; reading = None })) (refl, refl) b)
call_leaves P k (call.Unbuffer slot) site facts own answers b rest =
    at_buffered (EndsLeaving P) (slot_at site slot) site _ (λ o. b) (λ file buffer at. set_file P k site slot file b)
call_leaves P k (call.BufRead slot n) site facts own answers b rest = rest tt
call_leaves P k (call.BufWrite slot bytes) site facts own answers b rest = rest tt
call_leaves P k (call.BufWriteAll slot bytes) site facts own answers b rest = rest tt
call_leaves P k (call.BufFlush slot) site facts own answers b rest = rest tt
call_leaves P k (call.BufSeek slot position) site facts own answers b rest = rest tt
call_leaves P k (call.FsRead path bound) site facts own answers b rest =
    opened_leaves P _ site _ own answers b (path_leaves P (open_request to_read (from_directory site path)) site b)
    (λ place handle later. window_leaves P facts handle (Some bound) later (answered_prefix later answers)
    (outside later answers) site b)
call_leaves P k (call.FsWrite path bytes) site facts own answers b rest =
    opened_leaves P _ site _ own answers b (path_leaves P (open_request to_replace (from_directory site path)) site b)
    (λ place handle later. parts_leave P facts nowhere (opened_file to_replace place) bytes site later answers
    (λ x f w. w) b)
call_leaves P k (call.List path bound) site facts own answers b rest =
    opened_leaves P _ site _ own answers b (path_leaves P (request.Opendir (from_directory site path)) site b)
    (λ place handle later. entries_leave P handle [] bound site later answers b)
call_leaves P k (call.Stat path) site facts own answers b rest = path_told_leaves P _ site own answers b
call_leaves P k (call.Lstat path) site facts own answers b rest = path_told_leaves P _ site own answers b
call_leaves P k (call.SetStat path size mode) site facts own answers b rest = path_done_leaves P _ site own answers b
call_leaves P k (call.Remove path) site facts own answers b rest = path_done_leaves P _ site own answers b
call_leaves P k (call.Mkdir path) site facts own answers b rest = path_done_leaves P _ site own answers b
call_leaves P k (call.Rmdir path) site facts own answers b rest = path_done_leaves P _ site own answers b
call_leaves P k (call.Rename old to) site facts own answers b rest = path_done_leaves P _ site own answers b
call_leaves P k (call.HardLink old to) site facts own answers b rest = link_leaves P facts HARDLINK _ site own answers b
call_leaves P k (call.Symlink src dst) site facts own answers b rest = path_done_leaves P _ site own answers b
call_leaves P k (call.ReadLink path) site facts own answers b rest = path_named_leaves P _ site own answers b
call_leaves P k (call.Canonicalize path) site facts own answers b rest = path_named_leaves P _ site own answers b
call_leaves P k (call.Cwd path) site facts own answers b rest = k.moved site path b

pub cancelled_leaves : (P : Site → Type 0) (k : IsKept P) (c : Call) (site : Site) (facts : Facts) (own : Own)
    (answers : Answers) → P site → (ChangesBuffer c → P (site_after_cancel c site facts own answers))
    → P (site_after_cancel c site facts own answers)
cancelled_leaves P k (call.ReadAll slot n) site facts own answers b rest =
    transfer_left P k slot site facts own answers b
cancelled_leaves P k (call.WriteAll slot bytes) site facts own answers b rest =
    transfer_left P k slot site facts own answers b
cancelled_leaves P k (call.WriteParts slot parts) site facts own answers b rest =
    transfer_left P k slot site facts own answers b
cancelled_leaves P k (call.Close slot) site facts own answers b rest = close_left P k slot site facts own answers b
cancelled_leaves P k (call.BufRead slot n) site facts own answers b rest = rest tt
cancelled_leaves P k (call.BufWrite slot bytes) site facts own answers b rest = rest tt
cancelled_leaves P k (call.BufWriteAll slot bytes) site facts own answers b rest = rest tt
cancelled_leaves P k (call.BufFlush slot) site facts own answers b rest = rest tt
cancelled_leaves P k other site facts own answers b rest = b
