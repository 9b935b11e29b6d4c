-- What the calls of a lane ask: a call on a path its own request of the path, and else requests by handles; and what
-- they leave, for any property of sites that is kept where the slots are set that a call doesn't leave as they are.
use Rattle.std.proofs.Common.{◌≡◌, ◌==◌, ℕ, Bool, true, false, List, [], ◌∷◌, Some, refl}
use Rattle.std.specs.Prelude.{◌&&◌, not}
use Rattle.std.proofs.lemmas.Bool.{eq-eqb}
use Rattle.sftp_model.specs.Numbers.{HARDLINK}
use Rattle.sftp_model.specs.Slots.{slot_at}
use Rattle.sftp_model.specs.declared.error.IoKind.TheVariants as kind
use Rattle.sftp_model.specs.declared.outcome.Outcome.TheVariants as outcome
use Rattle.sftp_model.specs.declared.request.Request.{Request}
use Rattle.sftp_model.specs.declared.request.Request.TheVariants as request
use Rattle.sftp_model.specs.declared.slot.Facts.{Facts}
use Rattle.sftp_model.specs.declared.slot.Move.TheVariants.{Done}
use Rattle.sftp_model.specs.declared.slot.Site.{Site}
use Rattle.sftp_model.specs.declared.slot.Slot.TheVariants.{Empty, File}
use Rattle.sftp_model.specs.OpenOptions.{flags_of}
use Rattle.plan_model.specs.declared.call.Call.TheVariants as call
use Rattle.plan_model.specs.BufferPlans.{sought_slot}
use Rattle.plan_model.specs.FilePlans.{open_request, opened_file}
use Rattle.plan_model.specs.Moves.{Answers, Own, refuse_locally}
use Rattle.plan_model.specs.PathPlans.{canonical_request, from_directory, rename_request, set_attributes}
use Rattle.sftp_model.specs.Frames.{no_attributes}
use Rattle.plan_model.specs.TransferPlans.{in_slot, joined_parts}
use Rattle.plan_model.specs.WholePlans.{nowhere, to_replace}
use Rattle.plan_model.specs.WindowPlans.{answered_prefix, outside, to_read}
use Rattle.plan_model.proofs.LeftSites.{on_buffer_left, on_file_left}
use Rattle.plan_model.proofs.MoveLaws.{either}
use Rattle.plan_model.specs.declared.call.Call.{Call}
use Rattle.plan_model.specs.CallPlans.{site_after_cancel, next}
use Rattle.run_laws.specs.SlotCalls.{leaves_slot}
use Rattle.run_laws.proofs.PartMoves.{
  HoldsByHandle,
  GoesSo,
  IsKeptAt,
  path_goes,
  path_done_goes,
  link_goes,
  path_told_goes,
  path_named_goes,
  file_goes,
  open_goes,
  close_goes,
  set_goes,
  meta_goes,
  sync_goes,
  copy_goes,
  seek_goes,
}
use Rattle.run_laws.proofs.ContentMoves.{
  was_read_goes,
  missing_goes,
  was_written_goes,
  parts_go,
  opened_goes,
  entries_go,
  window_goes,
  buffered_goes,
  buf_read_goes,
  buf_write_goes,
  rest_goes,
  flush_goes,
}

-- ---- calls on paths, but for whole files

-- so are the requests of a call on paths that uses no slot, and is no whole read or write
abbrev pub AsksByPath : (Request → Type 0) → Site → Facts → Call → Type 0
AsksByPath P site facts (call.List path bound) = P (request.Opendir (from_directory site path))
    × ((handle : List ℕ) → P (request.Readdir handle))
AsksByPath P site facts (call.Stat path) = P (request.Stat (from_directory site path))
AsksByPath P site facts (call.Lstat path) = P (request.Lstat (from_directory site path))
AsksByPath P site facts (call.SetStat path size mode) = P (request.Setstat (from_directory site path)
    (set_attributes size mode))
AsksByPath P site facts (call.Remove path) = P (request.Remove (from_directory site path))
AsksByPath P site facts (call.Mkdir path) = P (request.Mkdir (from_directory site path) no_attributes)
AsksByPath P site facts (call.Rmdir path) = P (request.Rmdir (from_directory site path))
AsksByPath P site facts (call.Rename old to) = P (rename_request facts (from_directory site old)
    (from_directory site to))
AsksByPath P site facts (call.HardLink old to) = P (request.Hardlink (from_directory site old) (from_directory site to))
AsksByPath P site facts (call.Symlink src dst) = P (request.Symlink (from_directory site src) (from_directory site dst))
AsksByPath P site facts (call.ReadLink path) = P (request.Readlink (from_directory site path))
AsksByPath P site facts (call.Canonicalize path) = P (canonical_request facts (from_directory site path))
AsksByPath P site facts other = ⊥

-- each move of such a call goes so
pub path_call_goes : (P : Request → Type 0) (E : Site → Type 0) (c : Call) (site : Site) (facts : Facts) (own : Own)
    (answers : Answers) → AsksByPath P site facts c → E site → GoesSo P E (next c site facts own answers)
path_call_goes P E (call.List path bound) site facts own answers p b =
    opened_goes P E _ site _ own answers b (path_goes P E (request.Opendir (from_directory site path)) site p.0 b)
    (λ place handle later. entries_go P E handle [] bound site later answers (p.1 handle) b)
path_call_goes P E (call.Stat path) site facts own answers p b = path_told_goes P E _ site own answers p b
path_call_goes P E (call.Lstat path) site facts own answers p b = path_told_goes P E _ site own answers p b
path_call_goes P E (call.SetStat path size mode) site facts own answers p b = path_done_goes P E _ site own answers p b
path_call_goes P E (call.Remove path) site facts own answers p b = path_done_goes P E _ site own answers p b
path_call_goes P E (call.Mkdir path) site facts own answers p b = path_done_goes P E _ site own answers p b
path_call_goes P E (call.Rmdir path) site facts own answers p b = path_done_goes P E _ site own answers p b
path_call_goes P E (call.Rename old to) site facts own answers p b = path_done_goes P E _ site own answers p b
path_call_goes P E (call.HardLink old to) site facts own answers p b =
    link_goes P E facts HARDLINK _ site own answers p b
path_call_goes P E (call.Symlink src dst) site facts own answers p b = path_done_goes P E _ site own answers p b
path_call_goes P E (call.ReadLink path) site facts own answers p b = path_named_goes P E _ site own answers p b
path_call_goes P E (call.Canonicalize path) site facts own answers p b = path_named_goes P E _ site own answers p b
path_call_goes P E other site facts own answers p b = absurd p

-- ---- all calls

-- so is the request of the call's own path, where it has one, or are all of its requests; a change of directory is none
-- of these calls
abbrev pub AsksPath : (Request → Type 0) → Site → Facts → Call → Type 0
AsksPath P site facts (call.OpenFile slot flags path) = P (open_request (flags_of flags) path)
AsksPath P site facts (call.FsRead path bound) = P (open_request to_read (from_directory site path))
AsksPath P site facts (call.FsWrite path bytes) = P (open_request to_replace (from_directory site path))
AsksPath P site facts (call.List path bound) = AsksByPath P site facts (call.List path bound)
AsksPath P site facts (call.Stat path) = AsksByPath P site facts (call.Stat path)
AsksPath P site facts (call.Lstat path) = AsksByPath P site facts (call.Lstat path)
AsksPath P site facts (call.SetStat path size mode) = AsksByPath P site facts (call.SetStat path size mode)
AsksPath P site facts (call.Remove path) = AsksByPath P site facts (call.Remove path)
AsksPath P site facts (call.Mkdir path) = AsksByPath P site facts (call.Mkdir path)
AsksPath P site facts (call.Rmdir path) = AsksByPath P site facts (call.Rmdir path)
AsksPath P site facts (call.Rename old to) = AsksByPath P site facts (call.Rename old to)
AsksPath P site facts (call.HardLink old to) = AsksByPath P site facts (call.HardLink old to)
AsksPath P site facts (call.Symlink src dst) = AsksByPath P site facts (call.Symlink src dst)
AsksPath P site facts (call.ReadLink path) = AsksByPath P site facts (call.ReadLink path)
AsksPath P site facts (call.Canonicalize path) = AsksByPath P site facts (call.Canonicalize path)
AsksPath P site facts (call.Cwd path) = ⊥
AsksPath P site facts by_slot = Unit {0}

-- what holds of a site is kept where a slot is set that the call doesn't leave as it is
abbrev pub IsKeptBy : (Site → Type 0) → Call → Type 0
IsKeptBy E c = (slot : ℕ) → leaves_slot slot c ≡ false → IsKeptAt E slot

-- a call on one slot doesn't leave it
itself : (n : ℕ) → not (n == n) ≡ false
itself n = rw (eq-eqb n n refl) refl

first_of : (n m : ℕ) → (not (n == n) && not (m == n)) ≡ false
first_of n m = rw (eq-eqb n n refl) refl

second_of : (n m : ℕ) → (not (n == m) && not (m == m)) ≡ false
second_of n m = rw (eq-eqb m m refl) (by_test (not (n == m)))
  where
    by_test : (t : Bool) → (t && false) ≡ false
    by_test true = refl
    by_test false = refl

-- each move of such a call goes so
pub call_goes : (P : Request → Type 0) (E : Site → Type 0) (c : Call) (site : Site) (facts : Facts) (own : Own)
    (answers : Answers) → HoldsByHandle P → AsksPath P site facts c → IsKeptBy E c → E site
    → GoesSo P E (next c site facts own answers)
call_goes P E (call.OpenFile slot flags path) site facts own answers h p k b =
    open_goes P E slot (flags_of flags) path site own answers p (k slot (itself slot)) b
call_goes P E (call.Read slot n) site facts own answers h p k b = file_goes P E site slot _ b
    (λ file. was_read_goes P E facts slot n file site own answers h (k slot (itself slot)) b)
call_goes P E (call.ReadAll slot n) site facts own answers h p k b =
    file_goes P E site slot _ b
    (λ file. missing_goes P E facts slot file [] n site own answers h (k slot (itself slot)) b)
call_goes P E (call.Write slot bytes) site facts own answers h p k b =
    file_goes P E site slot _ b
    (λ file. was_written_goes P E facts slot bytes file site own answers h (k slot (itself slot)) b)
call_goes P E (call.WriteAll slot bytes) site facts own answers h p k b =
    file_goes P E site slot _ b (λ file. parts_go P E facts (in_slot slot) file bytes site own answers h
    (λ f x l. k slot (itself slot) x (File f) l) b)
call_goes P E (call.WriteParts slot parts) site facts own answers h p k b =
    file_goes P E site slot _ b (λ file. parts_go P E facts (in_slot slot) file (joined_parts parts) site own answers h
    (λ f x l. k slot (itself slot) x (File f) l) b)
call_goes P E (call.Seek slot position) site facts own answers h p k b =
    file_goes P E site slot _ b (λ file. seek_goes P E position file.offset site _ b
    (λ to. k slot (itself slot) site (File (record file { offset = to })) b))
call_goes P E (call.SetLen slot n) site facts own answers h p k b = set_goes P E facts slot _ site own answers h b
call_goes P E (call.SetPerm slot mode) site facts own answers h p k b = set_goes P E facts slot _ site own answers h b
call_goes P E (call.Meta slot) site facts own answers h p k b = file_goes P E site slot _ b
    (λ file. meta_goes P E file site own answers h b)
call_goes P E (call.Sync slot) site facts own answers h p k b = file_goes P E site slot _ b
    (λ file. sync_goes P E facts file site own answers h b)
call_goes P E (call.Copy from to n) site facts own answers h p k b =
    either (GoesSo P E) (from == to) (Done outcome.NoFile site) _ (λ e. b)
    (λ e. file_goes P E site from _ b (λ source. file_goes P E site to _ b
    (λ target. copy_goes P E facts from to n site own answers source target h (k from (first_of from to))
    (k to (second_of from to)) b)))
call_goes P E (call.CloneFile from to) site facts own answers h p k b =
    either (GoesSo P E) (from == to) (Done outcome.NoFile site) _ (λ e. b)
    (λ e. file_goes P E site from _ b (λ file. k to (itself to) site (File file) b))
call_goes P E (call.Close slot) site facts own answers h p k b =
    close_goes P E slot site own answers (slot_at site slot) h (k slot (itself slot)) b
call_goes P E (call.Buffer slot len) site facts own answers h p k b =
    file_goes P E site slot _ b (λ file. k slot (itself slot) site _ b)
call_goes P E (call.Unbuffer slot) site facts own answers h p k b =
    buffered_goes P E site slot _ b (λ file buffer. k slot (itself slot) site (File file) b)
call_goes P E (call.BufRead slot n) site facts own answers h p k b =
    buffered_goes P E site slot _ b (λ file buffer. buf_read_goes P E facts slot n file buffer site own answers h
    (k slot (itself slot)) b)
call_goes P E (call.BufWrite slot bytes) site facts own answers h p k b =
    buf_write_goes P E facts slot bytes site own answers h (k slot (itself slot)) b
call_goes P E (call.BufWriteAll slot bytes) site facts own answers h p k b =
    buffered_goes P E site slot _ b (λ file buffer. rest_goes P E facts slot bytes file buffer site own answers h
    (k slot (itself slot)) b)
call_goes P E (call.BufFlush slot) site facts own answers h p k b = buffered_goes P E site slot _ b (λ file buffer.
    either (GoesSo P E) (not file.writable) (refuse_locally kind.NotWritable site) _ (λ e. b)
    (λ e. flush_goes P E slot file buffer site answers buffer.deferred (k slot (itself slot)) b))
call_goes P E (call.BufSeek slot position) site facts own answers h p k b =
    buffered_goes P E site slot _ b (λ file buffer. seek_goes P E position file.offset site _ b
    (λ to. k slot (itself slot) site (sought_slot file to buffer) b))
call_goes P E (call.FsRead path bound) site facts own answers h p k b =
    opened_goes P E _ site _ own answers b (path_goes P E (open_request to_read (from_directory site path)) site p b)
    (λ place handle later. window_goes P E facts handle (Some bound) later (answered_prefix later answers)
    (outside later answers) site h b)
call_goes P E (call.FsWrite path bytes) site facts own answers h p k b =
    opened_goes P E _ site _ own answers b (path_goes P E (open_request to_replace (from_directory site path)) site p b)
    (λ place handle later. parts_go P E facts nowhere (opened_file to_replace place) bytes site later answers h
    (λ f x l. l) b)
call_goes P E (call.List path bound) site facts own answers h p k b =
    path_call_goes P E (call.List path bound) site facts own answers p b
call_goes P E (call.Stat path) site facts own answers h p k b =
    path_call_goes P E (call.Stat path) site facts own answers p b
call_goes P E (call.Lstat path) site facts own answers h p k b =
    path_call_goes P E (call.Lstat path) site facts own answers p b
call_goes P E (call.SetStat path size mode) site facts own answers h p k b =
    path_call_goes P E (call.SetStat path size mode) site facts own answers p b
call_goes P E (call.Remove path) site facts own answers h p k b =
    path_call_goes P E (call.Remove path) site facts own answers p b
call_goes P E (call.Mkdir path) site facts own answers h p k b =
    path_call_goes P E (call.Mkdir path) site facts own answers p b
call_goes P E (call.Rmdir path) site facts own answers h p k b =
    path_call_goes P E (call.Rmdir path) site facts own answers p b
call_goes P E (call.Rename old to) site facts own answers h p k b =
    path_call_goes P E (call.Rename old to) site facts own answers p b
call_goes P E (call.HardLink old to) site facts own answers h p k b =
    path_call_goes P E (call.HardLink old to) site facts own answers p b
call_goes P E (call.Symlink src dst) site facts own answers h p k b =
    path_call_goes P E (call.Symlink src dst) site facts own answers p b
call_goes P E (call.ReadLink path) site facts own answers h p k b =
    path_call_goes P E (call.ReadLink path) site facts own answers p b
call_goes P E (call.Canonicalize path) site facts own answers h p k b =
    path_call_goes P E (call.Canonicalize path) site facts own answers p b
call_goes P E (call.Cwd path) site facts own answers h p k b = absurd p

-- ---- cancelled calls

-- what a cancelled call leaves is so
pub cancelled_goes : (E : Site → Type 0) (c : Call) (site : Site) (facts : Facts) (own : Own) (answers : Answers)
    → IsKeptBy E c → E site → E (site_after_cancel c site facts own answers)
cancelled_goes E (call.ReadAll slot n) site facts own answers k b =
    on_file_left E site (slot_at site slot) _ b (λ file. k slot (itself slot) site _ b)
cancelled_goes E (call.WriteAll slot bytes) site facts own answers k b =
    on_file_left E site (slot_at site slot) _ b (λ file. k slot (itself slot) site _ b)
cancelled_goes E (call.WriteParts slot parts) site facts own answers k b =
    on_file_left E site (slot_at site slot) _ b (λ file. k slot (itself slot) site _ b)
cancelled_goes E (call.Close slot) site facts [] answers k b = b
cancelled_goes E (call.Close slot) site facts (asked ∷ later) answers k b = k slot (itself slot) site Empty b
cancelled_goes E (call.BufRead slot n) site facts [] answers k b = b
cancelled_goes E (call.BufRead slot n) site facts (asked ∷ later) answers k b =
    on_buffer_left E site (slot_at site slot) _ b (λ file buffer at. k slot (itself slot) site _ b)
cancelled_goes E (call.BufWrite slot bytes) site facts own answers k b =
    on_buffer_left E site (slot_at site slot) _ b (λ file buffer at. k slot (itself slot) site _ b)
cancelled_goes E (call.BufWriteAll slot bytes) site facts own answers k b =
    on_buffer_left E site (slot_at site slot) _ b (λ file buffer at. k slot (itself slot) site _ b)
cancelled_goes E (call.BufFlush slot) site facts own answers k b =
    on_buffer_left E site (slot_at site slot) _ b (λ file buffer at. k slot (itself slot) site _ b)
cancelled_goes E other site facts own answers k b = b
