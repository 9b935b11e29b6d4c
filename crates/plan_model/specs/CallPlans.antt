-- believed
-- All calls of a lane: the next move of each, and the site that it leaves if it is cancelled.
use Rattle.std.specs.Prelude.{Some}
use Rattle.sftp_model.specs.declared.slot.Facts.{Facts}
use Rattle.sftp_model.specs.declared.slot.Site.{Site}
use Rattle.sftp_model.specs.OpenOptions.{flags_of}
use Rattle.plan_model.specs.declared.call.Call.{Call}
use Rattle.plan_model.specs.declared.call.Call.TheVariants as call
use Rattle.plan_model.specs.Moves.{Answers, Own, Plan}
use Rattle.plan_model.specs.PathPlans.{
  set_stat_next,
  remove_next,
  mkdir_next,
  rmdir_next,
  rename_next,
  hard_link_next,
  symlink_next,
  stat_next,
  lstat_next,
  read_link_next,
  canonicalize_next,
  cwd_next,
}
use Rattle.plan_model.specs.FilePlans.{
  open_next,
  close_next,
  cancelled_close,
  set_len_next,
  set_perm_next,
  meta_next,
  sync_next,
  copy_next,
  clone_next,
  seek_next,
  buffer_next,
}
use Rattle.plan_model.specs.TransferPlans.{
  read_next,
  read_all_next,
  write_next,
  write_all_next,
  write_parts_next,
  cancelled_transfer,
}
use Rattle.plan_model.specs.BufferPlans.{
  unbuffer_next,
  buf_seek_next,
  buf_read_next,
  cancelled_buf_read,
  buf_write_next,
  buf_write_all_next,
  cancelled_buf_write,
  buf_flush_next,
  cancelled_buf_flush,
}
use Rattle.plan_model.specs.WholePlans.{fs_write_next, list_next}
use Rattle.plan_model.specs.WindowPlans.{fs_read_next}

-- The next move of a call.
abbrev pub next : Call → Site → Facts → Plan
next (call.OpenFile slot flags path) site facts = open_next slot (flags_of flags) path site facts
next (call.Read slot n) site facts = read_next slot n site facts
next (call.ReadAll slot n) site facts = read_all_next slot n site facts
next (call.Write slot bytes) site facts = write_next slot bytes site facts
next (call.WriteAll slot bytes) site facts = write_all_next slot bytes site facts
next (call.WriteParts slot parts) site facts = write_parts_next slot parts site facts
next (call.Seek slot position) site facts = seek_next slot position site facts
next (call.SetLen slot n) site facts = set_len_next slot n site facts
next (call.SetPerm slot mode) site facts = set_perm_next slot mode site facts
next (call.Meta slot) site facts = meta_next slot site facts
next (call.Sync slot) site facts = sync_next slot site facts
next (call.Copy from to n) site facts = copy_next from to n site facts
next (call.CloneFile from to) site facts = clone_next from to site facts
next (call.Close slot) site facts = close_next slot site facts
next (call.Buffer slot len) site facts = buffer_next slot len site facts
next (call.Unbuffer slot) site facts = unbuffer_next slot site facts
next (call.BufRead slot n) site facts = buf_read_next slot n site facts
next (call.BufWrite slot bytes) site facts = buf_write_next slot bytes site facts
next (call.BufWriteAll slot bytes) site facts = buf_write_all_next slot bytes site facts
next (call.BufFlush slot) site facts = buf_flush_next slot site facts
next (call.BufSeek slot position) site facts = buf_seek_next slot position site facts
next (call.FsRead path bound) site facts = fs_read_next path (Some bound) site facts
next (call.FsWrite path bytes) site facts = fs_write_next path bytes site facts
next (call.List path bound) site facts = list_next path bound site facts
next (call.Stat path) site facts = stat_next path site facts
next (call.Lstat path) site facts = lstat_next path site facts
next (call.SetStat path size mode) site facts = set_stat_next path size mode site facts
next (call.Remove path) site facts = remove_next path site facts
next (call.Mkdir path) site facts = mkdir_next path site facts
next (call.Rmdir path) site facts = rmdir_next path site facts
next (call.Rename old to) site facts = rename_next old to site facts
next (call.HardLink old to) site facts = hard_link_next old to site facts
next (call.Symlink src dst) site facts = symlink_next src dst site facts
next (call.ReadLink path) site facts = read_link_next path site facts
next (call.Canonicalize path) site facts = canonicalize_next path site facts
next (call.Cwd path) site facts = cwd_next path site facts

-- The site that a cancelled call leaves. The reply to its last request counts for nothing, whether or not it has come.
-- A call that has changed no slot before its end leaves everything unchanged.
abbrev pub site_after_cancel : Call → Site → Facts → Own → Answers → Site
site_after_cancel (call.ReadAll slot n) site facts own answers = cancelled_transfer slot site facts own answers
site_after_cancel (call.WriteAll slot bytes) site facts own answers = cancelled_transfer slot site facts own answers
site_after_cancel (call.WriteParts slot parts) site facts own answers = cancelled_transfer slot site facts own answers
site_after_cancel (call.Close slot) site facts own answers = cancelled_close slot site facts own answers
site_after_cancel (call.BufRead slot n) site facts own answers = cancelled_buf_read slot site facts own answers
site_after_cancel (call.BufWrite slot bytes) site facts own answers = cancelled_buf_write slot site facts own answers
site_after_cancel (call.BufWriteAll slot bytes) site facts own answers = cancelled_buf_write slot site facts own answers
site_after_cancel (call.BufFlush slot) site facts own answers = cancelled_buf_flush slot site facts own answers
site_after_cancel other site facts own answers = site
