-- The law of moves for all calls, what follows from it, and what a cancelled call leaves.
use Rattle.std.proofs.Common.{◌≡◌, ℕ, Some, None, subst, sym}
use Rattle.sftp_model.specs.declared.outcome.Outcome.{Outcome}
use Rattle.sftp_model.specs.declared.request.Request.{Request}
use Rattle.sftp_model.specs.declared.slot.Facts.{Facts}
use Rattle.sftp_model.specs.declared.slot.Move.TheVariants.{Ask, Wait, Done}
use Rattle.sftp_model.specs.declared.slot.Site.{Site}
use Rattle.sftp_model.specs.OpenOptions.{flags_of}
use Rattle.plan_model.specs.Moves.{Answers, Own}
use Rattle.plan_model.specs.TransferPlans.{joined_parts}
use Rattle.plan_model.specs.declared.call.Call.TheVariants as call
use Rattle.plan_model.specs.declared.call.Call.{Call}
use Rattle.plan_model.specs.CallPlans.{site_after_cancel, next}
use Rattle.plan_model.specs.GoodMoves.{HoldsWithin, IsGood, IsGoodAsk, ReadsWithin, situation, WithinRange}
use Rattle.plan_model.proofs.PathLaws.{
  set_stat_good,
  remove_good,
  mkdir_good,
  rmdir_good,
  rename_good,
  symlink_good,
  hard_link_good,
  stat_good,
  lstat_good,
  read_link_good,
  canonicalize_good,
  cwd_good,
}
use Rattle.plan_model.proofs.FileLaws.{read_good, read_all_good, write_good, write_all_good}
use Rattle.plan_model.proofs.OpenLaws.{open_good, close_good, set_len_good, set_perm_good, meta_good, sync_good, copy_good, clone_good, seek_good, buffer_good}
use Rattle.plan_model.proofs.BufferLaws.{unbuffer_good, buf_seek_good, buf_read_good, buf_write_good, buf_write_all_good, buf_flush_good}
use Rattle.plan_model.proofs.WholeLaws.{fs_write_good, list_good, fs_read_good}

-- ---- the law

pub next_good : (c : Call) (site : Site) (facts : Facts) (own : Own) (answers : Answers)
    → WithinRange c site facts own answers → IsGood (situation c site facts own answers) (next c site facts own answers)
next_good (call.OpenFile slot flags path) site facts own answers w =
    open_good (situation (call.OpenFile slot flags path) site facts own answers) slot (flags_of flags) path (λ k. k)
    (λ g b. b)
next_good (call.Read slot n) site facts own answers w = read_good (situation (call.Read slot n) site facts own answers)
    slot n
next_good (call.ReadAll slot n) site facts own answers w = read_all_good
    (situation (call.ReadAll slot n) site facts own answers) slot n
next_good (call.Write slot bytes) site facts own answers w =
    write_good (situation (call.Write slot bytes) site facts own answers) slot bytes
next_good (call.WriteAll slot bytes) site facts own answers w =
    write_all_good (situation (call.WriteAll slot bytes) site facts own answers) slot bytes
next_good (call.WriteParts slot parts) site facts own answers w =
    write_all_good (situation (call.WriteParts slot parts) site facts own answers) slot (joined_parts parts)
next_good (call.Seek slot position) site facts own answers w =
    seek_good (situation (call.Seek slot position) site facts own answers) slot position
next_good (call.SetLen slot n) site facts own answers w = set_len_good
    (situation (call.SetLen slot n) site facts own answers) slot n (λ k. k)
next_good (call.SetPerm slot mode) site facts own answers w =
    set_perm_good (situation (call.SetPerm slot mode) site facts own answers) slot mode
next_good (call.Meta slot) site facts own answers w = meta_good (situation (call.Meta slot) site facts own answers) slot
next_good (call.Sync slot) site facts own answers w = sync_good (situation (call.Sync slot) site facts own answers) slot
next_good (call.Copy from to n) site facts own answers w = copy_good
    (situation (call.Copy from to n) site facts own answers) from to n
next_good (call.CloneFile from to) site facts own answers w =
    clone_good (situation (call.CloneFile from to) site facts own answers) from to
next_good (call.Close slot) site facts own answers w = close_good (situation (call.Close slot) site facts own answers)
    slot (λ handle c. c)
next_good (call.Buffer slot len) site facts own answers w = buffer_good
    (situation (call.Buffer slot len) site facts own answers) slot len
next_good (call.Unbuffer slot) site facts own answers w = unbuffer_good
    (situation (call.Unbuffer slot) site facts own answers) slot
next_good (call.BufRead slot n) site facts own answers w = buf_read_good
    (situation (call.BufRead slot n) site facts own answers) slot n
next_good (call.BufWrite slot bytes) site facts own answers w =
    buf_write_good (situation (call.BufWrite slot bytes) site facts own answers) slot bytes
next_good (call.BufWriteAll slot bytes) site facts own answers w =
    buf_write_all_good (situation (call.BufWriteAll slot bytes) site facts own answers) slot bytes
next_good (call.BufFlush slot) site facts own answers w = buf_flush_good
    (situation (call.BufFlush slot) site facts own answers) slot
next_good (call.BufSeek slot position) site facts own answers w =
    buf_seek_good (situation (call.BufSeek slot position) site facts own answers) slot position
next_good (call.FsRead path bound) site facts own answers w =
    fs_read_good (situation (call.FsRead path bound) site facts own answers) path (Some bound) (λ g b. b) w
next_good (call.FsWrite path bytes) site facts own answers w =
    fs_write_good (situation (call.FsWrite path bytes) site facts own answers) path bytes (λ g b. b)
next_good (call.List path bound) site facts own answers w = list_good
    (situation (call.List path bound) site facts own answers) path bound (λ g b. b)
next_good (call.Stat path) site facts own answers w = stat_good (situation (call.Stat path) site facts own answers) path
next_good (call.Lstat path) site facts own answers w = lstat_good (situation (call.Lstat path) site facts own answers)
    path
next_good (call.SetStat path size mode) site facts own answers w =
    set_stat_good (situation (call.SetStat path size mode) site facts own answers) path size mode (λ k. k)
next_good (call.Remove path) site facts own answers w = remove_good
    (situation (call.Remove path) site facts own answers) path
next_good (call.Mkdir path) site facts own answers w = mkdir_good (situation (call.Mkdir path) site facts own answers)
    path
next_good (call.Rmdir path) site facts own answers w = rmdir_good (situation (call.Rmdir path) site facts own answers)
    path
next_good (call.Rename old to) site facts own answers w = rename_good
    (situation (call.Rename old to) site facts own answers) old to
next_good (call.HardLink old to) site facts own answers w = hard_link_good
    (situation (call.HardLink old to) site facts own answers) old to
next_good (call.Symlink src dst) site facts own answers w = symlink_good
    (situation (call.Symlink src dst) site facts own answers) src dst
next_good (call.ReadLink path) site facts own answers w = read_link_good
    (situation (call.ReadLink path) site facts own answers) path
next_good (call.Canonicalize path) site facts own answers w =
    canonicalize_good (situation (call.Canonicalize path) site facts own answers) path
next_good (call.Cwd path) site facts own answers w = cwd_good (situation (call.Cwd path) site facts own answers) path

-- ---- what follows, one line each

pub asks_good : (c : Call) (site : Site) (facts : Facts) (own : Own) (answers : Answers) (r : Request)
    → WithinRange c site facts own answers → next c site facts own answers ≡ Ask r
    → IsGoodAsk (situation c site facts own answers) r
asks_good c site facts own answers r w is = subst (IsGood (situation c site facts own answers)) is
    (next_good c site facts own answers w)

-- what doesn't ask is within the range
waits_within : (c : Call) (site : Site) (facts : Facts) (own : Own) (answers : Answers) (place : ℕ)
    → next c site facts own answers ≡ Wait place → WithinRange c site facts own answers
waits_within (call.FsRead path bound) site facts own answers place is = subst (ReadsWithin facts) (sym is) tt
waits_within other site facts own answers place is = tt

done_within : (c : Call) (site : Site) (facts : Facts) (own : Own) (answers : Answers) (o : Outcome) (after : Site)
    → next c site facts own answers ≡ Done o after → WithinRange c site facts own answers
done_within (call.FsRead path bound) site facts own answers o after is = subst (ReadsWithin facts) (sym is) tt
done_within other site facts own answers o after is = tt

pub waits_missing : (c : Call) (site : Site) (facts : Facts) (own : Own) (answers : Answers) (place : ℕ)
    → next c site facts own answers ≡ Wait place → answers place ≡ None
waits_missing c site facts own answers place is = subst (IsGood (situation c site facts own answers)) is
    (next_good c site facts own answers (waits_within c site facts own answers place is))

pub done_holds : (c : Call) (site : Site) (facts : Facts) (own : Own) (answers : Answers) (o : Outcome) (after : Site)
    → next c site facts own answers ≡ Done o after
    → HoldsWithin (situation c site facts own answers) after
done_holds c site facts own answers o after is = subst (IsGood (situation c site facts own answers)) is
    (next_good c site facts own answers (done_within c site facts own answers o after is))
