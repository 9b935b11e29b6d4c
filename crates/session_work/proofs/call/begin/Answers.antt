use Rattle.std.proofs.Common.{ℕ, List, ap, sym, ◌∙◌}
use Rattle.plan_model.specs.declared.call.Call.TheVariants as call
use Rattle.session_work.proofs.Begun.{begun_if, begun_local}
use Rattle.session_work.proofs.call.begin.Goals as goal

pub returns-in-OpenFile-clause-began : goal.returns-in-OpenFile-clause-began
returns-in-OpenFile-clause-began c =
    begun_if _ _ _ _ _ _ _ (c.in-OpenFile.is ∙ (λ i. call.OpenFile c.in-OpenFile.slot c.in-OpenFile.flags
    (sym c.as_slice.ensures i)))
    c.begin_open.ensures

pub returns-in-List-clause-began : goal.returns-in-List-clause-began
returns-in-List-clause-began c = begun_if _ _ _ _ _ _ _ (c.in-List.is
    ∙ ap (λ (p : List ℕ). call.List p c.in-List.bound) (sym c.as_slice-in-List.ensures)) c.begin_list.ensures

pub returns-in-Stat-clause-began : goal.returns-in-Stat-clause-began
returns-in-Stat-clause-began c = begun_if _ _ _ _ _ _ _ (c.in-Stat.is ∙ ap (call.Stat) (sym c.as_slice-in-Stat.ensures))
    c.begin_stat.ensures

pub returns-in-Lstat-clause-began : goal.returns-in-Lstat-clause-began
returns-in-Lstat-clause-began c = begun_if _ _ _ _ _ _ _ (c.in-Lstat.is
    ∙ ap (call.Lstat) (sym c.as_slice-in-Lstat.ensures)) c.begin_lstat.ensures

pub returns-in-Remove-clause-began : goal.returns-in-Remove-clause-began
returns-in-Remove-clause-began c = begun_if _ _ _ _ _ _ _ (c.in-Remove.is
    ∙ ap (call.Remove) (sym c.as_slice-in-Remove.ensures)) c.begin_remove.ensures

pub returns-in-Mkdir-clause-began : goal.returns-in-Mkdir-clause-began
returns-in-Mkdir-clause-began c = begun_if _ _ _ _ _ _ _ (c.in-Mkdir.is
    ∙ ap (call.Mkdir) (sym c.as_slice-in-Mkdir.ensures)) c.begin_mkdir.ensures

pub returns-in-Rmdir-clause-began : goal.returns-in-Rmdir-clause-began
returns-in-Rmdir-clause-began c = begun_if _ _ _ _ _ _ _ (c.in-Rmdir.is
    ∙ ap (call.Rmdir) (sym c.as_slice-in-Rmdir.ensures)) c.begin_rmdir.ensures

pub returns-in-ReadLink-clause-began : goal.returns-in-ReadLink-clause-began
returns-in-ReadLink-clause-began c = begun_if _ _ _ _ _ _ _ (c.in-ReadLink.is
    ∙ ap (call.ReadLink) (sym c.as_slice-in-ReadLink.ensures)) c.begin_read_link.ensures

pub returns-in-Canonicalize-clause-began : goal.returns-in-Canonicalize-clause-began
returns-in-Canonicalize-clause-began c = begun_if _ _ _ _ _ _ _
    (c.in-Canonicalize.is ∙ ap (call.Canonicalize) (sym c.as_slice-in-Canonicalize.ensures))
    c.begin_canonicalize.ensures

pub returns-in-SetStat-clause-began : goal.returns-in-SetStat-clause-began
returns-in-SetStat-clause-began c =
    begun_if _ _ _ _ _ _ _ (c.in-SetStat.is ∙ (λ i. call.SetStat (sym c.as_slice-in-SetStat.ensures i) c.in-SetStat.size
    (sym c.mode_of.ensures i)))
    c.begin_set_stat.ensures

pub returns-in-FsRead-clause-began : goal.returns-in-FsRead-clause-began
returns-in-FsRead-clause-began c =
    begun_if _ _ _ _ _ _ _ (c.in-FsRead.is ∙ ap (λ (p : List ℕ). call.FsRead p c.in-FsRead.bound)
    (sym c.as_slice-in-FsRead.ensures))
    c.begin_fs_read.ensures

pub returns-in-FsWrite-clause-began : goal.returns-in-FsWrite-clause-began
returns-in-FsWrite-clause-began c =
    begun_if _ _ _ _ _ _ _ (c.in-FsWrite.is ∙ (λ i. call.FsWrite (sym c.as_slice-in-FsWrite.ensures i)
    (sym c.as_slice-in-FsWrite-2.ensures i)))
    c.begin_fs_write.ensures

pub returns-in-Rename-clause-began : goal.returns-in-Rename-clause-began
returns-in-Rename-clause-began c =
    begun_if _ _ _ _ _ _ _ (c.in-Rename.is ∙ (λ i. call.Rename (sym c.as_slice-in-Rename.ensures i)
    (sym c.as_slice-in-Rename-2.ensures i)))
    c.begin_rename.ensures

pub returns-in-HardLink-clause-began : goal.returns-in-HardLink-clause-began
returns-in-HardLink-clause-began c =
    begun_if _ _ _ _ _ _ _ (c.in-HardLink.is ∙ (λ i. call.HardLink (sym c.as_slice-in-HardLink.ensures i)
    (sym c.as_slice-in-HardLink-2.ensures i)))
    c.begin_hard_link.ensures

pub returns-in-Symlink-clause-began : goal.returns-in-Symlink-clause-began
returns-in-Symlink-clause-began c =
    begun_if _ _ _ _ _ _ _ (c.in-Symlink.is ∙ (λ i. call.Symlink (sym c.as_slice-in-Symlink.ensures i)
    (sym c.as_slice-in-Symlink-2.ensures i)))
    c.begin_symlink.ensures

pub returns-in-Seek-clause-began : goal.returns-in-Seek-clause-began
returns-in-Seek-clause-began c = begun_local _ _ _ _ _ _ _ (c.in-Seek.is)
    (c.begin_seek.ensures.goes c.args.place c.args.facts.now) (c.begin_seek.ensures.sound c.args.facts.now)
    c.begin_seek.ensures.pends

pub returns-in-CloneFile-clause-began : goal.returns-in-CloneFile-clause-began
returns-in-CloneFile-clause-began c = begun_local _ _ _ _ _ _ _ (c.in-CloneFile.is)
    (c.begin_clone.ensures.goes c.args.place c.args.facts.now) (c.begin_clone.ensures.sound c.args.facts.now)
    c.begin_clone.ensures.pends

pub returns-in_ok-begin_cwd-in-Cwd-clause-began : goal.returns-in_ok-begin_cwd-in-Cwd-clause-began
returns-in_ok-begin_cwd-in-Cwd-clause-began c =
    begun_local _ _ _ _ _ _ _ (c.in-Cwd.is ∙ ap call.Cwd (sym c.as_slice-in-Cwd.ensures))
    (c.in_ok-begin_cwd-in-Cwd.ensures.goes c.args.place c.args.facts.now)
    (c.begin_cwd.ensures.sound c.args.facts.now) c.begin_cwd.ensures.pends

pub returns-in-Buffer-clause-began : goal.returns-in-Buffer-clause-began
returns-in-Buffer-clause-began c = begun_local _ _ _ _ _ _ _ (c.in-Buffer.is)
    (c.begin_buffer.ensures.goes c.args.place c.args.facts.now) (c.begin_buffer.ensures.sound c.args.facts.now)
    c.begin_buffer.ensures.pends

pub returns-in-Unbuffer-clause-began : goal.returns-in-Unbuffer-clause-began
returns-in-Unbuffer-clause-began c = begun_local _ _ _ _ _ _ _ (c.in-Unbuffer.is)
    (c.begin_unbuffer.ensures.goes c.args.place c.args.facts.now) (c.begin_unbuffer.ensures.sound c.args.facts.now)
    c.begin_unbuffer.ensures.pends

pub returns-in_ok-begin_buf_seek-in-BufSeek-clause-began : goal.returns-in_ok-begin_buf_seek-in-BufSeek-clause-began
returns-in_ok-begin_buf_seek-in-BufSeek-clause-began c =
    begun_local _ _ _ _ _ _ _ (c.in-BufSeek.is) (c.in_ok-begin_buf_seek-in-BufSeek.ensures.goes c.args.place
    c.args.facts.now) (c.begin_buf_seek.ensures.sound c.args.facts.now) c.begin_buf_seek.ensures.pends
