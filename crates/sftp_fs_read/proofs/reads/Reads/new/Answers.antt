use Rattle.std.proofs.Common.{sym, subst}
use Rattle.plan_window.specs.Windows.{IsSound, Window}
use Rattle.sftp_fs_read.specs.Reads.{AreRead, no_reads}
use Rattle.sftp_fs_read.proofs.ReadsLaws.{none_read}
use Rattle.sftp_fs_read.proofs.reads.Reads.new.Goals as goal

pub invariant_of-result : goal.invariant_of-result
invariant_of-result c =
    subst (λ (w : Window). AreRead (record (no_reads c.args.facts c.args.handle) { window = w })) (sym c.new.ensures.is)
    (none_read c.args.facts c.args.handle c.requires (subst IsSound c.new.ensures.is c.new.ensures.sound))
