use Rattle.std.proofs.Common.{sym, subst}
use Rattle.sftp_core.specs.Core.{Core}
use Rattle.sftp_fs.specs.WholeWrites.{IsOwned}
use Rattle.sftp_fs_read.proofs.FsReadLaws.{owned_without}
use Rattle.sftp_fs_read.proofs.fs_read.finish.Goals as goal

pub close-requires : goal.close-requires
close-requires c =
    subst (λ (core : Core). IsOwned core c.args.grant) (sym c.abandon_all.ensures)
    (owned_without c.args.core.now c.args.grant c.args.tickets.items c.requires.owned c.requires.tickets)
