use Rattle.std.proofs.Common.{sym, subst}
use Rattle.sftp_fs_read.specs.WholeReads.{CancelsRead, IsReadHeld}
use Rattle.sftp_fs_read.specs.declared.fs_read.Whole.{Whole}
use Rattle.sftp_fs_read.specs.declared.fs_read.Whole.TheVariants as whole
use Rattle.sftp_fs_read.proofs.ReadEnds.{drops_open, drops_opening}
use Rattle.sftp_fs_read.proofs.TicketLaws.{read_tickets}
use Rattle.sftp_fs_read.proofs.fs_read.cancel.Goals as goal

pub finish-requires-clause-tickets : goal.finish-requires-clause-tickets
finish-requires-clause-tickets c =
    let held : IsReadHeld c.args.core.now (whole.Open c.in-Open.grant c.in-Open._reads c.in-Open.tickets) =
    subst (λ (s : Whole). IsReadHeld c.args.core.now s) c.in-Open.is c.requires in
    read_tickets c.args.core.now c.in-Open._reads.window.waiting c.in-Open.tickets.items held.1

pub returns-in-Opening : goal.returns-in-Opening
returns-in-Opening c =
    subst (λ (s : Whole). CancelsRead c.args.core.now c.cancel.new.core s) (sym c.in-Opening.is)
    (drops_opening c.args.core.now c.cancel.new.core c.in-Opening.call c.in-Opening._facts c.cancel.ensures)

pub returns-in-Open : goal.returns-in-Open
returns-in-Open c =
    let held : IsReadHeld c.args.core.now (whole.Open c.in-Open.grant c.in-Open._reads c.in-Open.tickets) =
    subst (λ (s : Whole). IsReadHeld c.args.core.now s) c.in-Open.is c.requires in
    subst (λ (s : Whole). CancelsRead c.args.core.now c.finish.new.core s) (sym c.in-Open.is)
    (drops_open c.args.core.now c.finish.new.core c.in-Open.grant c.in-Open._reads c.in-Open.tickets held
    c.finish.ensures)
