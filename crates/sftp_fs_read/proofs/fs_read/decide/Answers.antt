use Rattle.std.proofs.Common.{◌≡◌, None, subst, rules}
use Rattle.sftp_model.specs.declared.slot.Site.{Site}
use Rattle.plan_window.specs.Windows.{move_by, window_move}
use Rattle.plan_window.specs.declared.next_move.WindowMove.{WindowMove}
use Rattle.plan_window.specs.declared.next_move.WindowMove.TheVariants as step
use Rattle.sftp_fs_read.proofs.FsReadLaws.{decided_waits, decided_whole}
use Rattle.sftp_fs_read.proofs.TicketLaws.{read_tickets}
use Rattle.sftp_fs_read.proofs.fs_read.decide.Goals as goal

pub finish-requires-clause-tickets : goal.finish-requires-clause-tickets
finish-requires-clause-tickets c =
    read_tickets c.args.core.now c.args.reads.window.waiting c.args.tickets.items c.requires.held.1

pub returns-in-Ok-Wait : goal.returns-in-Ok-Wait
returns-in-Ok-Wait c =
    let given : c.in-Ok-Wait.field-0 ≡ step.Wait c.in-Ok-Wait._place = search rules in
    decided_waits c.args.core.now c.args.grant c.args.reads c.args.tickets c.in-Ok-Wait._place c.requires.held
    c.requires.missing
    (subst (λ (m : WindowMove). (site : Site) → window_move c.args.reads.handle None c.args.reads.window site
    c.args.reads.facts
    ≡ move_by c.args.reads.handle site m) given c.in-Ok-Wait.ensures.goes)

pub returns-in-Ok : goal.returns-in-Ok
returns-in-Ok c =
    let given : c.in-Ok-Whole.field-0 ≡ step.Whole c.in-Ok-Whole.bytes = search rules in
    decided_whole c.args.core.now c.finish.new.core c.args.grant c.args.reads c.args.tickets c.in-Ok-Whole.bytes _
    c.requires.held
    (subst (λ (m : WindowMove). (site : Site) → window_move c.args.reads.handle None c.args.reads.window site
    c.args.reads.facts
    ≡ move_by c.args.reads.handle site m) given c.in-Ok-Whole.ensures.goes) (search rules) c.finish.ensures
