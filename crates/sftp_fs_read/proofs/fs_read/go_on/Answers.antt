use Rattle.sftp_fs_read.proofs.ReadEnds.{heard_on, heard_over, over_owned, over_tickets}
use Rattle.sftp_fs_read.proofs.fs_read.go_on.Goals as goal

pub finish-requires-clause-owned : goal.finish-requires-clause-owned
finish-requires-clause-owned c =
    let h = c.in-Over.ensures in
    over_owned c.args.core.now h.0 c.hear.new.core c.args.grant c.args.reads h.1.0 c.args.tickets.items h.1.1.0
    c.in-Over.tickets.items
    h.1.1.1.0 h.1.1.1.1.1 c.requires.held.0

pub finish-requires-clause-tickets : goal.finish-requires-clause-tickets
finish-requires-clause-tickets c =
    let h = c.in-Over.ensures in
    over_tickets c.args.core.now h.0 c.hear.new.core c.args.reads h.1.0 c.args.tickets.items h.1.1.0
    c.in-Over.tickets.items
    h.1.1.1.0 h.1.1.1.1.1

pub returns-in-Missing : goal.returns-in-Missing
returns-in-Missing c =
    heard_on c.args.core.now c.hear.new.core c.decide.new.core c.args.grant c.args.reads c.in-Missing.reads
    c.args.tickets c.in-Missing.tickets
    c.decide.result.1 c.decide.result.0 c.in-Missing.ensures.0 c.in-Missing.ensures.1 c.decide.ensures

pub returns-in-Over : goal.returns-in-Over
returns-in-Over c =
    let h = c.in-Over.ensures in
    heard_over c.args.core.now h.0 c.hear.new.core c.finish.new.core c.args.grant c.args.reads h.1.0 c.args.tickets
    h.1.1.0
    c.in-Over.tickets.items c.in-Over.e c.requires.held.0 h.1.1.1.0 h.1.1.1.1.0 h.1.1.1.1.1 c.finish.ensures
