use Rattle.std.proofs.Common.{rules, ◌≡◌}
use Rattle.sftp_core.specs.Core.{core_after_abandon}
use Rattle.sftp_buffered.proofs.Abandoning.{drops_on}
use Rattle.sftp_buffered.proofs.file.abandon_all.Goals as goal

pub loop-ticket-preserved : goal.loop-ticket-preserved
loop-ticket-preserved c =
    let next : c.abandon.new.self ≡ core_after_abandon c.loop-ticket.core c.in-Some.field-0.ticket = search rules in
    drops_on c.args.core.now c.loop-ticket.core c.abandon.new.self c.args.deferred.items c.loop-ticket.deferred.items
    c.pop_front.new.self.items c.pop_front.result c.in-Some.field-0
    c.loop-ticket.invariant c.pop_front.ensures.items c.in-Some.is next
