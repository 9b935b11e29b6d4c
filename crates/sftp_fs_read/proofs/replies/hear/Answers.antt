use Rattle.std.proofs.Common.{◌≡◌, List, ℕ, ◌∷◌, subst, rules}
use Rattle.sftp_fs_read.specs.Hearing.{TakesReplies}
use Rattle.sftp_fs_read.proofs.HearLaws.{hears_more, hears_none}
use Rattle.sftp_fs_read.proofs.replies.hear.Goals as goal

pub loop-ticket-init : goal.loop-ticket-init
loop-ticket-init c = hears_none c.args.core.now c.args.reads c.args.tickets.items c.requires.under_way c.requires.ready

pub loop-ticket-preserved : goal.loop-ticket-preserved
loop-ticket-preserved c =
    let split : c.loop-ticket.tickets.items ≡ c.in-Some.ticket ∷ c.pop_front.new.self.items = search rules in
    let here : TakesReplies c.args.core.now c.loop-ticket.core c.args.reads c.loop-ticket.reads c.args.tickets.items
    (c.in-Some.ticket ∷ c.pop_front.new.self.items) =
    subst (λ (l : List ℕ). TakesReplies c.args.core.now c.loop-ticket.core c.args.reads c.loop-ticket.reads
    c.args.tickets.items l) split
    c.loop-ticket.invariant in
    let came = c.in-Came.ensures in
    hears_more c.args.core.now c.loop-ticket.core c.hear_first.new.core c.args.reads c.loop-ticket.reads c.in-Came.next
    c.args.tickets.items c.in-Some.ticket c.pop_front.new.self.items came.0 here came.1.0 came.1.1.0 came.1.1.1

pub returns-in-Over : goal.returns-in-Over
returns-in-Over c =
    let split : c.loop-ticket.tickets.items ≡ c.in-Some.ticket ∷ c.pop_front.new.self.items = search rules in
    let here : TakesReplies c.args.core.now c.loop-ticket.core c.args.reads c.loop-ticket.reads c.args.tickets.items
    (c.in-Some.ticket ∷ c.pop_front.new.self.items) =
    subst (λ (l : List ℕ). TakesReplies c.args.core.now c.loop-ticket.core c.args.reads c.loop-ticket.reads
    c.args.tickets.items l) split
    c.loop-ticket.invariant in
    let over = c.in-Over.ensures in (
      c.loop-ticket.core,
      (
        c.loop-ticket.reads,
        (c.in-Some.ticket, (here, (over.0, over.1))),
      ),
    )
