use Rattle.std.proofs.Common.{◌≡◌, ℕ, List, [], ◌∷◌, ◌++◌, Some, sym, subst, rules}
use Rattle.sftp_model.specs.declared.request.Request.TheVariants as request
use Rattle.sftp_core.specs.Core.{Core}
use Rattle.plan_state.specs.Asked.{SubmitsAsking}
use Rattle.plan_state.specs.declared.submission.Asking.TheVariants.{Whole as WholeRequest}
use Rattle.sftp_fs_read.specs.Tickets.{AreTickets}
use Rattle.sftp_fs_read.proofs.FsReadLaws.{asked_failed, asked_pending, short_stays}
use Rattle.sftp_fs_read.proofs.TicketLaws.{read_tickets}
use Rattle.sftp_fs_read.proofs.fs_read.ask_read.Goals as goal

pub finish-requires-clause-tickets : goal.finish-requires-clause-tickets
finish-requires-clause-tickets c =
    let same : c.ask.new.core ≡ c.args.core.now = search rules in
    let items : c.reserve.new.self.items ≡ c.args.tickets.items = search rules in
    subst (λ (core : Core). AreTickets core c.reserve.new.self.items) (sym same)
    (subst (λ (l : List ℕ). AreTickets c.args.core.now l) (sym items)
    (read_tickets c.args.core.now c.args.reads.window.waiting c.args.tickets.items c.requires.held.1))

pub returns-in-Err-Failed : goal.returns-in-Err-Failed
returns-in-Err-Failed c =
    let same : c.ask.new.core ≡ c.args.core.now = search rules in
    let items : c.reserve.new.self.items ≡ c.args.tickets.items = search rules in
    let kept : c.args.core.now.fault ≡ Some c.in-Err-Failed.fault = search rules in
    asked_failed c.args.core.now c.ask.new.core c.finish.new.core c.args.grant c.args.reads c.args.tickets
    c.reserve.new.self.items
    c.args.offset c.args.len c.in-Err-Failed.fault c.requires.held c.requires.asks kept same items c.finish.ensures

pub returns-in-Err-Short : goal.returns-in-Err-Short
returns-in-Err-Short c =
    let same : c.ask.new.core ≡ c.args.core.now = search rules in
    let reads : c.ask.new.self ≡ c.args.reads = search rules in
    let items : c.reserve.new.self.items ≡ c.args.tickets.items = search rules in
    short_stays c.args.core.now c.ask.new.core c.args.grant c.args.reads c.ask.new.self c.args.tickets
    c.reserve.new.self c.requires.held same reads items

pub returns-in-Ok : goal.returns-in-Ok
returns-in-Ok c =
    let submitted : SubmitsAsking c.args.core.now (WholeRequest
    (request.Read c.args.reads.handle c.args.offset c.args.len)) c.in-Ok.ticket c.ask.new.core = search rules in
    let items : c.push_back_reserved.new.self.items ≡ c.args.tickets.items ++ c.in-Ok.ticket ∷ [] = search rules in
    asked_pending c.args.core.now c.ask.new.core c.args.grant c.args.reads c.ask.new.self c.args.tickets
    c.push_back_reserved.new.self c.args.offset c.args.len c.in-Ok.ticket c.requires.held c.requires.asks submitted
    items (search rules)
