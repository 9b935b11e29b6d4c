use Rattle.std.proofs.Common.{rules, ◌≡◌, ◌++◌, ◌∷◌, [], List}
use Rattle.session_laws.specs.Lanes.{Ticketed}
use Rattle.session_work.proofs.AskLaws.{no_close, submits}
use Rattle.session_work.proofs.requests.ask.Goals as goal

pub returns-clause-asked : goal.returns-clause-asked
returns-clause-asked c =
    let tickets : List Ticketed = c.args.tokens.now.tickets.items in
    let pushed : c.push.new.self.items ≡ tickets ++ (record { place = c.args.place; ticket = c.in_ok-ticket.ticket }) ∷
    [] = search rules in
    submits c.args.core.now c.submit.new.core tickets c.push.new.self.items c.args.tokens.now.grants.items c.args.place
    c.in_ok-ticket.ticket c.id-id.result c.args.asked c.filled-request.result
    (no_close c.args.asked c.in_default.not-Close)
    c.filled-request.ensures.filled c.filled-request.ensures.plain c.id-id.ensures c.in_ok-ticket.ensures.ok.0
    c.in_ok-ticket.ensures.ok.1 pushed
