use Rattle.std.proofs.Common.{rules, ◌∙◌, sym}
use Rattle.session_threads.proofs.RunReports.{three_more}
use Rattle.session_threads.proofs.crew.Crew.into_seats.Goals as goal

pub returns : goal.returns
returns c = sym c.first_of.ensures ∙ search rules ∙ three_more c.args.self.lanes.items c.args.self.home
    c.args.self.sender
    c.args.self.reader
