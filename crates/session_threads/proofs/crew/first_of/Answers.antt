use Rattle.session_threads.proofs.RunReports.{first_is}
use Rattle.session_threads.proofs.crew.first_of.Goals as goal

pub returns : goal.returns
returns c = first_is c.args.seats.items c.remove-first.result c.remove-first.new.self.items c.requires
    c.remove-first.ensures.value c.remove-first.ensures.items
