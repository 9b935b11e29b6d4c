use Rattle.std.proofs.Common.{◌∷◌, [], subst}
use Rattle.sftp_tasks.specs.Reported.{Reported}
use Rattle.session_threads.proofs.RunReports.{runs_looked_at}
use Rattle.session_threads.proofs.run.close_run.Goals as goal

pub returns-else-not-was_open-clause-runs : goal.returns-else-not-was_open-clause-runs
returns-else-not-was_open-clause-runs g c =
    runs_looked_at (c.in-Ok.first ∷ c.in-Ok.others.items) c.args.crew.home c.args.crew.lanes.items
    (c.args.crew.sender ∷ c.args.crew.reader ∷ []) c.in-Ok-close.report
    c.was_open.result c.in-Ok.ensures c.in-Ok-close.ensures.closes c.in-Ok-close.ensures.covers c.requires.all
    c.requires.named
    c.was_open.ensures c.if-not-was_open.false

pub returns-else-not-was_open-clause-reported : goal.returns-else-not-was_open-clause-reported
returns-else-not-was_open-clause-reported g c = subst (λ l. Reported l c.in-Ok-close.report) c.in-Ok.ensures
    c.in-Ok-close.ensures.closes
