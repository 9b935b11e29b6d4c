use Rattle.std.proofs.Common.{subst, sym, Option, ℕ}
use Rattle.session_seats.specs.Holds.{GoesBy, passes, no_allowance}
use Rattle.sftp_tasks.specs.Shows.{shown_of}
use Rattle.sftp_tasks.specs.Entries.{by_let_go}
use Rattle.sftp_tasks.proofs.EntryLaws.{lets_go_extended, result_extended, session_goes}
use Rattle.sftp_tasks.proofs.events.ReleaseEventLockedResultBoolError.act.Goals as goal

pub returns-clause-goes : goal.returns-clause-goes
returns-clause-goes c =
    subst (λ (o : Option ℕ). GoesBy (passes by_let_go o) no_allowance (shown_of c.args.value.now)
    (shown_of c.let_go.new.self)) (sym c.in-Some.is)
    (session_goes _ _ _ c.let_go.ensures.rest (result_extended _ _ _ c.let_go.result _
    (λ event h. lets_go_extended c.in-Some.lane _ _ event h) c.let_go.ensures.lets_go c.let_go.ensures.refused))
