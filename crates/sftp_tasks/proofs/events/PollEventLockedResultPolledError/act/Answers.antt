use Rattle.std.proofs.Common.{subst, sym, Option, ℕ}
use Rattle.session_seats.specs.Holds.{GoesBy, passes, no_allowance}
use Rattle.sftp_tasks.specs.Shows.{shown_of}
use Rattle.sftp_tasks.specs.Entries.{by_step}
use Rattle.sftp_tasks.proofs.EntryLaws.{polls_extended, result_extended, session_goes}
use Rattle.sftp_tasks.proofs.events.PollEventLockedResultPolledError.act.Goals as goal

pub returns-clause-goes : goal.returns-clause-goes
returns-clause-goes c =
    subst (λ (o : Option ℕ). GoesBy (passes by_step o) no_allowance (shown_of c.args.value.now)
    (shown_of c.poll.new.self)) (sym c.in-Some.is)
    (session_goes _ _ _ c.poll.ensures.rest (result_extended _ _ _ c.poll.result _
    (λ p h. polls_extended c.in-Some.lane _ _ p h) c.poll.ensures.polls c.poll.ensures.refused))
