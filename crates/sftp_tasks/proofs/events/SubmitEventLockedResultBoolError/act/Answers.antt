use Rattle.std.proofs.Common.{subst, sym, Option, ℕ}
use Rattle.session_seats.specs.Holds.{GoesBy, passes, no_allowance}
use Rattle.sftp_tasks.specs.Shows.{shown_of}
use Rattle.sftp_tasks.specs.Entries.{by_submit}
use Rattle.sftp_tasks.proofs.EntryLaws.{session_goes}
use Rattle.sftp_tasks.proofs.HoldLaws.{submits_extended}
use Rattle.sftp_tasks.proofs.events.SubmitEventLockedResultBoolError.act.Goals as goal

pub returns-clause-goes : goal.returns-clause-goes
returns-clause-goes c =
    subst (λ (o : Option ℕ). GoesBy (passes by_submit o) no_allowance (shown_of c.args.value.now)
    (shown_of c.submit.new.self)) (sym c.in-Some.is)
    (session_goes _ c.args.value.now c.submit.new.self c.submit.ensures.rest
    (submits_extended c.in-Some.lane c.args.self.call _ _ c.submit.result c.submit.ensures.submits))
