use Rattle.std.proofs.Common.{subst, sym, Option, ℕ}
use Rattle.session_seats.specs.Holds.{GoesBy, passes, no_allowance}
use Rattle.sftp_tasks.specs.Shows.{shown_of}
use Rattle.sftp_tasks.specs.Entries.{by_cancel}
use Rattle.sftp_tasks.proofs.EntryLaws.{session_goes, result_extended, cancels_extended}
use Rattle.sftp_tasks.proofs.events.CancelCallEventLockedResultBoolError.act.Goals as goal

pub returns-clause-goes : goal.returns-clause-goes
returns-clause-goes c =
    subst (λ (o : Option ℕ). GoesBy (passes by_cancel o) no_allowance (shown_of c.args.value.now)
    (shown_of c.cancel.new.self)) (sym c.in-Some.is)
    (session_goes _ _ _ c.cancel.ensures.rest (result_extended _ _ _ c.cancel.result _
    (λ event h. cancels_extended _ c.in-Some.lane _ _ event h) c.cancel.ensures.cancels c.cancel.ensures.refused))
