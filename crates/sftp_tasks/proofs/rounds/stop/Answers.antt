use Rattle.std.proofs.Common.{◌∙◌, sym, subst}
use Rattle.std.specs.Prelude.{Result}
use Rattle.session_seats.specs.Holds.{no_allowance}
use Rattle.session_seats.proofs.GrowLaws.{grew_applied}
use Rattle.session_seats.proofs.HoldLaws.{hold_map}
use Rattle.sftp_model.specs.declared.error.Error.{Error}
use Rattle.sftp_tasks.specs.Entries.{by_failing, by_nothing}
use Rattle.sftp_tasks.specs.LockedEvents.{KeepsFirstFault}
use Rattle.sftp_tasks.specs.Shows.{shown_of}
use Rattle.sftp_tasks.proofs.RoundLaws.{nothing_fails}
use Rattle.sftp_tasks.proofs.StopLaws.{stopping_kept, stopping_told}
use Rattle.sftp_tasks.proofs.rounds.stop.Goals as goal

pub returns-in_default-clause-only : goal.returns-in_default-clause-only
returns-in_default-clause-only g c =
    nothing_fails c.args.seat.now.lane _ _
    (grew_applied shown_of by_nothing c.args.seat.now.lane no_allowance c.args.seat.now.inner.me
    c.apply.new.self.inner.me
    c.apply.ensures.held)

pub returns-in_default-clause-stops : goal.returns-in_default-clause-stops
returns-in_default-clause-stops g c =
    let h = c.apply.ensures.held in
    hold_map shown_of c.args.seat.now.inner.me c.apply.new.self.inner.me h
    (sym c.fault_for.ensures ∙ c.in_default.is, h.did.does)

pub returns-in-Ok-clause-only : goal.returns-in-Ok-clause-only
returns-in-Ok-clause-only g c =
    grew_applied shown_of by_failing c.args.seat.now.lane no_allowance c.args.seat.now.inner.me
    c.apply-did.new.self.inner.me c.apply-did.ensures.held

pub returns-in-Ok-clause-stops : goal.returns-in-Ok-clause-stops
returns-in-Ok-clause-stops g c =
    let h = c.apply-did.ensures.held in
    let kept = subst (λ (r : Result (Unit {0}) Error). KeepsFirstFault c.in-Some.fault h.before h.after r) c.in-Ok.is
    h.did.does in
    hold_map shown_of c.args.seat.now.inner.me c.apply-did.new.self.inner.me h
    (stopping_kept c.args.why c.in-Some.fault h.before h.after (sym c.fault_for.ensures ∙ c.in-Some.is) kept.1)

pub returns-in-Err-clause-only : goal.returns-in-Err-clause-only
returns-in-Err-clause-only g c =
    grew_applied shown_of by_failing c.args.seat.now.lane no_allowance c.args.seat.now.inner.me
    c.apply-did.new.self.inner.me c.apply-did.ensures.held

pub returns-in-Err-clause-stops : goal.returns-in-Err-clause-stops
returns-in-Err-clause-stops g c =
    let h = c.apply-did.ensures.held in
    let told = subst (λ (r : Result (Unit {0}) Error). KeepsFirstFault c.in-Some.fault h.before h.after r) c.in-Err.is
    h.did.does in
    hold_map shown_of c.args.seat.now.inner.me c.apply-did.new.self.inner.me h
    (stopping_told c.args.why c.in-Err.told c.in-Some.fault h.before h.after told)
