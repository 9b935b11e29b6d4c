use Rattle.std.proofs.Common.{sym, subst, inl}
use Rattle.std.specs.Prelude.{IfErr, OnOk, Result}
use Rattle.session_seats.specs.Holds.{no_allowance}
use Rattle.session_seats.proofs.GrowLaws.{grew_applied}
use Rattle.sftp_model.specs.declared.error.Error.{Error}
use Rattle.sftp_tasks.specs.Opening.{GetsSomeVersion, VersionStops, by_opening}
use Rattle.sftp_tasks.specs.Shows.{shown_of}
use Rattle.sftp_tasks.proofs.OpeningLaws.{if_ok, opening_failing, share_kept_by, version_gets}
use Rattle.sftp_tasks.proofs.hello.take_version.Goals as goal

pub returns-in-Err-clause-only : goal.returns-in-Err-clause-only
returns-in-Err-clause-only g c = opening_failing c.args.seat.now.lane _ _ c.stop.ensures.only

pub returns-in-Err-clause-stops : goal.returns-in-Err-clause-stops
returns-in-Err-clause-stops g c = inl record {
  why = c.in-Err.e;
  fails = c.in-Err.ensures.stops;
  caused = c.in-Err.ensures.caused;
  stops = c.stop.ensures.stops;
}

pub returns-clause-own : goal.returns-clause-own
returns-clause-own g c = (
  c.apply-did.ensures.own,
  c.apply-did.ensures.lane,
  if_ok c.settle.result _
      (share_kept_by 0 c.args.seat.now.inner.me c.apply-did.new.self.inner.me c.apply-did.ensures.held),
)

pub returns-clause-only : goal.returns-clause-only
returns-clause-only g c =
    grew_applied shown_of by_opening c.args.seat.now.lane no_allowance c.args.seat.now.inner.me
    c.apply-did.new.self.inner.me c.apply-did.ensures.held

pub returns-clause-gets : goal.returns-clause-gets
returns-clause-gets g c =
    let m = c.args.seat.now.inner.me in
    let n = c.apply-did.new.self.inner.me in
    let before = g.I.LinkState.state c.args.input.now in
    let after = g.I.LinkState.state c.read_frame.new.link in
    subst (λ (r : Result (Unit {0}) Error). OnOk r (GetsSomeVersion m n before after)) (sym c.settle.ensures)
    (version_gets c.apply-did.result.1 m n c.in-Ok.frame c.read_body-read.result before after c.apply-did.result.0
    c.in-Ok.ensures.whole c.read_body-read.ensures c.in-Ok.ensures.log c.in-Ok.ensures.caused
    c.apply-did.ensures.held).0

pub returns-clause-stops : goal.returns-clause-stops
returns-clause-stops g c =
    let m = c.args.seat.now.inner.me in
    let n = c.apply-did.new.self.inner.me in
    let before = g.I.LinkState.state c.args.input.now in
    let after = g.I.LinkState.state c.read_frame.new.link in
    subst (λ (r : Result (Unit {0}) Error). IfErr r (λ e. VersionStops e m n before after)) (sym c.settle.ensures)
    (version_gets c.apply-did.result.1 m n c.in-Ok.frame c.read_body-read.result before after c.apply-did.result.0
    c.in-Ok.ensures.whole c.read_body-read.ensures c.in-Ok.ensures.log c.in-Ok.ensures.caused
    c.apply-did.ensures.held).1
