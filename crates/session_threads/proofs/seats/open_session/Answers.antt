use Rattle.std.proofs.Common.{rules, ◌≡◌, ◌∙◌, [], subst, sym}
use Rattle.session_seats.specs.Closes.{AllOf}
use Rattle.session_threads.proofs.FailureLaws.{opening_stops}
use Rattle.session_threads.proofs.RunReports.{opened_home, opened_of}
use Rattle.session_threads.proofs.seats.open_session.Goals as goal

pub returns-in-Ok-true-clause-home : goal.returns-in-Ok-true-clause-home
returns-in-Ok-true-clause-home g c =
    let first = c.in-Ok.ensures in
    opened_home c.in-Ok.shared.shared.table.shared.table_id c.args.lanes.now c.args.options.now c.in-Ok.home
    c.greet.new.seat first.0 first.1 first.3
    c.greet.ensures.own.0 c.greet.ensures.own.1 c.in-Ok-true.ensures.own.2 c.greet.ensures.only

pub close_failed-requires : goal.close_failed-requires
close_failed-requires g c =
    let none : c.new-others.result.items ≡ [] = search rules in
    record {
      own = (
        c.greet.ensures.own.0 ∙ c.in-Ok.ensures.3,
        subst (λ l. AllOf c.in-Ok.shared.shared.table.shared.table_id l) (sym none) tt,
      );
    }

pub returns-in-Some-clause-stops : goal.returns-in-Some-clause-stops
returns-in-Some-clause-stops g c =
    opening_stops c.args.lanes.now c.args.options.now c.close_failed.result c.in-Err.e c.fault_for.result _
    c.in-Ok.home.inner.me c.greet.new.seat c.new-others.result.items (g.O.LinkState.state c.args.out.now)
    (g.O.LinkState.state c.greet.new.out) (g.I.LinkState.state c.args.input.now)
    (g.I.LinkState.state c.greet.new.input) c.in-Some.is c.fault_for.ensures
    (opened_of c.in-Ok.shared.shared.table.shared.table_id c.args.lanes.now c.args.options.now c.in-Ok.home
    c.greet.new.seat c.in-Ok.ensures.0 c.greet.ensures.only)
    c.in-Err.ensures.stops c.close_failed.ensures
