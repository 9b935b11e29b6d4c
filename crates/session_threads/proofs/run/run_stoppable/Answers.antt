use Rattle.std.proofs.Common.{◌∙◌, List, length, ap, refl, sym}
use Rattle.plan_model.specs.declared.call.Lane.{Lane}
use Rattle.session_seats.specs.Closes.{claim_by}
use Rattle.session_threads.proofs.OpenedLaws.{ends_if, over_if, runs_if, stops_if}
use Rattle.session_threads.proofs.run.run_stoppable.Goals as goal

pub start-requires-clause-count : goal.start-requires-clause-count
start-requires-clause-count g c = ap (λ (l : List Lane). length l) (sym c.in-Ok.ensures.home.1.0)

pub run_crew-requires-clause-crew : goal.run_crew-requires-clause-crew
run_crew-requires-clause-crew g c κs within =
    let o = c.in-Ok.ensures.opens in (
      (o.1.hello, c.in-Ok-start.ensures.crew o.1.hello o.1.gets.sees),
      ap (λ (l : List Lane). length l) (sym c.in-Ok.ensures.home.1.0)
          ∙ ap (λ (l : List Lane). length l) (sym c.in-Ok-start.ensures.made.0),
    )

pub returns-clause-runs : goal.returns-clause-runs
returns-clause-runs g c =
    runs_if c.args.lanes.now c.args.options.now (claim_by c.in-Ok.opened.1).sight
    (claim_by c.in-Ok-start.crew.home).sight c.run_crew.result.0
    c.in-Ok.ensures.home.1 c.in-Ok-start.ensures.made c.run_crew.ensures.runs

pub returns-clause-over : goal.returns-clause-over
returns-clause-over g c = over_if (length c.args.lanes.now) (length c.args.lanes.now) c.run_crew.result.0 refl
    c.run_crew.ensures.over

pub returns-clause-ends : goal.returns-clause-ends
returns-clause-ends g c =
    let o = c.in-Ok.ensures.opens in
    ends_if (g.O.LinkState.state c.args.halves.out) (g.O.LinkState.state c.open_session.new.out)
    (g.O.LinkState.state c.run_crew.result.1)
    (g.I.LinkState.state c.args.halves.input) (g.I.LinkState.state c.open_session.new.input)
    (g.I.LinkState.state c.run_crew.result.2)
    c.in-Ok.opened.1.inner.me c.in-Ok-start.crew.sender.inner.me c.run_crew.result.0 o
    (c.in-Ok-start.ensures.crew o.1.hello o.1.gets.sees).sender.sees c.run_crew.ensures.ends

pub returns-clause-stops : goal.returns-clause-stops
returns-clause-stops g c =
    stops_if (g.O.LinkState.state c.args.halves.out) (g.O.LinkState.state c.open_session.new.out)
    (g.O.LinkState.state c.run_crew.result.1)
    (g.I.LinkState.state c.args.halves.input) (g.I.LinkState.state c.open_session.new.input)
    (g.I.LinkState.state c.run_crew.result.2)
    c.in-Ok.opened.1.inner.me c.args.lanes.now c.args.options.now (claim_by c.in-Ok.opened.1).sight
    (claim_by c.in-Ok-start.crew.home).sight c.run_crew.result.0 c.in-Ok.ensures.home.1 c.in-Ok-start.ensures.made
    c.in-Ok.ensures.opens c.run_crew.ensures.stops
