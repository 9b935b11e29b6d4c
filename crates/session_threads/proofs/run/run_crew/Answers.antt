use Rattle.std.proofs.Common.{◌∙◌, ◌&&◌, ◌==◌, List, ℕ, length, ap, sym, subst, refl}
use Rattle.std.specs.Prelude.{Result, filter, reverse}
use Rattle.std.specs.List.{list_all}
use Rattle.plan_model.specs.declared.call.Lane.{Lane}
use Rattle.session_seats.specs.Closes.{claim_by}
use Rattle.sftp_model.specs.declared.error.Error.{Error}
use Rattle.sftp_tasks.specs.Workers.{FlushWorks, ReadWorks}
use Rattle.session_threads.specs.Crews.{named_in_order}
use Rattle.session_threads.specs.RunEnds.{IsEnded, is_handed_in, is_let_go, is_submit, is_take}
use Rattle.session_threads.specs.Running.{WorkedUntilEnd, moves_none}
use Rattle.session_threads.proofs.EndLaws.{ended_run}
use Rattle.session_threads.proofs.HalfLaws.{workers_end}
use Rattle.session_threads.proofs.RunLaws.{ran_made, ran_names, ran_of}
use Rattle.session_threads.proofs.FailureLaws.{workers_stop}
use Rattle.session_threads.proofs.RunReports.{crew_complete, crew_ran, runs_made}
use Rattle.session_threads.proofs.run.run_crew.Goals as goal

pub close_stopped-why-requires : goal.close_stopped-why-requires
close_stopped-why-requires g c =
    let t = c.run_threads-sent.ensures in
    let r = c.run_threads-sent.new in
    let crew = c.args.crew in
    let z = c.args.shared.shared.table.shared.table_id in
    record {
      own = ran_of _ z _ _ (crew_ran z crew.lanes.items r.crew.lanes.items crew.home r.crew.home crew.sender
          r.crew.sender crew.reader r.crew.reader t.lanes.1 t.lanes.0 t.sender.0 t.reader.0);
    }

pub returns-in-Some-clause-stops : goal.returns-in-Some-clause-stops
returns-in-Some-clause-stops g c =
    let t = c.run_threads-sent.ensures in
    let r = c.run_threads-sent.new in
    let crew = c.args.crew in
    let is = c.requires.crew.0.1 in
    let z = c.args.shared.shared.table.shared.table_id in
    let all = crew_complete z crew.lanes.items r.crew.lanes.items crew.home r.crew.home crew.sender r.crew.sender
    crew.reader
    r.crew.reader t.lanes.1 t.lanes.0 t.sender.0
    t.reader.0 is.gave in
    workers_stop z c.requires.crew.0.0 crew.lanes.items r.crew.lanes.items crew.home r.crew.home crew.sender
    r.crew.sender
    crew.reader r.crew.reader t.lanes.1 is.made t.lanes.0 is.moved t.sender.0 t.reader.0 is.sender is.reader all
    (g.O.LinkState.state c.args.halves.out) (g.O.LinkState.state r.out) (g.I.LinkState.state c.args.halves.input)
    (g.I.LinkState.state r.input) c.run_threads-sent.result.0 c.run_threads-sent.result.1 t.sender.1 t.reader.1
    (claim_by crew.home).sight.lanes (claim_by crew.home).sight.options c.close_stopped-why.result c.in-Some.e
    (ran_made moves_none z _ _ t.lanes.0) c.in-Some.ensures c.close_stopped-why.ensures

pub close_run-requires-clause-own : goal.close_run-requires-clause-own
close_run-requires-clause-own g c =
    let t = c.run_threads-sent.ensures in
    let r = c.run_threads-sent.new in
    let crew = c.args.crew in
    let z = c.args.shared.shared.table.shared.table_id in
    ran_of _ z _ _ (crew_ran z crew.lanes.items r.crew.lanes.items crew.home r.crew.home crew.sender r.crew.sender
    crew.reader
    r.crew.reader t.lanes.1 t.lanes.0 t.sender.0 t.reader.0)

pub close_run-requires-clause-all : goal.close_run-requires-clause-all
close_run-requires-clause-all g c =
    let t = c.run_threads-sent.ensures in
    let r = c.run_threads-sent.new in
    let crew = c.args.crew in
    let z = c.args.shared.shared.table.shared.table_id in
    crew_complete z crew.lanes.items r.crew.lanes.items crew.home r.crew.home crew.sender r.crew.sender crew.reader
    r.crew.reader t.lanes.1 t.lanes.0 t.sender.0 t.reader.0
    c.requires.crew.0.1.gave

pub close_run-requires-clause-named : goal.close_run-requires-clause-named
close_run-requires-clause-named g c =
    let t = c.run_threads-sent.ensures in
    let r = c.run_threads-sent.new in
    let crew = c.args.crew in
    let z = c.args.shared.shared.table.shared.table_id in
    let all = crew_ran z crew.lanes.items r.crew.lanes.items crew.home r.crew.home crew.sender r.crew.sender crew.reader
    r.crew.reader t.lanes.1 t.lanes.0 t.sender.0 t.reader.0 in
    ran_names _ z _ _ all ∙ c.requires.crew.0.1.named ∙ ap (λ (l : List Lane). named_in_order (length l))
    (sym (ran_made moves_none z _ _ t.lanes.0).0)

pub returns-in-Ok-clause-runs : goal.returns-in-Ok-clause-runs
returns-in-Ok-clause-runs g c =
    let t = c.run_threads-sent.ensures in
    let first = (claim_by c.args.crew.home).sight in
    runs_made first.lanes first.options first (claim_by c.run_threads-sent.new.crew.home).sight
    c.in-Ok.report (refl, refl)
    (ran_made moves_none c.args.shared.shared.table.shared.table_id _ _ t.lanes.0) c.in-Ok.ensures.runs

pub returns-in-Ok-clause-over : goal.returns-in-Ok-clause-over
returns-in-Ok-clause-over g c =
    let t = c.run_threads-sent.ensures in
    let first = (claim_by c.args.crew.home).sight in
    let report = c.in-Ok.report in
    let runs = runs_made first.lanes first.options first (claim_by c.run_threads-sent.new.crew.home).sight report
    (refl, refl)
    (ran_made moves_none c.args.shared.shared.table.shared.table_id _ _ t.lanes.0) c.in-Ok.ensures.runs in
    let l = c.as_slice.result.now in
    let count = c.requires.crew.1 in
    subst (λ (k : ℕ). IsEnded k (reverse report.journal.items)) (sym count)
    (ended_run first.lanes first.options report l c.is_ended.result runs c.as_slice.ensures.value
    (c.is_ended.ensures ∙ ap (λ (k : ℕ). list_all is_handed_in l
    && (length (filter is_submit l) == length (filter is_take l))
    && (length (filter is_let_go l) == k)) count) c.if-not-is_ended.false)

pub returns-in-Ok-clause-ends : goal.returns-in-Ok-clause-ends
returns-in-Ok-clause-ends g c =
    let t = c.run_threads-sent.ensures in
    let r = c.run_threads-sent.new in
    let crew = c.args.crew in
    let is = c.requires.crew.0.1 in
    let z = c.args.shared.shared.table.shared.table_id in
    let all = crew_complete z crew.lanes.items r.crew.lanes.items crew.home r.crew.home crew.sender r.crew.sender
    crew.reader
    r.crew.reader t.lanes.1 t.lanes.0 t.sender.0
    t.reader.0 is.gave in
    let out = g.O.LinkState.state c.args.halves.out in
    let out' = g.O.LinkState.state r.out in
    let input = g.I.LinkState.state c.args.halves.input in
    let input' = g.I.LinkState.state r.input in
    let flushes = subst (λ (x : Result (Unit {0}) Error). WorkedUntilEnd FlushWorks x (crew.sender.inner.me, out)
    (r.crew.sender.inner.me, out')) c.in-None.ensures.0 t.sender.1 in
    let gets = subst (λ (x : Result (Unit {0}) Error). WorkedUntilEnd ReadWorks x (crew.reader.inner.me, input)
    (r.crew.reader.inner.me, input')) c.in-None.ensures.1 t.reader.1 in
    workers_end z c.requires.crew.0.0 crew.lanes.items r.crew.lanes.items crew.home r.crew.home crew.sender
    r.crew.sender
    crew.reader r.crew.reader
    c.in-Ok.report c.in-Ok.ensures.reported t.lanes.1 is.made t.lanes.0 is.moved t.sender.0 t.reader.0
    is.sender is.reader all
    out out' input input' flushes gets
