use denote.Param.Send.{sendable}
use Rattle.std.proofs.Common.{rules, ◌≡◌, ◌<◌, ◌∙◌, length, subst, sym, ap}
use Rattle.std.proofs.Crossing.{sync}
use Rattle.session_seats.specs.Closes.{AllOf}
use Rattle.session_threads.proofs.Sends.{run_syncs, seat_sends}
use Rattle.session_threads.specs.Running.{AllReady}
use Rattle.session_threads.proofs.RunLaws.{lent_items, ready_is}
use Rattle.example_threads.proofs.Seats.{all_of}
use Rattle.example_threads.proofs.calls.run_lanes.Goals as goal

pub for_each_mut-requires-send-T : goal.for_each_mut-requires-send-T
for_each_mut-requires-send-T g c = search (sendable, seat_sends) depth 20

pub for_each_mut-requires-sync-F : goal.for_each_mut-requires-sync-F
for_each_mut-requires-sync-F g c κs = search (sendable, sync, run_syncs, c.type_bounds) depth 20

pub for_each_mut-requires-clause-accepts : goal.for_each_mut-requires-clause-accepts
for_each_mut-requires-clause-accepts g c κs within = λ i p less is.
    let z = c.args.run.now.shared.shared.table.shared.table_id in
    let value = c.as_mut_slice.ensures.value in
    ready_is z c.as_mut_slice.result.now (subst (λ l. AllReady z l) (sym value) c.requires.seats) i p.now less is

pub returns-clause-seats : goal.returns-clause-seats
returns-clause-seats g c =
    let z = c.args.run.now.shared.shared.table.shared.table_id in
    let old = c.args.seats.now.items in
    let lent = c.as_mut_slice.result.now in
    let new = c.for_each_mut.new.s in
    let count : c.args.seats.now.len ≡ length old = search rules in
    let long : length new ≡ length old = search rules in
    let same : length new ≡ length lent = search rules in
    subst (λ l. AllOf z l) (sym (lent_items old new c.args.seats.now.len count long))
    (all_of z new (λ i d less. let at = (c.for_each_mut.ensures i d (subst (λ n. i < n) same less)).1 in
    ap (λ s. s.inner.table_id) (sym at.left) ∙ at.call))
