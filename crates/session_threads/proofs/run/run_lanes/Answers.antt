use denote.Param.Send.{sendable}
use Rattle.std.proofs.Common.{rules, ◌≡◌, length, subst, sym}
use Rattle.std.proofs.Crossing.{crosses}
use Rattle.std.specs.Prelude.{slice_index_or}
use Rattle.session_seats.proofs.seat.Seat.TheSendSync as seat
use Rattle.sftp_tasks.proofs.Sends.{locked_sends}
use Rattle.session_threads.proofs.Sends.{run_syncs}
use Rattle.session_threads.specs.Running.{AllRan, AllReady, HasRun, moves_none}
use Rattle.session_threads.proofs.RunLaws.{lent_items, ran_all, ready_is}
use Rattle.session_threads.proofs.run.run_lanes.Goals as goal

pub for_each_mut-requires-send-T : goal.for_each_mut-requires-send-T
for_each_mut-requires-send-T g c = search (sendable, crosses, locked_sends, seat.the_field_send) depth 20

pub for_each_mut-requires-sync-F : goal.for_each_mut-requires-sync-F
for_each_mut-requires-sync-F g c κs = search (
  sendable,
  crosses,
  run_syncs,
  c.type_bounds,
)
    depth 20

pub for_each_mut-requires-clause-accepts : goal.for_each_mut-requires-clause-accepts
for_each_mut-requires-clause-accepts g c κs within = λ i p less is.
    let z = c.args.run.now.shared.shared.table.shared.table_id in
    let value = c.as_mut_slice.ensures.value in
    ready_is z c.as_mut_slice.result.now (subst (λ l. AllReady z l) (sym value) c.requires.seats) i p.now less is

pub returns-clause-lanes : goal.returns-clause-lanes
returns-clause-lanes g c =
    let z = c.args.run.now.shared.shared.table.shared.table_id in
    let old = c.args.seats.now.items in
    let lent = c.as_mut_slice.result.now in
    let new = c.for_each_mut.new.s in
    let value = c.as_mut_slice.ensures.value in
    let count : c.args.seats.now.len ≡ length old = search rules in
    let long : length new ≡ length old = search rules in
    let same : length new ≡ length lent = search rules in
    subst (λ l. AllRan moves_none z old l) (sym (lent_items old new c.args.seats.now.len count long))
    (subst (λ l. AllRan moves_none z l new) value (ran_all moves_none z lent new same
    (λ i d less. let at = (c.for_each_mut.ensures i d less).1 in
    subst (λ y. HasRun moves_none z (slice_index_or lent i d) y) at.left
    (subst (λ x. HasRun moves_none z x at.after_call.now) at.argument_is at.call))))
