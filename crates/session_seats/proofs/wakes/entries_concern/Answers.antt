use Rattle.std.proofs.Common.{rules, ◌≡◌, get_or}
use Rattle.session_seats.proofs.WakeLaws.{concerns_step}
use Rattle.session_seats.proofs.wakes.entries_concern.Goals as goal

pub loop-place-preserved : goal.loop-place-preserved
loop-place-preserved c =
    let x = c.index-journal-place.result in
    let at : x ≡ get_or c.args.journal.now c.loop-place.place x = search rules in
    concerns_step c.args.journal.now c.args.from c.loop-place.place x c.with_entry-set.result c.loop-place.set
    (search rules) c.loop-place-test.true at c.loop-place.invariant c.with_entry-set.ensures
