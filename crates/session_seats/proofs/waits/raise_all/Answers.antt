use Rattle.std.proofs.Common.{rules, refl}
use Rattle.session_seats.proofs.WakeLaws.{raising}
use Rattle.session_seats.proofs.waits.raise_all.Goals as goal

pub loop-place-preserved : goal.loop-place-preserved
loop-place-preserved c =
    raising c.args.counts.now c.loop-place.counts c.loop-place.place _ (search rules) refl c.loop-place.invariant
