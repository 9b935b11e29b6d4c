use Rattle.std.proofs.Common.{rules, refl}
use Rattle.session_seats.proofs.WakeLaws.{raised_beyond, set_raised}
use Rattle.session_seats.proofs.waits.raise_at.Goals as goal

pub returns-then-place-counts : goal.returns-then-place-counts
returns-then-place-counts c = set_raised c.args.counts.now c.args.place _ c.if-place-counts.true refl

pub returns-else-place-counts : goal.returns-else-place-counts
returns-else-place-counts c = raised_beyond c.args.counts.now c.args.place (search rules)
