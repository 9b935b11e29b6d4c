use Rattle.std.proofs.Common.{◌≡◌, ◌-◌}
use Rattle.sftp_model.specs.Readings.{with_pairs}
use Rattle.sftp_wire.proofs.reply_bodies.extensions.Given as goal

-- what the pairs that are left add is what all of them make
abbrev pub invariant-loop-i : goal.invariant-loop-i
invariant-loop-i g l = with_pairs (l.most - l.i) l.set (g.R.Reader.left l.reader)
    ≡ with_pairs l.most 0 (g.R.Reader.left l.fn.reader)
