use Rattle.std.proofs.Common.{◌≡◌, ◌-◌}
use Rattle.sftp_model.specs.Readings.{behind_pairs}
use Rattle.sftp_wire.proofs.field_readers.skip_pairs.Given as goal

-- what stands after the pairs that are left is what stands after them all
abbrev pub invariant-loop-i : goal.invariant-loop-i
invariant-loop-i g l = behind_pairs (l.count - l.i) (g.R.Reader.left l.reader)
    ≡ behind_pairs l.count (g.R.Reader.left l.fn.reader)
