use Rattle.std.proofs.Common.{◌≡◌, ◌-◌}
use Rattle.ssh_encoding.specs.Reading.{with_prefix}
use Rattle.sftp_model.specs.ReplyReadings.{entries_at}
use Rattle.sftp_wire.proofs.reply_bodies.entries.Given as goal

-- the entries so far and those that are left are all of them
abbrev pub invariant-loop-i : goal.invariant-loop-i
invariant-loop-i g l = with_prefix l.entries.items (entries_at (l.count - l.i) (g.R.Reader.left l.reader))
    ≡ entries_at l.count (g.R.Reader.left l.fn.reader)
