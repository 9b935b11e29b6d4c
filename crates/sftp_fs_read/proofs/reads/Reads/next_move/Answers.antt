use Rattle.sftp_fs_read.proofs.MoveLaws.{reads_in_range}
use Rattle.sftp_fs_read.proofs.reads.Reads.next_move.Goals as goal

pub next_move-requires-clause-range : goal.next_move-requires-clause-range
next_move-requires-clause-range c =
    reads_in_range (record {
      facts = c.self.inside.facts;
      handle = c.self.inside.handle;
      place = c.self.inside.place;
      window = c.self.inside.window;
    })
    4294967295 c.self.invariant
