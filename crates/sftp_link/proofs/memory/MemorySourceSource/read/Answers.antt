use Rattle.std.proofs.Common.{rules, arith, ◌≡◌, ◌+◌, ◌-◌, take, drop, length}
use Rattle.sftp_link.proofs.Telling.{came}
use Rattle.sftp_link.proofs.memory.MemorySourceSource.read.Goals as goal

pub returns-clause-reads : goal.returns-clause-reads
returns-clause-reads c =
    let items : c.deref.result.now ≡ c.self.inside.bytes.items = c.deref.ensures.value in
    let n : (c.self.inside.at + c.min-n.result) - c.self.inside.at ≡ c.min-n.result = omega arith in
    let copied : c.copy_from_slice.new.self ≡ take c.min-n.result (drop c.self.inside.at c.self.inside.bytes.items) =
    cc (c.copy_from_slice.ensures.after) in
    record {
      within = search rules;
      bytes = rw (← c.self.view_is) (came c.self.inside.bytes.items c.copy_from_slice.new.self
          (drop c.min-n.result c.args.room.now) (length c.args.room.now) c.self.inside.at c.min-n.result (omega arith)
          (omega arith) (omega (arith, c.min-n.ensures)) copied);
      cause = search rules;
    }
