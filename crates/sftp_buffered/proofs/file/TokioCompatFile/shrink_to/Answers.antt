use Rattle.std.proofs.Common.{rules, ◌≡◌, false}
use Rattle.std.specs.Prelude.{nat_le}
use Rattle.sftp_buffered.specs.Whole.{with_empty_buffer}
use Rattle.sftp_buffered.proofs.Abandoning.{shrinks}
use Rattle.sftp_buffered.proofs.file.TokioCompatFile.shrink_to.Goals as goal

pub returns : goal.returns
returns c =
    let over : nat_le c.args.self.now.capacity c.args.new_cap ≡ false = search rules in
    let left : c.drop_read.new.self ≡ record (with_empty_buffer c.args.self.now) { capacity = c.args.new_cap } =
    search rules in
    shrinks c.args.new_cap c.args.core.now c.drop_read.new.core c.args.self.now c.drop_read.new.self over c.requires
    left (search rules)
