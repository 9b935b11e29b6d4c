use Rattle.std.proofs.Common.{rules, ◌≡◌}
use Rattle.sftp_buffered.specs.Steps.{read_dropped}
use Rattle.sftp_buffered.specs.Whole.{EmptiesBuffer}
use Rattle.sftp_buffered.proofs.Abandoning.{empties}
use Rattle.sftp_buffered.proofs.file.TokioCompatFile.as_mut_file.Goals as goal

pub returns : goal.returns
returns c =
    let core : c.drop_read.new.core ≡ read_dropped c.args.core.now c.args.self.now.reading = search rules in
    let all : EmptiesBuffer c.args.core.now c.drop_read.new.core c.args.self.now =
    empties c.args.core.now c.drop_read.new.core c.args.self.now c.requires core in
    search rules
