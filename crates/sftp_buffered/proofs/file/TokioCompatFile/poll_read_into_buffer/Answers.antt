use Rattle.std.proofs.Common.{rules, ◌≡◌, true, false}
use Rattle.sftp_buffered.proofs.Reading.{fill_reads, unreadable_fills}
use Rattle.sftp_buffered.proofs.file.TokioCompatFile.poll_read_into_buffer.Goals as goal

pub returns : goal.returns
returns c =
    let may : c.args.self.now.file.readable ≡ true = search rules in
    fill_reads c.args.amt c.args.core.now c.fill.new.core c.args.self.now c.fill.new.self c.fill.result may
    c.requires.sound c.fill.ensures

pub returns-then-not-is_readable : goal.returns-then-not-is_readable
returns-then-not-is_readable c =
    let not_so : c.args.self.now.file.readable ≡ false = search rules in
    unreadable_fills c.args.amt c.args.core.now c.args.self.now not_so c.requires.sound
