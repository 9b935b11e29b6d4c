use Rattle.std.proofs.Common.{rules, ◌≡◌, ◌==◌, true, false, length, []}
use Rattle.plan_state.proofs.Going.{short_any}
use Rattle.std.specs.Prelude.{min}
use Rattle.sftp_file.specs.Files.{facts_of}
use Rattle.sftp_buffered.specs.Reads.{FillsBuffer}
use Rattle.sftp_buffered.proofs.Reading.{empty_is, ready_reads, ready_stays, unreadable_ready}
use Rattle.sftp_buffered.proofs.file.TokioCompatFile.poll_fill_buf.Goals as goal

pub returns-clause-reads : goal.returns-clause-reads
returns-clause-reads c =
    let may : c.args.self.now.file.readable ≡ true = search rules in
    let none : (length c.args.self.now.buffered == 0) ≡ true = search rules in
    let fills : FillsBuffer (min c.args.self.now.buffer_len (facts_of c.args.core.now).read_len) c.args.core.now
    c.fill.new.core c.args.self.now c.fill.new.self c.fill.result = search rules in
    ready_reads c.args.core.now c.fill.new.core c.args.self.now c.fill.new.self c.fill.result may none c.requires.sound
    fills

pub returns-then-not-is_empty-clause-reads : goal.returns-then-not-is_empty-clause-reads
returns-then-not-is_empty-clause-reads c =
    let some : (length c.args.self.now.buffered == 0) ≡ false = search rules in
    ready_stays c.args.core.now c.args.self.now some c.requires.sound

pub returns-then-not-is_readable-clause-reads : goal.returns-then-not-is_readable-clause-reads
returns-then-not-is_readable-clause-reads c =
    let none : (length c.args.self.now.buffered == 0) ≡ true = search rules in
    let not_so : c.args.self.now.file.readable ≡ false = search rules in
    unreadable_ready c.args.core.now c.args.self.now not_so none c.requires.sound

pub returns-clause-memory : goal.returns-clause-memory
returns-clause-memory c =
    let none : (length c.args.self.now.buffered == 0) ≡ true = search rules in
    short_any c.fill.result (c.args.self.now.buffered ≡ []) (empty_is c.args.self.now.buffered none)
