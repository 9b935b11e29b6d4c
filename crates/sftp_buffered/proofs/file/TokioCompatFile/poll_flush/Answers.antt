use Rattle.std.proofs.Common.{rules, ◌≡◌, true, false, None, slice_get}
use Rattle.sftp_buffered.proofs.Flushing.{flushes, flushes_all, unwritable_flushes}
use Rattle.sftp_buffered.proofs.file.TokioCompatFile.poll_flush.Goals as goal

pub returns-then-is_none : goal.returns-then-is_none
returns-then-is_none c =
    let may : c.args.self.now.file.writable ≡ true = search rules in
    let none : slice_get c.settle.new.self.deferred 0 ≡ None = search rules in
    flushes_all c.args.core.now c.settle.new.core c.args.self.now c.settle.new.self may c.settle.ensures none

pub returns : goal.returns
returns c =
    let may : c.args.self.now.file.writable ≡ true = search rules in
    let some : slice_get c.settle.new.self.deferred 0 ≡ None → ⊥ = search rules in
    flushes c.args.core.now c.settle.new.core c.poll_oldest.new.core c.args.self.now c.settle.new.self
    c.poll_oldest.new.self c.poll_oldest.result may c.settle.ensures some c.poll_oldest.ensures

pub returns-then-not-is_writable : goal.returns-then-not-is_writable
returns-then-not-is_writable c =
    let not_so : c.args.self.now.file.writable ≡ false = search rules in
    unwritable_flushes c.args.core.now c.args.self.now not_so c.requires
