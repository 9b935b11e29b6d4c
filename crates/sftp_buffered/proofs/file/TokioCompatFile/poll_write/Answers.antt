use Rattle.std.proofs.Common.{rules, ◌≡◌, ◌==◌, true, false, length, [], ◌∷◌, ap, Ok, Err, take}
use Rattle.sftp_model.specs.Pieces.{joined_pieces}
use Rattle.plan_state.specs.declared.poll.Poll.TheVariants as poll
use Rattle.sftp_buffered.specs.Writes.{IsOnePart, IsWindow}
use Rattle.sftp_buffered.proofs.Holding.{parts_of}
use Rattle.sftp_buffered.proofs.WritePolls.{
  MayWrite,
  empty_writes,
  pending_writes,
  refused_writes,
  sent_writes,
  short_writes,
  unwritable_writes,
}
use Rattle.sftp_buffered.proofs.file.TokioCompatFile.poll_write.Goals as goal

pub returns-in-Pending : goal.returns-in-Pending
returns-in-Pending c =
    let m : MayWrite c.args.buf.now c.args.self.now = record { may = search rules; some = search rules } in
    let w : IsWindow c.args.core.now c.poll_window.new.core c.args.self.now c.poll_window.new.self poll.Pending =
    search rules in
    pending_writes (IsOnePart c.args.buf.now c.args.self.now) c.args.buf.now c.args.core.now c.poll_window.new.core c.args.self.now c.poll_window.new.self m
    c.requires.sound w

pub returns-in-Ready-Err : goal.returns-in-Ready-Err
returns-in-Ready-Err c =
    let m : MayWrite c.args.buf.now c.args.self.now = record { may = search rules; some = search rules } in
    let w : IsWindow c.args.core.now c.poll_window.new.core c.args.self.now c.poll_window.new.self
    (poll.Ready (Err c.in-Ready-Err.e)) = search rules in
    refused_writes (IsOnePart c.args.buf.now c.args.self.now) c.args.buf.now c.args.core.now c.poll_window.new.core c.args.self.now c.poll_window.new.self
    c.in-Ready-Err.e m c.requires.sound w

pub returns-in-Ok : goal.returns-in-Ok
returns-in-Ok c =
    let m : MayWrite c.args.buf.now c.args.self.now = record { may = search rules; some = search rules } in
    let w : IsWindow c.args.core.now c.poll_window.new.core c.args.self.now c.poll_window.new.self
    (poll.Ready (Ok c.in-Ready-Ok.window)) = search rules in
    let one : c.deref.result.now ≡ take c.min-len.result c.args.buf.now ∷ [] = search rules in
    let first : joined_pieces c.deref.result.now ≡ take c.min-len.result c.args.buf.now = search rules in
    sent_writes (IsOnePart c.args.buf.now c.args.self.now) c.args.buf.now c.args.core.now c.poll_window.new.core c.send.new.core c.args.self.now
    c.poll_window.new.self c.send.new.self c.in-Ready-Ok.window c.deref.result.now c.min-len.result c.send.result
    m c.requires.sound w.1 (record { room = w.0; len = c.min-len.ensures; first = first; cut = (c.min-len.result, ap (parts_of c.args.self.now) one) }) c.send.ensures.ok
    c.send.ensures.err

pub returns-then-not-is_writable : goal.returns-then-not-is_writable
returns-then-not-is_writable c =
    let not_so : c.args.self.now.file.writable ≡ false = search rules in
    unwritable_writes (IsOnePart c.args.buf.now c.args.self.now) c.args.buf.now c.args.core.now c.args.self.now not_so c.requires.sound

pub returns-then-is_empty : goal.returns-then-is_empty
returns-then-is_empty c =
    let may : c.args.self.now.file.writable ≡ true = search rules in
    let none : (length c.args.buf.now == 0) ≡ true = search rules in
    empty_writes (IsOnePart c.args.buf.now c.args.self.now) c.args.buf.now c.args.core.now c.args.self.now may none c.requires.sound

pub returns-in-Err : goal.returns-in-Err
returns-in-Err c =
    let w : IsWindow c.args.core.now c.poll_window.new.core c.args.self.now c.poll_window.new.self
    (poll.Ready (Ok c.in-Ready-Ok.window)) = search rules in
    short_writes (IsOnePart c.args.buf.now c.args.self.now) c.args.buf.now c.args.core.now c.poll_window.new.core
    c.args.self.now c.poll_window.new.self c.in-Ready-Ok.window c.requires.sound w.0 w.1
