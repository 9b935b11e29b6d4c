use Rattle.std.proofs.Common.{rules, ◌≡◌, ◌==◌, ◌∙◌, sym, ap, true, false, length, Ok, Err, take, min}
use Rattle.sftp_model.specs.Pieces.{joined_pieces}
use Rattle.plan_state.specs.declared.poll.Poll.TheVariants as poll
use Rattle.sftp_file.specs.Parts.{cut_at}
use Rattle.sftp_buffered.specs.Writes.{IsCutOut, IsWindow}
use Rattle.sftp_buffered.proofs.Holding.{parts_of}
use Rattle.sftp_buffered.proofs.Pieces.{first_of, none_joined}
use Rattle.sftp_buffered.proofs.WritePolls.{
  MayWrite,
  SendsPart,
  empty_writes,
  pending_writes,
  refused_writes,
  sent_writes,
  short_writes,
  unwritable_writes,
}
use Rattle.sftp_buffered.proofs.file.TokioCompatFile.poll_write_vectored.Goals as goal

pub returns-then-are_empty : goal.returns-then-are_empty
returns-then-are_empty c =
    let may : c.args.self.now.file.writable ≡ true = search rules in
    let none : (length (joined_pieces c.args.bufs.now) == 0) ≡ true = sym (none_joined c.args.bufs.now)
    ∙ (sym c.are_empty.ensures ∙ c.if-are_empty.true) in
    empty_writes (IsCutOut c.args.bufs.now c.args.self.now) (joined_pieces c.args.bufs.now) c.args.core.now
    c.args.self.now may none c.requires.sound

pub returns-in-Pending : goal.returns-in-Pending
returns-in-Pending c =
    let some : (length (joined_pieces c.args.bufs.now) == 0) ≡ false = sym (none_joined c.args.bufs.now)
    ∙ (sym c.are_empty.ensures ∙ c.if-are_empty.false) in
    let m : MayWrite (joined_pieces c.args.bufs.now) c.args.self.now = record { may = search rules; some = some } in
    let w : IsWindow c.args.core.now c.poll_window.new.core c.args.self.now c.poll_window.new.self poll.Pending =
    search rules in
    pending_writes (IsCutOut c.args.bufs.now c.args.self.now) (joined_pieces c.args.bufs.now) c.args.core.now
    c.poll_window.new.core c.args.self.now c.poll_window.new.self m c.requires.sound w

pub returns-in-Ready-Err : goal.returns-in-Ready-Err
returns-in-Ready-Err c =
    let some : (length (joined_pieces c.args.bufs.now) == 0) ≡ false = sym (none_joined c.args.bufs.now)
    ∙ (sym c.are_empty.ensures ∙ c.if-are_empty.false) in
    let m : MayWrite (joined_pieces c.args.bufs.now) c.args.self.now = record { may = search rules; some = some } in
    let w : IsWindow c.args.core.now c.poll_window.new.core c.args.self.now c.poll_window.new.self
    (poll.Ready (Err c.in-Ready-Err.e)) = search rules in
    refused_writes (IsCutOut c.args.bufs.now c.args.self.now) (joined_pieces c.args.bufs.now) c.args.core.now
    c.poll_window.new.core c.args.self.now c.poll_window.new.self c.in-Ready-Err.e m c.requires.sound w

pub returns-in-Ok : goal.returns-in-Ok
returns-in-Ok c =
    let some : (length (joined_pieces c.args.bufs.now) == 0) ≡ false = sym (none_joined c.args.bufs.now)
    ∙ (sym c.are_empty.ensures ∙ c.if-are_empty.false) in
    let m : MayWrite (joined_pieces c.args.bufs.now) c.args.self.now = record { may = search rules; some = some } in
    let w : IsWindow c.args.core.now c.poll_window.new.core c.args.self.now c.poll_window.new.self
    (poll.Ready (Ok c.in-Ready-Ok.window)) = search rules in
    let len : c.in-Ok.len ≡ min (length (joined_pieces c.args.bufs.now)) c.in-Ready-Ok.window.len = search rules in
    let taken : joined_pieces c.deref.result.now ≡ take c.in-Ready-Ok.window.len (joined_pieces c.args.bufs.now) =
    search rules in
    let cut : c.deref.result.now ≡ cut_at 0 c.in-Ready-Ok.window.len c.args.bufs.now = search rules in
    let part : SendsPart (IsCutOut c.args.bufs.now c.args.self.now) (joined_pieces c.args.bufs.now) c.args.core.now
    c.args.self.now c.in-Ready-Ok.window c.deref.result.now c.in-Ok.len = record {
      room = w.0;
      len = len;
      first = first_of c.in-Ok.len c.in-Ready-Ok.window.len (joined_pieces c.args.bufs.now)
          (joined_pieces c.deref.result.now) len taken;
      cut = (c.in-Ready-Ok.window.len, ap (parts_of c.args.self.now) cut);
    } in
    sent_writes (IsCutOut c.args.bufs.now c.args.self.now) (joined_pieces c.args.bufs.now) c.args.core.now
    c.poll_window.new.core c.send.new.core c.args.self.now c.poll_window.new.self c.send.new.self
    c.in-Ready-Ok.window c.deref.result.now c.in-Ok.len
    c.send.result m c.requires.sound w.1 part c.send.ensures.ok c.send.ensures.err

pub returns-then-not-is_writable : goal.returns-then-not-is_writable
returns-then-not-is_writable c =
    let not_so : c.args.self.now.file.writable ≡ false = search rules in
    unwritable_writes (IsCutOut c.args.bufs.now c.args.self.now) (joined_pieces c.args.bufs.now) c.args.core.now
    c.args.self.now not_so c.requires.sound

pub returns-in-Err : goal.returns-in-Err
returns-in-Err c =
    let w : IsWindow c.args.core.now c.poll_window.new.core c.args.self.now c.poll_window.new.self
    (poll.Ready (Ok c.in-Ready-Ok.window)) = search rules in
    short_writes (IsCutOut c.args.bufs.now c.args.self.now) (joined_pieces c.args.bufs.now) c.args.core.now
    c.poll_window.new.core c.args.self.now c.poll_window.new.self c.in-Ready-Ok.window c.requires.sound w.0 w.1
