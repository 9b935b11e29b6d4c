use Rattle.std.proofs.Common.{rules, ◌≡◌, ◌==◌, refl, ℕ, true, false, length, [], Ok, Err}
use Rattle.std.specs.Prelude.{min, max}
use Rattle.plan_state.proofs.Going.{short_any}
use Rattle.plan_state.specs.declared.poll.Poll.TheVariants as poll
use Rattle.sftp_file.specs.Files.{facts_of}
use Rattle.sftp_buffered.specs.Reads.{FillsBuffer}
use Rattle.sftp_buffered.proofs.Reading.{IsPut, empty_is}
use Rattle.sftp_buffered.proofs.BufferReads.{
  MayRead,
  buffered_reads,
  empty_reads,
  filled_reads,
  pending_reads,
  refused_reads,
  unreadable_reads,
}
use Rattle.sftp_buffered.proofs.file.TokioCompatFile.poll_read.Goals as goal

pub returns-then-not-is_empty-clause-reads : goal.returns-then-not-is_empty-clause-reads
returns-then-not-is_empty-clause-reads c =
    let m : MayRead (length c.args.room.now) c.args.self.now = record { may = search rules; some = search rules } in
    let there : (length c.args.self.now.buffered == 0) ≡ false = search rules in
    let put : IsPut (length c.args.room.now) c.give.result c.args.self.now.buffered c.args.room.now c.give.new.room =
    record { room = refl; len = c.give.ensures.len; put = c.give.ensures.room } in
    buffered_reads (length c.args.room.now) c.give.result c.args.core.now c.args.self.now c.give.new.self
    c.args.room.now c.give.new.room m there c.requires.sound put c.give.ensures.left

pub returns-in-Pending-clause-reads : goal.returns-in-Pending-clause-reads
returns-in-Pending-clause-reads c =
    let m : MayRead (length c.args.room.now) c.args.self.now = record { may = search rules; some = search rules } in
    let none : (length c.args.self.now.buffered == 0) ≡ true = search rules in
    let fills : FillsBuffer (min (max (length c.args.room.now) c.args.self.now.buffer_len)
    (facts_of c.args.core.now).read_len) c.args.core.now c.fill.new.core c.args.self.now c.fill.new.self
    poll.Pending = search rules in
    pending_reads (length c.args.room.now) c.args.core.now c.fill.new.core c.args.self.now c.fill.new.self
    c.args.room.now m none c.requires.sound fills

pub returns-in-Ready-Err-clause-reads : goal.returns-in-Ready-Err-clause-reads
returns-in-Ready-Err-clause-reads c =
    let m : MayRead (length c.args.room.now) c.args.self.now = record { may = search rules; some = search rules } in
    let none : (length c.args.self.now.buffered == 0) ≡ true = search rules in
    let fills : FillsBuffer (min (max (length c.args.room.now) c.args.self.now.buffer_len)
    (facts_of c.args.core.now).read_len) c.args.core.now c.fill.new.core c.args.self.now c.fill.new.self
    (poll.Ready (Err c.in-Ready-Err.e)) = search rules in
    refused_reads (length c.args.room.now) c.args.core.now c.fill.new.core c.args.self.now c.fill.new.self
    c.args.room.now c.in-Ready-Err.e m none c.requires.sound fills

pub returns-in-Ready-Ok-clause-reads : goal.returns-in-Ready-Ok-clause-reads
returns-in-Ready-Ok-clause-reads c =
    let m : MayRead (length c.args.room.now) c.args.self.now = record { may = search rules; some = search rules } in
    let none : (length c.args.self.now.buffered == 0) ≡ true = search rules in
    let fills : FillsBuffer (min (max (length c.args.room.now) c.args.self.now.buffer_len)
    (facts_of c.args.core.now).read_len) c.args.core.now c.fill.new.core c.args.self.now c.fill.new.self
    (poll.Ready (Ok tt)) = search rules in
    let put : IsPut (length c.args.room.now) c.give-in-Ready-Ok.result c.fill.new.self.buffered c.args.room.now
    c.give-in-Ready-Ok.new.room = record {
      room = refl;
      len = c.give-in-Ready-Ok.ensures.len;
      put =
          c.give-in-Ready-Ok.ensures.room;
    } in
    filled_reads (length c.args.room.now) c.give-in-Ready-Ok.result c.args.core.now c.fill.new.core c.args.self.now
    c.fill.new.self c.give-in-Ready-Ok.new.self c.args.room.now c.give-in-Ready-Ok.new.room m none c.requires.sound
    fills put c.give-in-Ready-Ok.ensures.left

pub returns-then-not-is_readable-clause-reads : goal.returns-then-not-is_readable-clause-reads
returns-then-not-is_readable-clause-reads c =
    let not_so : c.args.self.now.file.readable ≡ false = search rules in
    unreadable_reads (length c.args.room.now) c.args.core.now c.args.self.now c.args.room.now not_so c.requires.sound

pub returns-then-is_empty-clause-reads : goal.returns-then-is_empty-clause-reads
returns-then-is_empty-clause-reads c =
    let may : c.args.self.now.file.readable ≡ true = search rules in
    let none : (length c.args.room.now == 0) ≡ true = search rules in
    empty_reads (length c.args.room.now) c.args.core.now c.args.self.now c.args.room.now may none c.requires.sound

pub returns-in-Ready-Err-clause-memory : goal.returns-in-Ready-Err-clause-memory
returns-in-Ready-Err-clause-memory c =
    let none : (length c.args.self.now.buffered == 0) ≡ true = search rules in
    short_any {V = ℕ} (poll.Ready (Err c.in-Ready-Err.e)) (c.args.self.now.buffered ≡ [])
    (empty_is c.args.self.now.buffered none)
