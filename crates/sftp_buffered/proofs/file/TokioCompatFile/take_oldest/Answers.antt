use Rattle.std.proofs.Common.{◌≡◌, ap, subst, Some, List, slice_get}
use Rattle.sftp_model.specs.declared.answers.Expected.TheVariants as expected
use Rattle.sftp_buffered.specs.declared.file.DeferredWrite.{DeferredWrite}
use Rattle.sftp_buffered.specs.Buffered.{CompatValue}
use Rattle.sftp_buffered.proofs.Fronts.{held_oldest, taken_front}
use Rattle.sftp_buffered.proofs.file.TokioCompatFile.take_oldest.Goals as goal

pub status_value-requires : goal.status_value-requires
status_value-requires c =
    let write : DeferredWrite = record {
      place = c.in-Some.write.place;
      len = c.in-Some.write.len;
      ticket =
          c.in-Some.write.ticket;
    } in
    let same : c.self.inside.deferred.items ≡ c.args.self.now.deferred =
    ap (λ (x : CompatValue). x.deferred) c.self.view_is in
    let front : slice_get c.args.self.now.deferred 0 ≡ Some write =
    subst (λ (x : List DeferredWrite). slice_get x 0 ≡ Some write) same
    (taken_front c.self.inside.deferred.items c.pop_front.new.self.items c.pop_front.result write
    c.pop_front.ensures.items c.in-Some.is) in
    c.take_reply.ensures.allowed expected.Status (held_oldest c.args.core.now c.args.self.now.deferred write front
    c.requires.held).expects
