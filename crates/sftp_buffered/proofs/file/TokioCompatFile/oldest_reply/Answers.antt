use Rattle.std.proofs.Common.{rules, ◌≡◌, Some, slice_get}
use Rattle.sftp_buffered.proofs.Fronts.{held_oldest}
use Rattle.sftp_buffered.proofs.file.TokioCompatFile.oldest_reply.Goals as goal

pub peek-requires : goal.peek-requires
peek-requires c =
    let front : slice_get c.args.self.now.deferred 0 ≡ Some c.in-Some.write.now = search rules in
    (held_oldest c.args.core.now c.args.self.now.deferred c.in-Some.write.now front c.requires).counted
