use Rattle.std.proofs.Common.{refl}
use Rattle.sftp_tasks.specs.Reported.{EndsSo}
use Rattle.sftp_tasks.proofs.CloseLaws.{covered, refused, reported}
use Rattle.sftp_tasks.proofs.shared_sftp.SharedSftp.close.Goals as goal

pub returns-in-Ok-clause-closes : goal.returns-in-Ok-clause-closes
returns-in-Ok-clause-closes g c =
    let ends : EndsSo _ _ _ _ = c.in-Ok.ensures.closes.1 in
    reported _ _ _ c.in-Ok.ensures.closes.0 ends.0 c.report_into.ensures ends.1.lists ends.1.opened ends.1.settled refl

pub returns-in-Ok-clause-covers : goal.returns-in-Ok-clause-covers
returns-in-Ok-clause-covers g c = λ complete.
    let ends : EndsSo _ _ _ _ = c.in-Ok.ensures.closes.1 in
    covered c.in-Ok.ended c.in-Ok.prepared.journal.items ends.1.lists.journal (c.in-Ok.ensures.covers complete)

pub returns-in-Err-clause-refused : goal.returns-in-Err-clause-refused
returns-in-Err-clause-refused g c =
    let r = c.in-Err.ensures.refused in
    refused c.args.seat _ c.args.others.items _ r.0 _ r.1.1 r.1.0
