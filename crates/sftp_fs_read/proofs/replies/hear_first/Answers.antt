use Rattle.std.proofs.Common.{rules}
use Rattle.sftp_fs_read.specs.Reads.{IsWhyOver}
use Rattle.sftp_fs_read.proofs.HearLaws.{over_for}
use Rattle.sftp_fs_read.proofs.replies.hear_first.Goals as goal

pub returns-in-Err : goal.returns-in-Err
returns-in-Err c =
    let why : IsWhyOver c.args.reads c.in-Came.reply c.in-Err.e = search rules in (
      over_for c.args.core.now c.args.reads c.args.ticket c.in-Came.reply c.in-Err.e c.in-Came.ensures.0.taken why,
      c.in-Came.ensures.1,
    )
