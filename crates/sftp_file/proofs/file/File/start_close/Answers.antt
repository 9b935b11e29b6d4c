use Rattle.std.proofs.Common.{rules}
use Rattle.sftp_file.proofs.CloseLaws.{closes_by}
use Rattle.sftp_file.proofs.file.File.start_close.Goals as goal

pub returns : goal.returns
returns c = closes_by c.args.self c.args.core.now c.release.new.self c.close_call.result c.release.result (search rules)
    (search rules) c.close_call.ensures
