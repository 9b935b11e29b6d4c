use Rattle.std.proofs.Common.{rules, ◌≡◌}
use Rattle.sftp_core.specs.Core.{core_after_retain}
use Rattle.sftp_file.proofs.Granting.{retained_grant}
use Rattle.sftp_file.proofs.file.File.clone_file.Goals as goal

pub returns-clause-granted : goal.returns-clause-granted
returns-clause-granted c =
    let kept : c.retain.new.self ≡ core_after_retain c.args.core.now c.args.self.now.grant = search rules in
    rw kept (retained_grant c.args.core.now c.args.self.now.grant)
