use Rattle.transfer_copy.specs.Holdings.{ClosesFile}
use Rattle.std.proofs.Common.{rules}
use Rattle.transfer_copy.proofs.DropLaws.{file_closed}
use Rattle.transfer_copy.proofs.holding.Holding.close.Goals as goal

pub returns-clause-apart : goal.returns-clause-apart
returns-clause-apart c =
    let closes : ClosesFile c.args.core.now c.args.self.now c.release.new.self _ = search rules in
    file_closed c.args.core.now c.release.new.self c.args.self.now _ c.requires.held closes
