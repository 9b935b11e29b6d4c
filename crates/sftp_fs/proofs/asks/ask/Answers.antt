use Rattle.std.proofs.Common.{rules}
use Rattle.sftp_fs.proofs.PathLaws.{asked_first}
use Rattle.sftp_fs.proofs.asks.ask.Goals as goal

pub returns : goal.returns
returns g c =
    asked_first _ c.args.request c.args.runner c.args.core.now c.ask.new.core c.ask.result (search rules)
    c.ask.ensures.started c.ask.ensures.begins c.ask.ensures.keeps
