use Rattle.std.proofs.Common.{refl}
use Rattle.plan_model.specs.PathPlans.{path_done}
use Rattle.sftp_file.specs.Settles.{settle_meaning}
use Rattle.sftp_fs.proofs.PathLaws.{starts_from}
use Rattle.sftp_fs.proofs.asks.ask_status.Goals as goal

pub returns : goal.returns
returns c cwd plan is =
    starts_from settle_meaning path_done c.args.request _ cwd plan c.args.core.now c.ask.new.core c.ask.result
    (λ site answers. record { first = refl; rest = λ later. refl; knows = tt }) is c.ask.ensures
