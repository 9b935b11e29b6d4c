use Rattle.std.proofs.Common.{refl}
use Rattle.plan_model.specs.PathPlans.{path_named}
use Rattle.sftp_fs.specs.Names.{name_meaning}
use Rattle.sftp_fs.proofs.PathLaws.{starts_from}
use Rattle.sftp_fs.proofs.asks.ask_name.Goals as goal

pub returns : goal.returns
returns c cwd plan is =
    starts_from name_meaning path_named c.args.request _ cwd plan c.args.core.now c.ask.new.core c.ask.result
    (λ site answers. record { first = refl; rest = λ later. refl; knows = tt }) is c.ask.ensures
