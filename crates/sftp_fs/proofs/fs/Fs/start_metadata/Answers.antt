use Rattle.std.proofs.Common.{refl}
use Rattle.sftp_model.specs.declared.request.Request.TheVariants as request
use Rattle.plan_model.specs.PathPlans.{path_told, stat_next}
use Rattle.sftp_fs.proofs.PathLaws.{one_path}
use Rattle.sftp_fs.proofs.fs.Fs.start_metadata.Goals as goal

pub returns : goal.returns
returns c =
    c.ask_attrs.ensures c.args.self.now (stat_next c.args.path.now)
    (one_path path_told (λ p. request.Stat p) c.args.self.now c.args.path.now _ _ c.in_ok-path.ensures.path refl)
