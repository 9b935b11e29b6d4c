use Rattle.std.proofs.Common.{refl}
use Rattle.sftp_model.specs.declared.request.Request.TheVariants as request
use Rattle.plan_model.specs.PathPlans.{path_done, remove_next}
use Rattle.sftp_fs.proofs.PathLaws.{one_path}
use Rattle.sftp_fs.proofs.fs.Fs.start_remove_file.Goals as goal

pub returns : goal.returns
returns c =
    c.ask_status.ensures c.args.self.now (remove_next c.args.path.now)
    (one_path path_done (λ p. request.Remove p) c.args.self.now c.args.path.now _ _ c.in_ok-path.ensures.path refl)
