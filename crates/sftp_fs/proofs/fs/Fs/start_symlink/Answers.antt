use Rattle.std.proofs.Common.{refl}
use Rattle.sftp_model.specs.declared.request.Request.TheVariants as request
use Rattle.plan_model.specs.PathPlans.{path_done, symlink_next}
use Rattle.sftp_fs.proofs.PathLaws.{two_paths}
use Rattle.sftp_fs.proofs.fs.Fs.start_symlink.Goals as goal

pub returns : goal.returns
returns c =
    c.ask_status.ensures c.args.self.now (symlink_next c.args.src.now c.args.dst.now)
    (two_paths path_done (λ a b. request.Symlink a b) c.args.self.now c.args.src.now c.args.dst.now _ _ _
    c.in_ok-src.ensures.path c.in_ok-dst.ensures.path refl)
