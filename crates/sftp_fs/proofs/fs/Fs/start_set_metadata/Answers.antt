use Rattle.std.proofs.Common.{ap}
use Rattle.sftp_model.specs.declared.file_attrs.FileAttrs.{FileAttrs}
use Rattle.sftp_model.specs.declared.request.Request.TheVariants as request
use Rattle.plan_model.specs.PathPlans.{path_done}
use Rattle.sftp_fs.specs.SettingPlans.{set_attrs_next}
use Rattle.sftp_fs.proofs.PathLaws.{one_path}
use Rattle.sftp_fs.proofs.fs.Fs.start_set_metadata.Goals as goal

pub returns : goal.returns
returns c =
    c.ask_status.ensures c.args.self.now (set_attrs_next c.args.path.now c.args.metadata)
    (one_path path_done (λ p. request.Setstat p c.args.metadata) c.args.self.now c.args.path.now _ _
    c.in_ok-path.ensures.path (ap (λ (a : FileAttrs). request.Setstat c.in_ok-path.path a) c.into_inner-attrs.ensures))
