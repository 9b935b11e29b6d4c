use Rattle.std.proofs.Common.{◌∙◌, subst}
use Rattle.sftp_model.specs.declared.file_attrs.FileAttrs.{FileAttrs}
use Rattle.sftp_file.specs.Settles.{settle_meaning}
use Rattle.sftp_fs.specs.PathStarts.{StartsFrom}
use Rattle.sftp_fs.specs.SettingPlans.{make_dir_next}
use Rattle.sftp_fs.proofs.fs.Fs.start_create_dir.Goals as goal

pub returns : goal.returns
returns c =
    subst (λ (attrs : FileAttrs). StartsFrom settle_meaning (make_dir_next c.args.path.now attrs) c.args.self.now
    c.args.core.now
    c.make_dir.new.core c.make_dir.result) (c.create.ensures ∙ c.new.ensures) c.make_dir.ensures
