use Rattle.plan_model.specs.PathPlans.{path_done, rename_next, rename_request}
use Rattle.sftp_file.specs.Files.{facts_of}
use Rattle.sftp_fs.proofs.PathLaws.{two_paths}
use Rattle.sftp_fs.proofs.fs.Fs.start_rename.Goals as goal

pub returns : goal.returns
returns c =
    c.ask_status.ensures c.args.self.now (rename_next c.args.old.now c.args.to.now)
    (two_paths path_done (rename_request (facts_of c.args.core.now)) c.args.self.now c.args.old.now c.args.to.now _ _ _
    c.in_ok-old.ensures.path c.in_ok-to.ensures.path c.rename_request-request.ensures)
