use Rattle.plan_model.specs.PathPlans.{canonical_request, canonicalize_next, path_named}
use Rattle.sftp_file.specs.Files.{facts_of}
use Rattle.sftp_fs.proofs.PathLaws.{one_path}
use Rattle.sftp_fs.proofs.fs.Fs.start_canonicalize.Goals as goal

pub returns : goal.returns
returns c =
    c.ask_name.ensures c.args.self.now (canonicalize_next c.args.path.now)
    (one_path path_named (canonical_request (facts_of c.args.core.now)) c.args.self.now c.args.path.now _ _
    c.in_ok-path.ensures.path c.canonical_request-request.ensures)
