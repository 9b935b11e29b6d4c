use Rattle.sftp_fs.proofs.BodyLens.{readdir_is_short}
use Rattle.sftp_fs.proofs.read_dir.ReadDir.readdir_request.Goals as goal

pub returns-clause-short : goal.returns-clause-short
returns-clause-short c = rw (c.copied.ensures) (readdir_is_short c.handle-handle.result.now
    c.as_bytes-short.ensures.fits)
