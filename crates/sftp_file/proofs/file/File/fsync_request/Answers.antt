use Rattle.sftp_file.proofs.BodyLens.{fsync_is_short}
use Rattle.sftp_file.proofs.file.File.fsync_request.Goals as goal

pub returns-clause-short : goal.returns-clause-short
returns-clause-short c = rw (c.copied.ensures) (fsync_is_short c.handle-handle.result.now c.as_bytes-short.ensures.fits)
