use Rattle.sftp_file.proofs.BodyLens.{fsetstat_is_short}
use Rattle.sftp_file.proofs.file.File.fsetstat_request.Goals as goal

pub returns-clause-short : goal.returns-clause-short
returns-clause-short c = rw (c.copied.ensures) (fsetstat_is_short c.handle-handle.result.now c.args.attrs
    c.as_bytes-short.ensures.fits)
