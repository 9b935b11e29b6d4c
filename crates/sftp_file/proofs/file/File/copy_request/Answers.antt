use Rattle.sftp_file.proofs.BodyLens.{copy_is_short}
use Rattle.sftp_file.proofs.file.File.copy_request.Goals as goal

pub returns-clause-short : goal.returns-clause-short
returns-clause-short c =
    rw (c.copied.ensures, c.copied-2.ensures)
    (copy_is_short c.handle-from.result.now c.offset.result c.args.n c.handle-target.result.now c.offset-2.result
    c.as_bytes-short.ensures.fits c.as_bytes-also.ensures.fits)
