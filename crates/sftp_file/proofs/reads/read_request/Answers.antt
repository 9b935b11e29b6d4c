use Rattle.sftp_file.proofs.BodyLens.{read_is_short}
use Rattle.sftp_file.proofs.reads.read_request.Goals as goal

pub returns-clause-short : goal.returns-clause-short
returns-clause-short c = rw (c.copied.ensures) (read_is_short c.args.handle.now c.args.offset c.args.len
    c.as_bytes-short.ensures.fits)
