use Rattle.sftp_model.specs.Pieces.{joined_pieces}
use Rattle.sftp_file.proofs.BodyLens.{write_is_short}
use Rattle.sftp_file.proofs.writes.write_request.Goals as goal

pub returns-clause-short : goal.returns-clause-short
returns-clause-short c =
    rw (c.copied.ensures, c.new.ensures) (write_is_short c.args.handle.now c.args.offset
    (joined_pieces c.args.parts.items) c.as_bytes-short.ensures.fits c.requires)
