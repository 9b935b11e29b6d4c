use Rattle.sftp_model.specs.declared.request.Request.TheVariants as request
use Rattle.sftp_file.proofs.BodyLens.{read_is_short}
use Rattle.sftp_fs_read.proofs.TicketLaws.{never_long}
use Rattle.sftp_fs_read.proofs.tickets.submit_read.Goals as goal

pub unreachable-requires : goal.unreachable-requires
unreachable-requires c =
    never_long c.args.core.now (request.Read c.copied.result c.args.offset c.args.len) c.in-Err-TooLong.field-0
    (read_is_short c.copied.result c.args.offset c.args.len (rw (c.copied.ensures) c.as_bytes-short.ensures.fits))
    c.in-Err-TooLong.field-0-is
    c.in-Err-TooLong.ensures.refused
