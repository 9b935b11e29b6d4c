use Rattle.std.proofs.Common.{rules, ◌≡◌, false}
use Rattle.sftp_model.specs.Frames.{is_too_long}
use Rattle.sftp_model.specs.declared.request.Request.TheVariants as request
use Rattle.sftp_file.proofs.BodyLens.{read_is_short}
use Rattle.sftp_buffered.proofs.file.TokioCompatFile.submit_read.Goals as goal

pub unreachable-requires : goal.unreachable-requires
unreachable-requires c =
    let short : is_too_long (request.Read c.handle-handle.result.now c.args.offset c.args.len) ≡ false =
    read_is_short c.handle-handle.result.now c.args.offset c.args.len (search rules) in
    search rules
