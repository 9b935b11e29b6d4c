use Rattle.std.proofs.Common.{rules, ◌≡◌, false}
use Rattle.sftp_model.specs.Frames.{is_too_long}
use Rattle.sftp_core.specs.Core.{write_of}
use Rattle.sftp_model.specs.Pieces.{joined_pieces}
use Rattle.sftp_file.proofs.BodyLens.{write_is_short}
use Rattle.sftp_buffered.proofs.file.TokioCompatFile.submit_write.Goals as goal

pub unreachable-requires : goal.unreachable-requires
unreachable-requires c =
    let short : is_too_long (write_of c.handle-handle.result.now c.offset.result c.args.parts.now) ≡ false =
    write_is_short c.handle-handle.result.now c.offset.result (joined_pieces c.args.parts.now) (search rules)
    c.requires.short in
    search rules
