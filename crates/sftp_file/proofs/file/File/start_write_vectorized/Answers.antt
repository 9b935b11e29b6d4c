use Rattle.std.proofs.Common.{rules}
use Rattle.sftp_model.specs.Pieces.{joined_pieces}
use Rattle.sftp_file.specs.Files.{facts_of}
use Rattle.sftp_file.proofs.WriteLaws.{cut_is_next}
use Rattle.sftp_file.proofs.file.File.start_write_vectorized.Goals as goal

pub returns-in-Ok-clause-starts : goal.returns-in-Ok-clause-starts
returns-in-Ok-clause-starts c =
    c.write_parts.ensures.starts (joined_pieces c.args.bufs.now)
    (cut_is_next (facts_of c.args.core.now) (joined_pieces c.args.bufs.now) (joined_pieces c.in-Ok.parts.items)
    c.facts-limit.result.write_len (search rules) c.in-Ok.ensures.bytes)
