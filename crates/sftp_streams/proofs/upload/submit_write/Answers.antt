use Rattle.std.proofs.Common.{[], ◌∷◌, subst}
use Rattle.sftp_core.specs.Core.{IsSubmitError, submit_refusal, write_of}
use Rattle.sftp_streams.proofs.PushLaws.{one_is_short}
use Rattle.sftp_streams.proofs.Taking.{never_long}
use Rattle.sftp_streams.proofs.upload.submit_write.Goals as goal

pub unreachable-requires : goal.unreachable-requires
unreachable-requires c =
    never_long c.args.core.now (write_of c.args.handle.now c.args.offset (c.args.bytes.now ∷ []))
    c.in-Err-TooLong.field-0
    (one_is_short c.args.handle.now c.args.offset c.args.bytes.now c.as_bytes-short.ensures.fits c.requires.fits)
    c.in-Err-TooLong.field-0-is
    (subst (λ x. IsSubmitError c.in-Err-TooLong.field-0 (submit_refusal c.args.core.now
    (write_of c.args.handle.now c.args.offset x))) c.from_ref.ensures.value c.in-Err-TooLong.ensures.refused)
