use Rattle.std.proofs.Common.{IsSome}
use Rattle.sftp_core.specs.Info.{info_of}
use Rattle.sftp_streams.specs.Uploads.{MayWrite}
use Rattle.test_client.proofs.streams.upload_all.Given as goal

abbrev pub invariant-loop : goal.invariant-loop
invariant-loop l = IsSome (info_of l.sftp.core.phase) × MayWrite l.sftp.core l.upload
