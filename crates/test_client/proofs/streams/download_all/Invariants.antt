use Rattle.sftp_streams.specs.Downloads.{MayRead}
use Rattle.test_client.proofs.streams.download_all.Given as goal

abbrev pub invariant-loop : goal.invariant-loop
invariant-loop l = MayRead l.sftp.core l.download
