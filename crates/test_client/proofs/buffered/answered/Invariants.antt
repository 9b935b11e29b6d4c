use Rattle.sftp_buffered.specs.Buffered.{IsSound}
use Rattle.test_client.proofs.buffered.answered.Given as goal

abbrev pub invariant-loop : goal.invariant-loop
invariant-loop l = IsSound l.sftp.core l.file
