use Rattle.sftp_buffered.specs.Buffered.{IsSound}
use Rattle.test_client.proofs.buffered.rows_met.Given as goal

abbrev pub invariant-loop-row : goal.invariant-loop-row
invariant-loop-row l = IsSound l.sftp.core l.file
