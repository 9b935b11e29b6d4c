use Rattle.test_client.proofs.buffered.plays.Goals as goal

pub rows_met-met-requires : goal.rows_met-met-requires
rows_met-met-requires c = c.buffered-file.ensures c.buffered-file.new.sftp.core
