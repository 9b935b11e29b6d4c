use Rattle.std.proofs.Common.{◌≡◌}
use Rattle.sftp_cli.specs.Summary.{capped_at_u64}
use Rattle.sftp_cli.proofs.Files.{file_lens_below}
use Rattle.sftp_cli.proofs.printed.bytes_left.Given as goal

abbrev pub invariant-loop-k : goal.invariant-loop-k
invariant-loop-k l = l.count ≡ capped_at_u64 (file_lens_below l.server.now.state.machine.tree l.k)
