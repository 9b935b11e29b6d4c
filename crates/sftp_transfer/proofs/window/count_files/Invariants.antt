use Rattle.std.proofs.Common.{◌≤◌}
use Rattle.sftp_transfer.proofs.window.count_files.Given as goal

abbrev pub invariant-loop-found : goal.invariant-loop-found
invariant-loop-found l = l.files ≤ l.most
