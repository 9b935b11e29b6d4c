use Rattle.std.proofs.Common.{◌≡◌, ◌++◌}
use Rattle.program_shell.proofs.Files.{file_lines_below}
use Rattle.sftp_share.proofs.left.write_files.Given as goal

abbrev pub invariant-loop-k : goal.invariant-loop-k
invariant-loop-k l = l.out.items ≡ l.initial.out.items ++ file_lines_below l.machine.tree l.k
