use Rattle.std.proofs.Common.{◌≡◌, ◌++◌}
use Rattle.program_shell.proofs.Files.{dir_lines_below}
use Rattle.sftp_share.proofs.left.write_dirs.Given as goal

abbrev pub invariant-loop-k : goal.invariant-loop-k
invariant-loop-k l = l.out.items ≡ l.initial.out.items ++ dir_lines_below l.machine.tree l.k
