use Rattle.std.proofs.Common.{◌≡◌, ◌++◌}
use Rattle.program_shell.proofs.Files.{dir_lines_below}
use Rattle.program_shell.proofs.left.write_dirs.Given as goal

abbrev pub invariant-loop-k : goal.invariant-loop-k
invariant-loop-k l = l.out.items ≡ l.initial.out.items ++ dir_lines_below l.server.now.state.machine.tree l.k
