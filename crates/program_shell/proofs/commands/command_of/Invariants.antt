use Rattle.std.proofs.Common.{◌≡◌, length, map}
use Rattle.program_shell.specs.Commands.{command_of, command_seen}
use Rattle.program_shell.proofs.commands.command_of.Given as goal

abbrev pub invariant-loop-rest : goal.invariant-loop-rest
invariant-loop-rest l = command_of (map command_seen l.commands) l.word ≡ command_of (map command_seen l.rest) l.word

abbrev pub decreases-loop-rest : goal.decreases-loop-rest
decreases-loop-rest l = length l.rest
