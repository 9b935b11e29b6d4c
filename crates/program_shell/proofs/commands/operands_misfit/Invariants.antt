use Rattle.std.proofs.Common.{◌≡◌, length, map}
use Rattle.std.specs.String.{string_bytes}
use Rattle.program_shell.specs.Commands.{command_seen, operand_seen, operands_misfit}
use Rattle.program_shell.proofs.commands.operands_misfit.Given as goal

abbrev pub invariant-loop-rest : goal.invariant-loop-rest
invariant-loop-rest l =
    operands_misfit (command_seen l.command) (map operand_seen l.command.operands.now) (map string_bytes l.words)
    ≡ operands_misfit (command_seen l.command) (map operand_seen l.operands) (map string_bytes l.rest)

abbrev pub decreases-loop-rest : goal.decreases-loop-rest
decreases-loop-rest l = length l.rest
