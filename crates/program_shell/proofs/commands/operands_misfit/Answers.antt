use Rattle.std.proofs.Common.{◌∙◌, sym}
use Rattle.std.specs.String.{string_bytes}
use Rattle.program_shell.specs.Commands.{command_seen, operand_seen}
use Rattle.program_shell.proofs.Misfits.{few_words}
use Rattle.program_shell.proofs.commands.operands_misfit.Goals as goal

pub returns-in-len1-up-operands : goal.returns-in-len1-up-operands
returns-in-len1-up-operands c =
    sym (c.loop-rest.invariant
    ∙ few_words operand_seen string_bytes (command_seen c.args.command) c.loop-rest.operands.now c.loop-rest.rest.now
    c.in-len1-up-operands.len_at_least c.in-empty.len_below)
