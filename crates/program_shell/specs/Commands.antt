-- The commands of a program, and the reason why a command line is none of them.
use Rattle.std.specs.Prelude.{ℕ, Bool, true, List, [], ◌∷◌, Option, Some, None, is_ok, map, if◌then◌else◌}
use Rattle.std.specs.Option.{option_map}
use Rattle.std.specs.Str.{bytes_eq}
use Rattle.script_words.specs.Lines.{number_in}
use Rattle.program_shell.specs.declared.commands.Command.{Command}
use Rattle.program_shell.specs.declared.commands.CommandOption.{CommandOption}
use Rattle.program_shell.specs.declared.commands.Misfit.{Misfit}
use Rattle.program_shell.specs.declared.commands.Misfit.TheVariants as misfit
use Rattle.program_shell.specs.declared.commands.Operand.{Operand}

-- ---- Commands

-- The name of an operand, and the least and the greatest number that it may be, if it is a number.
abbrev pub OperandWords : Type 0
OperandWords = List ℕ × Option (ℕ × ℕ)

-- The word of an option, and its value.
abbrev pub OptionWords : Type 0
OptionWords = List ℕ × OperandWords

-- The first word of a command, its operands, and the option that may follow them.
abbrev pub CommandWords : Type 0
CommandWords = List ℕ × List OperandWords × Option OptionWords

-- True if a word may be this operand.
abbrev pub fits : OperandWords → List ℕ → Bool
fits (name, None) word = true
fits (name, Some range) word = is_ok (number_in range.0 range.1 word)

-- The first command that begins with a word.
abbrev pub command_of : List CommandWords → List ℕ → Option CommandWords
command_of [] word = None
command_of (command ∷ commands) word = if bytes_eq command.0 word then Some command else command_of commands word

-- ---- Command lines

-- The reason why a command line is no command: it is empty; its first word begins none; there are fewer words after it
-- than operands, or more, of which this is the first; an option has no value; or a word can't be its operand.
pub data MisfitWords : Type 0 where
  NoWord : MisfitWords
  UnknownWord : List ℕ → MisfitWords
  FewWords : CommandWords → MisfitWords
  ManyWords : CommandWords → List ℕ → MisfitWords
  NoValue : OptionWords → MisfitWords
  OutOfRange : OperandWords → List ℕ → MisfitWords

-- The first reason why these words are not the value of an option.
abbrev pub value_misfit : CommandWords → OptionWords → List (List ℕ) → Option MisfitWords
value_misfit command option [] = Some (NoValue option)
value_misfit command option (word ∷ []) = if fits option.1 word then None else Some (OutOfRange option.1 word)
value_misfit command option (word ∷ another ∷ words) =
    if fits option.1 word then Some (ManyWords command another) else Some (OutOfRange option.1 word)

abbrev pub misfit_after : CommandWords → Option OptionWords → List ℕ → List (List ℕ) → Option MisfitWords
misfit_after command None word words = Some (ManyWords command word)
misfit_after command (Some option) word words =
    if bytes_eq option.0 word then value_misfit command option words else Some (ManyWords command word)

-- The first reason why these words are not the option of a command.
abbrev pub option_misfit : CommandWords → List (List ℕ) → Option MisfitWords
option_misfit command [] = None
option_misfit command (word ∷ words) = misfit_after command command.2 word words

-- The first reason why these words are not these operands of a command, and its option.
abbrev pub operands_misfit : CommandWords → List OperandWords → List (List ℕ) → Option MisfitWords
operands_misfit command [] words = option_misfit command words
operands_misfit command (operand ∷ operands) [] = Some (FewWords command)
operands_misfit command (operand ∷ operands) (word ∷ words) =
    if fits operand word then operands_misfit command operands words else Some (OutOfRange operand word)

abbrev pub misfit_by : List ℕ → List (List ℕ) → Option CommandWords → Option MisfitWords
misfit_by word words None = Some (UnknownWord word)
misfit_by word words (Some command) = operands_misfit command command.1 words

-- The reason why a command line is none of these commands; None if it is one.
abbrev pub misfit_of : List CommandWords → List (List ℕ) → Option MisfitWords
misfit_of commands [] = Some NoWord
misfit_of commands (word ∷ words) = misfit_by word words (command_of commands word)

-- ---- The values of the code

abbrev pub operand_seen : Operand → OperandWords
operand_seen operand = (operand.name.now, operand.range)

abbrev pub option_seen : CommandOption → OptionWords
option_seen option = (option.word.now, operand_seen option.value)

abbrev pub command_seen : Command → CommandWords
command_seen command = (command.word.now, map operand_seen command.operands.now, option_map option_seen command.option)

abbrev pub misfit_seen : Misfit → MisfitWords
misfit_seen misfit.Missing = NoWord
misfit_seen (misfit.Unknown word) = UnknownWord word.now
misfit_seen (misfit.TooFew command) = FewWords (command_seen command)
misfit_seen (misfit.TooMany command word) = ManyWords (command_seen command) word.now
misfit_seen (misfit.NoValue option) = NoValue (option_seen option)
misfit_seen (misfit.OutOfRange operand word) = OutOfRange (operand_seen operand) word.now
