-- Worked command lines of a program with three commands.
use Rattle.std.specs.Prelude.{◌≡◌, List, [], ◌∷◌, codes, Some, None, refl}
use Rattle.program_shell.specs.Commands.{
  CommandWords,
  FewWords,
  ManyWords,
  NoValue,
  NoWord,
  OperandWords,
  OptionWords,
  OutOfRange,
  UnknownWord,
  misfit_of,
}

abbrev block : OperandWords
block = (codes "BLOCK", Some (1, 65536))

abbrev path : OperandWords
path = (codes "PATH", None)

abbrev view : CommandWords
view = (codes "view", path ∷ block ∷ [], None)

abbrev timeout : OptionWords
timeout = (codes "--timeout", (codes "SECONDS", Some (0, 86400)))

abbrev unix : CommandWords
unix = (codes "unix", path ∷ [], Some timeout)

abbrev version : CommandWords
version = (codes "--version", [], None)

abbrev commands : List CommandWords
commands = view ∷ unix ∷ version ∷ []

pub a_view : misfit_of commands (codes "view" ∷ codes "s" ∷ codes "65536" ∷ []) ≡ None
a_view = refl

pub a_text : misfit_of commands (codes "--version" ∷ []) ≡ None
a_text = refl

pub no_option : misfit_of commands (codes "unix" ∷ codes "s" ∷ []) ≡ None
no_option = refl

pub an_option : misfit_of commands (codes "unix" ∷ codes "s" ∷ codes "--timeout" ∷ codes "0" ∷ []) ≡ None
an_option = refl

-- The first word after `unix` is the path.
pub a_path_like_the_option : misfit_of commands (codes "unix" ∷ codes "--timeout" ∷ []) ≡ None
a_path_like_the_option = refl

pub no_word : misfit_of commands [] ≡ Some NoWord
no_word = refl

pub an_unknown_word : misfit_of commands (codes "vew" ∷ codes "s" ∷ codes "1" ∷ []) ≡ Some (UnknownWord (codes "vew"))
an_unknown_word = refl

pub no_block : misfit_of commands (codes "view" ∷ codes "s" ∷ []) ≡ Some (FewWords view)
no_block = refl

pub a_word_after_a_text : misfit_of commands (codes "--version" ∷ codes "x" ∷ [])
    ≡ Some (ManyWords version (codes "x"))
a_word_after_a_text = refl

pub a_block_that_is_too_long : misfit_of commands (codes "view" ∷ codes "s" ∷ codes "65537" ∷ [])
    ≡ Some (OutOfRange block (codes "65537"))
a_block_that_is_too_long = refl

-- The first reason is reported.
pub no_number : misfit_of commands (codes "view" ∷ codes "s" ∷ codes "x" ∷ codes "y" ∷ [])
    ≡ Some (OutOfRange block (codes "x"))
no_number = refl

pub an_option_alone : misfit_of commands (codes "unix" ∷ codes "s" ∷ codes "--timeout" ∷ []) ≡ Some (NoValue timeout)
an_option_alone = refl

pub an_unknown_option : misfit_of commands (codes "unix" ∷ codes "s" ∷ codes "--time" ∷ codes "1" ∷ [])
    ≡ Some (ManyWords unix (codes "--time"))
an_unknown_option = refl

pub an_option_twice : misfit_of commands (codes "unix" ∷ codes "s" ∷ codes "--timeout" ∷ codes "1" ∷ codes "--timeout"
    ∷ codes "1" ∷ [])
    ≡ Some (ManyWords unix (codes "--timeout"))
an_option_twice = refl
