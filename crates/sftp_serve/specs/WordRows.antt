-- Worked examples of arguments.
use Rattle.std.specs.Prelude.{◌≡◌, [], ◌∷◌, codes, Err, refl}
use Rattle.script_words.specs.declared.reason.Reason.TheVariants as reason
use Rattle.script_grammar.specs.ServerWords.{server_of}

-- The arguments that ask for a text are not arguments of a server.
pub help_is_none : server_of (codes "--help" ∷ []) ≡ Err reason.Word
help_is_none = refl

pub version_is_none : server_of (codes "--version" ∷ []) ≡ Err reason.Word
version_is_none = refl
