-- Too many bytes are no script.
use Rattle.std.proofs.Common.{refl}
use Rattle.script_grammar.specs.Scripts.{script_of}
use Rattle.program_shell.proofs.Reading.{RefusesLong}

pub long_refused : RefusesLong script_of
long_refused bytes h = rw h refl
