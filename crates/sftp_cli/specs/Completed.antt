-- Consequences of the way the program ends if neither the source nor the sink failed.
use Rattle.std.specs.Prelude.{◌≡◌, ◌⊎◌, ℕ, List, Option, Ok}
use Rattle.script_grammar.specs.Scripts.{script_of}
use Rattle.program_shell.specs.Completed.{CompletesSource, IsLinkStatus, IsWhole}
use Rattle.program_shell.specs.Ended.{status_of}
use Rattle.sftp_cli.specs.Words.{Asked, InMemory, AtPath, Bulk, Text}

-- The program ends with the result that is asked for, unless an allocation failed.
abbrev pub CompletesProgram : Asked → ℕ → Option (List ℕ) → Type 0
CompletesProgram InMemory status left = CompletesSource script_of IsWhole status left
CompletesProgram (AtPath path seconds) status left = CompletesSource script_of IsLinkStatus status left
CompletesProgram (Bulk n) status left = (status ≡ 0) ⊎ (status ≡ 5)
CompletesProgram (Text answered text) status left = (status ≡ status_of (Ok answered)) ⊎ (status ≡ 5)
