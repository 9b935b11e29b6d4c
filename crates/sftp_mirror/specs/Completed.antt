-- Consequences of the way the program ends if neither the source nor the sink failed.
use Rattle.std.specs.Prelude.{◌≡◌, ◌⊎◌, ℕ, List, Option, Ok}
use Rattle.program_shell.specs.Completed.{CompletesSource, IsLinkStatus, IsWhole}
use Rattle.program_shell.specs.Ended.{status_of}
use Rattle.sftp_mirror.specs.Lists.{list_of}
use Rattle.sftp_mirror.specs.Words.{Asked, AtPath, InMemory, Text}

-- The program ends with the result that is asked for, unless an allocation failed.
abbrev pub CompletesProgram : Asked → ℕ → Option (List ℕ) → Type 0
CompletesProgram (InMemory schedule) status left = CompletesSource list_of IsWhole status left
CompletesProgram (AtPath path seconds schedule) status left = CompletesSource list_of IsLinkStatus status left
CompletesProgram (Text answered text) status left = (status ≡ status_of (Ok answered)) ⊎ (status ≡ 5)
