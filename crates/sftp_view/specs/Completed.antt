-- Consequences of the way the program ends if neither the source nor the sink failed.
use Rattle.std.specs.Prelude.{◌≡◌, ◌⊎◌, ℕ, List, Option, Ok}
use Rattle.program_shell.specs.Completed.{CompletesSource, IsWhole}
use Rattle.program_shell.specs.Ended.{status_of}
use Rattle.view_model.specs.Lists.{list_of}
use Rattle.sftp_view.specs.Words.{Asked, Text, Through}

-- The program ends with the result that is asked for, unless an allocation failed.
abbrev pub CompletesProgram : Asked → ℕ → Option (List ℕ) → Type 0
CompletesProgram (Through size) status left = CompletesSource (list_of size.block) IsWhole status left
CompletesProgram (Text answered text) status left = (status ≡ status_of (Ok answered)) ⊎ (status ≡ 5)
