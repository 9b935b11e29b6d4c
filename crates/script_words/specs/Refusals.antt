-- The relation between an error and the reading that it reports.
use Rattle.std.specs.Prelude.{ℕ, ◌≡◌, ⊤, Option, None, Some, Result, Err}
use Rattle.hex.specs.declared.error.FromHexError.{FromHexError}
use Rattle.hex.specs.declared.error.FromHexError.TheVariants as hex
use Rattle.script_words.specs.declared.reason.Reason.{Reason}
use Rattle.script_words.specs.declared.reason.Reason.TheVariants as reason
use Rattle.script_words.specs.declared.error.LineError.{LineError}
use Rattle.script_words.specs.declared.error.LineError.TheVariants as line
use Rattle.script_words.specs.declared.error.ScriptError.{ScriptError}
use Rattle.script_words.specs.declared.error.ScriptError.TheVariants as script

-- Any reading may run out of memory; a reason is the reading's own.
abbrev pub RefusesLine : {A : Type 0} → Result A Reason → LineError → Type 0
RefusesLine reading line.OutOfMemory = ⊤
RefusesLine reading (line.Refused why) = reading ≡ Err why

-- The same if the line is one of a list of lines.
abbrev pub RefusesIn : {A : Type 0} → Option (Result A Reason) → LineError → Type 0
RefusesIn None e = ⊥
RefusesIn (Some reading) e = RefusesLine reading e

-- The same for all lines, with the number of the line and the reason.
abbrev pub RefusesScript : {A : Type 0} → Result A (ℕ × Reason) → ScriptError → Type 0
RefusesScript reading script.OutOfMemory = ⊤
RefusesScript reading (script.Line n why) = reading ≡ Err (n, why)

-- An error of the line that has this number.
abbrev pub at_line : ℕ → LineError → ScriptError
at_line n line.OutOfMemory = script.OutOfMemory
at_line n (line.Refused why) = script.Line n why

-- The error of hexadecimal digits.
abbrev pub hex_error : FromHexError → LineError
hex_error hex.OutOfMemory = line.OutOfMemory
hex_error misspelled = line.Refused reason.Hex
