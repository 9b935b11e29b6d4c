-- One line more of a text, and the script that its lines are.
use Rattle.std.proofs.Common.{◌≡◌, ◌≤◌, ◌+◌, ◌∷◌, [], ℕ, Bool, true, false, List, length, if◌then◌else◌, refl, arith}
use Rattle.std.specs.Prelude.{Option, Some, None, Result, Ok, Err, nat_lt}
use Rattle.std.proofs.lemmas.Bool.Decides.{nat_tests}
use Rattle.script_words.specs.declared.reason.Reason.{Reason}
use Rattle.script_words.specs.declared.reason.Reason.TheVariants as reason
use Rattle.script_grammar.specs.declared.script.Script.{Script}
use Rattle.script_words.specs.Lines.{lines_of, or_read, read_by, read_line}
use Rattle.script_grammar.specs.Setup.{Draft}
use Rattle.script_grammar.specs.Scripts.{MAX_SCRIPT_LEN, empty_script, line_by, read_lines, script_in, script_of}
use Rattle.script_words.specs.declared.error.LineError.{LineError}
use Rattle.script_words.specs.declared.error.LineError.TheVariants as line
use Rattle.script_words.specs.declared.error.ScriptError.{ScriptError}
use Rattle.script_words.specs.declared.error.ScriptError.TheVariants as script
use Rattle.script_words.specs.Refusals.{RefusesLine, RefusesIn, RefusesScript, at_line}

-- what a line makes of what was read before it
abbrev LineBy : Type 0 → Type 0
LineBy S = S → List ℕ → List (List ℕ) → Result S Reason

read_on : {S : Type 0} (by : LineBy S) (n : ℕ) (d more : S) (line : List ℕ) (lines : List (List ℕ))
    → read_line by d line ≡ Ok more
    → read_by by n d (line ∷ lines) ≡ read_by by (n + 1) more lines
read_on by n d more line lines read = rw read refl

stop : {S : Type 0} (by : LineBy S) (n : ℕ) (d : S) (why : Reason) (line : List ℕ) (lines : List (List ℕ))
    → read_line by d line ≡ Err why
    → read_by by n d (line ∷ lines) ≡ Err (n, why)
stop by n d why line lines read = rw read refl

pub line_read : {S : Type 0} (by : LineBy S) (n : ℕ) (d more : S) (text line behind : List ℕ) → lines_of text
    ≡ line ∷ lines_of behind
    → read_line by d line ≡ Ok more → read_by by n d (lines_of text) ≡ read_by by (n + 1) more (lines_of behind)
line_read by n d more text line behind split read = rw split (read_on by n d more line (lines_of behind) read)

pub line_refused : {S : Type 0} (by : LineBy S) (n : ℕ) (d : S) (e : LineError) (text first behind : List ℕ)
    → lines_of text ≡ first ∷ lines_of behind → RefusesLine (read_line by d first) e
    → RefusesScript (read_by by n d (lines_of text)) (at_line n e)
line_refused by n d line.OutOfMemory text first behind split refused = tt
line_refused by n d (line.Refused why) text first behind split refused =
    rw split (stop by n d why first (lines_of behind) refused)

pub lines_end : {S : Type 0} (by : LineBy S) (n : ℕ) (d : S) (text : List ℕ) → text ≡ []
    → read_by by n d (lines_of text) ≡ Ok d
lines_end by n d text e = rw e refl

-- the list of lines that a line is of refuses it
pub or_refuses : {A : Type 0} (read : Option (Result A Reason)) (other : Result A Reason) (e : LineError)
    → RefusesIn read e → RefusesLine (or_read read other) e
or_refuses None other e refused = absurd refused
or_refuses (Some read) other e refused = refused

-- ---- scripts

abbrev nothing_read : Draft
nothing_read = record { script = empty_script; named = [] }

is_short : (m n : ℕ) → n ≤ m → nat_lt m n ≡ false
is_short m n le = grind (arith, nat_tests)

of_lines : (bytes : List ℕ) → length bytes ≤ MAX_SCRIPT_LEN → script_of bytes
    ≡ script_in (read_by line_by 1 nothing_read (lines_of bytes))
of_lines bytes le = rw (is_short MAX_SCRIPT_LEN (length bytes) le) refl

pub script_read : (bytes : List ℕ) (d : Draft) → length bytes ≤ MAX_SCRIPT_LEN
    → read_by line_by 1 nothing_read (lines_of bytes) ≡ Ok d
    → script_of bytes ≡ Ok d.script
script_read bytes d le read = rw (of_lines bytes le, read) refl

refused_at : (bytes : List ℕ) (n : ℕ) (why : Reason) → length bytes ≤ MAX_SCRIPT_LEN
    → read_by line_by 1 nothing_read (lines_of bytes) ≡ Err (n, why)
    → script_of bytes ≡ Err (n, why)
refused_at bytes n why le read = rw (of_lines bytes le, read) refl

pub script_refused : (bytes : List ℕ) (e : ScriptError) → length bytes ≤ MAX_SCRIPT_LEN
    → RefusesScript (read_by line_by 1 nothing_read (lines_of bytes)) e → RefusesScript (script_of bytes) e
script_refused bytes script.OutOfMemory le refused = tt
script_refused bytes (script.Line n why) le refused = refused_at bytes n why le refused
