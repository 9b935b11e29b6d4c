-- Arguments each of which is one line of a script, on the first content of a server or on its offers.
use Rattle.std.specs.Prelude.{ℕ, List, [], ◌∷◌, codes, Result, Ok, Err, if◌then◌else◌}
use Rattle.std.specs.Str.{bytes_eq}
use Rattle.ssh_encoding.specs.Reading.{◌>>=◌}
use Rattle.script_words.specs.declared.reason.Reason.{Reason}
use Rattle.script_words.specs.declared.reason.Reason.TheVariants as reason
use Rattle.script_grammar.specs.declared.script.Script.{Script}
use Rattle.script_words.specs.Lines.{words_of, one_word, two_words}
use Rattle.script_grammar.specs.Setup.{Draft, dir_line, file_line, server_line}
use Rattle.script_grammar.specs.Scripts.{empty_script}

-- A line on the server's offers. A cut belongs to its link, and is no such line.
abbrev pub offer_line : Draft → List (List ℕ) → Result Draft Reason
offer_line d [] = Err reason.Count
offer_line d (kind ∷ words) = if bytes_eq kind (codes "cut") then Err reason.Mode else server_line d (kind ∷ words)

-- A line by its first word.
abbrev pub first_line_by : Draft → List ℕ → List (List ℕ) → Result Draft Reason
first_line_by d word words =
    if bytes_eq word (codes "server") then offer_line d words
    else if bytes_eq word (codes "file") then two_words (file_line d) words
    else if bytes_eq word (codes "dir") then one_word (dir_line d) words
    else Err reason.Word

-- A line by its words.
abbrev pub first_line : Draft → List (List ℕ) → Result Draft Reason
first_line d [] = Err reason.Word
first_line d (word ∷ words) = first_line_by d word words

-- Such lines one after another.
abbrev pub read_first : Draft → List (List ℕ) → Result Draft Reason
read_first d [] = Ok d
read_first d (line ∷ lines) = first_line d (words_of line) >>= λ next. read_first next lines

-- The script that has these lines and no other, or the reason why the first refused line is refused.
abbrev pub server_of : List (List ℕ) → Result Script Reason
server_of lines = read_first (record { script = empty_script; named = [] }) lines >>= λ d. Ok d.script
