-- The server that a command line names, and the time limit of the link to it.
use Rattle.std.specs.Prelude.{ℕ, ◌*◌, ◌==◌, List, [], ◌∷◌, Option, Some, None, codes, if◌then◌else◌}
use Rattle.std.specs.Option.{option_map}
use Rattle.std.specs.Result.{result_ok}
use Rattle.std.specs.Str.{bytes_eq}
use Rattle.script_words.specs.Lines.{number_in}
use Rattle.program_shell.specs.declared.server.ServerAt.{ServerAt}

-- The number of seconds that the arguments after the operands of a command set: 60 if there are none, or the number
-- after `--timeout`, up to 86400.
abbrev pub seconds_in : List (List ℕ) → Option ℕ
seconds_in [] = Some 60
seconds_in (word ∷ []) = None
seconds_in (word ∷ seconds ∷ []) =
    if bytes_eq word (codes "--timeout") then result_ok (number_in 0 86400 seconds) else None
seconds_in (word ∷ seconds ∷ another ∷ words) = None

-- The path of a server, and the time limit of the link to it in seconds; 0 is none.
abbrev pub ServerWords : Type 0
ServerWords = List ℕ × ℕ

-- The server at a path, by the arguments after the operands of a command.
abbrev pub server_at : List ℕ → List (List ℕ) → Option ServerWords
server_at path words = option_map (λ seconds. (path, seconds)) (seconds_in words)

-- The time limit of this many seconds, in nanoseconds; 0 seconds are no limit.
abbrev pub nanos_in : ℕ → Option ℕ
nanos_in seconds = if seconds == 0 then None else Some (seconds * 1000000000)

-- ---- The value of the code

abbrev pub server_seen : ServerAt → ServerWords
server_seen server = (server.path.now, server.seconds)
