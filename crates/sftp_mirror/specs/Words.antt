-- believed: Asked
-- The text and the answer of the program for the arguments of its command line.
use Rattle.std.specs.Prelude.{◌≤◌, ℕ, List, [], ◌∷◌, ◌++◌, Option, Some, None, Result, Ok, codes, if◌then◌else◌}
use Rattle.std.specs.Option.{option_and_then, option_map}
use Rattle.std.specs.Result.{result_ok}
use Rattle.std.specs.Str.{bytes_eq}
use Rattle.ssh_encoding.specs.Reading.{◌>>=◌}
use Rattle.script_words.specs.declared.reason.Reason.{Reason}
use Rattle.script_words.specs.Lines.{number_in}
use Rattle.program_shell.specs.declared.ending.Answered.{Answered}
use Rattle.program_shell.specs.Servers.{ServerWords, server_at}
use Rattle.program_shell.specs.Texts.{answered_of, text_of}
use Rattle.sftp_mirror.specs.declared.schedule.Schedule.{Schedule}

-- ---- Texts

-- The text of `--help`.
unfoldable pub help_text : List ℕ
help_text =
    codes "Usage: sftp_mirror copy WIDTH ROUNDS\n"
    ++ codes "       sftp_mirror unix PATH WIDTH ROUNDS [--timeout SECONDS]\n"
    ++ codes "       sftp_mirror --help | --version\n"
    ++ codes "\n"
    ++ codes "  copy WIDTH ROUNDS\n"
    ++ codes "               copy the files listed on standard input, over a server in memory\n"
    ++ codes "  unix PATH WIDTH ROUNDS\n"
    ++ codes "               copy them over the SFTP server that listens on the Unix socket PATH; give\n"
    ++ codes "               up after SECONDS seconds without any progress, 0 to 86400; the default is\n"
    ++ codes "               60, and 0 is no limit\n"
    ++ codes "  --help       print this help\n"
    ++ codes "  --version    print the version\n"
    ++ codes "\n"
    ++ codes "WIDTH is the number of files copied at once, 1 to 64. ROUNDS, 0 to 4096, is the number of\n"
    ++ codes "turns that all of them get before the rest is copied file by file. A line of the list is\n"
    ++ codes "\n"
    ++ codes "  up NAME CONTENT    write a file on the server, and read it back\n"
    ++ codes "  down NAME BOUND    read a file with at most BOUND requests that return bytes\n"
    ++ codes "\n"
    ++ codes "or a line option, server, file, dir, choice or pick of docs/SPEC.md. NAME and CONTENT are\n"
    ++ codes "hexadecimal, or - for no bytes.\n"
    ++ codes "\n"
    ++ codes "The program writes a line copied, got, differs, givenup or refused for each file, and then,\n"
    ++ codes "with copy, the files and directories left on the server.\n"
    ++ codes "\n"
    ++ codes "Exit status:\n"
    ++ codes "  0  everything was done\n"
    ++ codes "  1  the session failed\n"
    ++ codes "  2  the list or the arguments are invalid\n"
    ++ codes "  3  standard input failed\n"
    ++ codes "  4  standard output failed\n"
    ++ codes "  5  out of memory\n"
    ++ codes "  6  no server listens at PATH\n"

-- ---- Arguments

-- The number of lanes that copy, 1 to 64, and the number of rounds, up to 4096.
abbrev pub schedule_in : List ℕ → List ℕ → Result Schedule Reason
schedule_in width rounds =
    number_in 1 64 width >>= λ w.
    number_in 0 4096 rounds >>= λ r.
    Ok (record { width = w; rounds = r })

-- The schedule is within these ranges.
pub record IsSchedule (s : Schedule) : Type 0 where
  pub some : 1 ≤ s.width
  pub most : s.width ≤ 64
  pub few : s.rounds ≤ 4096

-- The argument `copy`, and such numbers after it.
abbrev pub copy_of : List (List ℕ) → Option Schedule
copy_of [] = None
copy_of (word ∷ []) = None
copy_of (word ∷ width ∷ []) = None
copy_of (word ∷ width ∷ rounds ∷ []) =
    if bytes_eq word (codes "copy") then result_ok (schedule_in width rounds) else None
copy_of (word ∷ width ∷ rounds ∷ another ∷ words) = None

-- The argument `unix` and a path, such numbers after them, and the time limit that the arguments after these set.
abbrev pub unix_of : List (List ℕ) → Option (Schedule × ServerWords)
unix_of [] = None
unix_of (word ∷ []) = None
unix_of (word ∷ path ∷ []) = None
unix_of (word ∷ path ∷ width ∷ []) = None
unix_of (word ∷ path ∷ width ∷ rounds ∷ words) =
    if bytes_eq word (codes "unix") then option_and_then (λ schedule. option_map (λ server. (schedule, server))
    (server_at path words)) (result_ok (schedule_in width rounds)) else None

-- ---- The request

-- A copy of files over a server in memory; a copy over a link to the server at a path, with a time limit in seconds; or
-- a text and its meaning.
pub data Asked : Type 0 where
  InMemory : Schedule → Asked
  AtPath : List ℕ → ℕ → Schedule → Asked
  Text : Answered → List ℕ → Asked

abbrev asked_by_unix : Option (Schedule × ServerWords) → List (List ℕ) → Asked
asked_by_unix (Some unix) words = AtPath unix.1.0 unix.1.1 unix.0
asked_by_unix None words = Text (answered_of words) (text_of help_text words)

abbrev asked_by_copy : Option Schedule → List (List ℕ) → Asked
asked_by_copy (Some schedule) words = InMemory schedule
asked_by_copy None words = asked_by_unix (unix_of words) words

abbrev pub asked_by : List (List ℕ) → Asked
asked_by words = asked_by_copy (copy_of words) words
