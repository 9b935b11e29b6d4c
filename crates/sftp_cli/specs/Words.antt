-- believed: Asked
-- The text and the answer of the program for the arguments of its command line.
use Rattle.std.specs.Prelude.{
  ◌≤◌,
  ℕ,
  ◌*◌,
  ◌-◌,
  ◌^◌,
  nat_le,
  Bool,
  false,
  List,
  [],
  ◌∷◌,
  ◌++◌,
  Option,
  Some,
  None,
  Result,
  Ok,
  Err,
  codes,
  if◌then◌else◌,
}
use Rattle.std.specs.Result.{result_ok}
use Rattle.std.specs.Str.{bytes_eq}
use Rattle.ssh_encoding.specs.Reading.{◌>>=◌}
use Rattle.script_words.specs.declared.reason.Reason.{Reason}
use Rattle.script_words.specs.declared.reason.Reason.TheVariants as reason
use Rattle.script_words.specs.Lines.{number_in}
use Rattle.program_shell.specs.declared.ending.Answered.{Answered}
use Rattle.program_shell.specs.Servers.{ServerWords, server_at}
use Rattle.program_shell.specs.Texts.{answered_of, text_of}
use Rattle.sftp_cli.specs.declared.bulk.Numbers.{Numbers}

-- ---- Texts

-- The text of `--help`.
unfoldable pub help_text : List ℕ
help_text =
    codes "Usage: sftp_cli script\n"
    ++ codes "       sftp_cli unix PATH [--timeout SECONDS]\n"
    ++ codes "       sftp_cli bulk START LANES CALLS\n"
    ++ codes "       sftp_cli --help | --version\n"
    ++ codes "\n"
    ++ codes "  script       run the script on standard input over a server of its files in memory\n"
    ++ codes "  unix PATH    run it over the SFTP server that listens on the Unix socket PATH; give up\n"
    ++ codes "               after SECONDS seconds without any progress, 0 to 86400; the default is 60,\n"
    ++ codes "               and 0 is no limit\n"
    ++ codes "  bulk START LANES CALLS\n"
    ++ codes "               run a script that is generated from three numbers, and write a summary\n"
    ++ codes "  --help       print this help\n"
    ++ codes "  --version    print the version\n"
    ++ codes "\n"
    ++ codes "The program writes to standard output the frames sent and received, the outcome of each\n"
    ++ codes "call and, with script, the files left on the server.\n"
    ++ codes "\n"
    ++ codes "Exit status:\n"
    ++ codes "  0  everything was done\n"
    ++ codes "  1  the session failed\n"
    ++ codes "  2  the script or the arguments are invalid\n"
    ++ codes "  3  standard input failed\n"
    ++ codes "  4  standard output failed\n"
    ++ codes "  5  out of memory\n"
    ++ codes "  6  no server listens at PATH\n"
    ++ codes "\n"
    ++ codes "A script has one command per line. The command lane starts a list of calls that run one\n"
    ++ codes "after another; all lanes run at once. Paths and bytes are hexadecimal, or - for none.\n"
    ++ codes "These lines write a file and read it back:\n"
    ++ codes "\n"
    ++ codes "  lane\n"
    ++ codes "  fs_write 61 68656c6c6f\n"
    ++ codes "  open 0 r 61\n"
    ++ codes "  read_all 0 5\n"
    ++ codes "  close 0\n"
    ++ codes "\n"
    ++ codes "docs/sftp_cli.1 lists all commands, and docs/SPEC.md says what each of them means.\n"

-- ---- Arguments

-- True for the single argument `script`.
abbrev pub is_script : List (List ℕ) → Bool
is_script [] = false
is_script (word ∷ []) = bytes_eq word (codes "script")
is_script (word ∷ another ∷ words) = false

-- The server after the argument `unix`: its path, and the time limit that the arguments after it set.
abbrev pub server_of : List (List ℕ) → Option ServerWords
server_of [] = None
server_of (word ∷ []) = None
server_of (word ∷ path ∷ words) = if bytes_eq word (codes "unix") then server_at path words else None

-- Three numbers: a start of 64 bits, up to 256 lanes, and up to 4096 calls for each lane, with up to 16384 calls in
-- all.
abbrev pub numbers_in : List ℕ → List ℕ → List ℕ → Result Numbers Reason
numbers_in start lanes calls =
    number_in 0 (2 ^ 64 - 1) start >>= λ s.
    number_in 0 256 lanes >>= λ l.
    number_in 0 4096 calls >>= λ c.
    if nat_le (l * c) 16384 then Ok (record { start = s; lanes = l; calls = c }) else Err reason.Range

-- The numbers are within these ranges.
pub record IsBulk (n : Numbers) : Type 0 where
  pub lanes : n.lanes ≤ 256
  pub calls : n.calls ≤ 4096
  pub all : n.lanes * n.calls ≤ 16384

-- The argument `bulk`, and three such numbers after it.
abbrev pub bulk_of : List (List ℕ) → Option Numbers
bulk_of [] = None
bulk_of (word ∷ []) = None
bulk_of (word ∷ start ∷ []) = None
bulk_of (word ∷ start ∷ lanes ∷ []) = None
bulk_of (word ∷ start ∷ lanes ∷ calls ∷ []) = if bytes_eq word (codes "bulk") then
    result_ok (numbers_in start lanes calls) else None
bulk_of (word ∷ start ∷ lanes ∷ calls ∷ another ∷ words) = None

-- ---- The request

-- A script over a server in memory; a script over a link to the server at a path, with a time limit in seconds; the
-- script of three numbers in memory; or a text and its meaning.
pub data Asked : Type 0 where
  InMemory : Asked
  AtPath : List ℕ → ℕ → Asked
  Bulk : Numbers → Asked
  Text : Answered → List ℕ → Asked

abbrev asked_by_numbers : Option Numbers → List (List ℕ) → Asked
asked_by_numbers (Some n) words = Bulk n
asked_by_numbers None words = Text (answered_of words) (text_of help_text words)

abbrev asked_by_server : Option ServerWords → List (List ℕ) → Asked
asked_by_server (Some server) words = AtPath server.0 server.1
asked_by_server None words = asked_by_numbers (bulk_of words) words

abbrev pub asked_by : List (List ℕ) → Asked
asked_by words = if is_script words then InMemory else asked_by_server (server_of words) words
