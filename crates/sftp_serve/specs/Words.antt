-- The meaning of the arguments of the command line.
use Rattle.std.specs.Prelude.{
  ◌≡◌,
  ◌<◌,
  ◌≤◌,
  ℕ,
  ◌-◌,
  ◌==◌,
  Bool,
  false,
  drop,
  List,
  [],
  ◌∷◌,
  ◌++◌,
  length,
  take,
  Option,
  None,
  Some,
  Err,
  IsOk,
  codes,
  if◌then◌else◌,
}
use Rattle.std.specs.Str.{bytes_eq}
use Rattle.script_words.specs.declared.reason.Reason.{Reason}
use Rattle.script_grammar.specs.declared.script.Script.{Script}
use Rattle.script_grammar.specs.ServerWords.{server_of}
use Rattle.machine_model.specs.FirstTree.{first_tree}
use Rattle.sftp_serve.specs.Stream.{ServedState, first_state}

-- ---- The arguments of a server

-- True if the first argument is `--long`.
abbrev pub is_long : List (List ℕ) → Bool
is_long [] = false
is_long (word ∷ words) = bytes_eq word (codes "--long")

-- The arguments that are lines: those after `--long`, or all.
abbrev pub server_lines : List (List ℕ) → List (List ℕ)
server_lines words = if is_long words then drop 1 words else words

-- The files, directories and offers of a script, before the first frame.
abbrev pub script_state : Bool → Script → ServedState
script_state long script = first_state long (record {
  tree = first_tree script.files script.dirs;
  config = script.server;
  grants = 0;
})

-- The first argument that is refused, counted from 1. The arguments up to it are refused, for this reason, and those
-- before it are read.
pub record IsRefusedWord (words : List (List ℕ)) (number : ℕ) (why : Reason) : Type 0 where
  pub some : 0 < number
  pub within : number ≤ length words
  pub before : IsOk (server_of (take (number - 1) words))
  pub refused : server_of (take number words) ≡ Err why

-- ---- Texts

-- The text of `--help`.
unfoldable pub help_text : List ℕ
help_text =
    codes "Usage: sftp_serve [--long] [WORD ..] | --help | --version\n"
    ++ codes "\n"
    ++ codes "Serves files and directories in memory by SFTP version 3 on standard input and output,\n"
    ++ codes "to one client and until its stream ends. Each WORD is one of\n"
    ++ codes "\n"
    ++ codes "  'file NAME CONTENT'       a file that exists at the start\n"
    ++ codes "  'dir NAME'                a directory that exists at the start\n"
    ++ codes "  'server ext NAME'         posix-rename, hardlink, fsync, expand-path or copy-data\n"
    ++ codes "  'server limits P R W H'   the limits that limits@openssh.com reports: the most bytes of\n"
    ++ codes "                            a packet, of a READ and of a WRITE, and the most handles\n"
    ++ codes "\n"
    ++ codes "With --long files have all attributes, and the entries of listings have long names; modes,\n"
    ++ codes "owners and times are always the same.\n"
    ++ codes "\n"
    ++ codes "NAME of a file or a directory, and CONTENT, are hexadecimal, or - for no bytes. OpenSSH's\n"
    ++ codes "client can start the server itself:\n"
    ++ codes "\n"
    ++ codes "  sftp -D \"sftp_serve --long 'dir 64' 'server ext posix-rename'\"\n"
    ++ codes "\n"
    ++ codes "Exit status:\n"
    ++ codes "  0  the stream ended after a frame\n"
    ++ codes "  1  the stream ended within a frame, or contained an invalid request\n"
    ++ codes "  2  a WORD is invalid\n"
    ++ codes "  3  the connection failed\n"
    ++ codes "  5  out of memory\n"
    ++ codes "  7  18446744073709551615 frames were served\n"

-- The text of `--version`.
unfoldable pub version_text : List ℕ
version_text = codes "tilfrjon 0.1.0\n"

-- The text for these arguments; None if they are a server's.
abbrev pub text_for : List (List ℕ) → Option (List ℕ)
text_for [] = None
text_for (word ∷ []) =
    if bytes_eq word (codes "--help") then Some help_text
    else if bytes_eq word (codes "--version") then Some version_text
    else None
text_for (word ∷ another ∷ words) = None

-- The message on standard error for a status.
abbrev pub cause_of : ℕ → Option (List ℕ)
cause_of status =
    if status == 1 then Some (codes "the stream ended within a frame, or contained an invalid request")
    else if status == 2 then Some (codes "an argument is invalid")
    else if status == 3 then Some (codes "the connection failed")
    else if status == 5 then Some (codes "out of memory")
    else if status == 7 then Some (codes "the limit of frames was reached")
    else None
