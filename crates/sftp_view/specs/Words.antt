-- believed: Asked
-- The text and the answer of the program for the arguments of its command line.
use Rattle.std.specs.Prelude.{ℕ, List, ◌++◌, Option, Some, None, codes}
use Rattle.program_shell.specs.Texts.{answered_of, text_of}
use Rattle.program_shell.specs.declared.ending.Answered.{Answered}
use Rattle.view_model.specs.CacheSizes.{view_of}
use Rattle.view_model.specs.declared.cache_size.CacheSize.{CacheSize}

-- ---- Texts

-- The text of `--help`.
unfoldable pub help_text : List ℕ
help_text =
    codes "Usage: sftp_view view BLOCK CAPACITY | --help | --version\n"
    ++ codes "\n"
    ++ codes "  view BLOCK CAPACITY\n"
    ++ codes "               run the operations listed on standard input, over a server in memory\n"
    ++ codes "  --help       print this help\n"
    ++ codes "  --version    print the version\n"
    ++ codes "\n"
    ++ codes "Files are read in blocks of BLOCK bytes, 1 to 65536. The CAPACITY blocks, 1 to 4096, that\n"
    ++ codes "were used last are kept. A line of the list is\n"
    ++ codes "\n"
    ++ codes "  get NAME OFFSET LEN        read at most LEN bytes of a file, from OFFSET on\n"
    ++ codes "  put NAME OFFSET CONTENT    write bytes to a file at OFFSET, and create it if necessary\n"
    ++ codes "\n"
    ++ codes "or a line option, server, file, dir, choice or pick of docs/SPEC.md; a choice may refuse\n"
    ++ codes "nothing. NAME and CONTENT are hexadecimal, or - for no bytes.\n"
    ++ codes "\n"
    ++ codes "The program writes a line got, put, refused or toolong for each operation, then the number\n"
    ++ codes "of blocks found in the cache, hits, and not found, misses, and then the files and\n"
    ++ codes "directories left on the server.\n"
    ++ codes "\n"
    ++ codes "Exit status:\n"
    ++ codes "  0  everything was done\n"
    ++ codes "  2  the list or the arguments are invalid\n"
    ++ codes "  3  standard input failed\n"
    ++ codes "  4  standard output failed\n"
    ++ codes "  5  out of memory\n"

-- ---- The request

-- A view through a cache of this size, or a text and its meaning.
pub data Asked : Type 0 where
  Through : CacheSize → Asked
  Text : Answered → List ℕ → Asked

abbrev asked_by_view : Option CacheSize → List (List ℕ) → Asked
asked_by_view (Some size) words = Through size
asked_by_view None words = Text (answered_of words) (text_of help_text words)

abbrev pub asked_by : List (List ℕ) → Asked
asked_by words = asked_by_view (view_of words) words
