use Rattle.std.specs.Prelude.{IsOk, map, take}
use Rattle.std.specs.String.{string_bytes}
use Rattle.script_grammar.specs.ServerWords.{server_of}
use Rattle.sftp_serve.proofs.words.refused_word.Given as goal

abbrev pub invariant-loop-read : goal.invariant-loop-read
invariant-loop-read l = IsOk (server_of (take l.read (map string_bytes l.words)))
