use Rattle.std.proofs.Common.{rules, ◌≡◌, ◌+◌, take, map, Err}
use Rattle.std.specs.String.{string_bytes}
use Rattle.script_grammar.specs.ServerWords.{server_of}
use Rattle.sftp_serve.proofs.RefusedWords.{refused_next}
use Rattle.sftp_serve.proofs.words.refused_word.Goals as goal

pub returns-in-Some : goal.returns-in-Some
returns-in-Some c =
    let refused : server_of (map string_bytes (take (c.loop-read.read + 1) c.args.words.now)) ≡ Err c.in-Some.why =
    search rules in
    refused_next string_bytes c.args.words.now c.loop-read.read c.in-Some.why c.loop-read-test.true
    c.loop-read.invariant refused
