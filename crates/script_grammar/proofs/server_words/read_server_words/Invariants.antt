use Rattle.std.proofs.Common.{◌≡◌, map, length}
use Rattle.std.specs.String.{string_bytes}
use Rattle.script_grammar.specs.ServerWords.{read_first}
use Rattle.script_grammar.proofs.ServerWordLaws.{before_words}
use Rattle.script_grammar.proofs.server_words.read_server_words.Given as goal

abbrev pub invariant-loop-rest : goal.invariant-loop-rest
invariant-loop-rest l = read_first before_words (map string_bytes l.words)
    ≡ read_first l.draft (map string_bytes l.rest)

abbrev pub decreases-loop-rest : goal.decreases-loop-rest
decreases-loop-rest l = length l.rest
