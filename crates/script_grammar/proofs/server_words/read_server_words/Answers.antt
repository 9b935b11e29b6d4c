use Rattle.std.proofs.Common.{◌≡◌, [], map}
use Rattle.std.specs.String.{string_bytes}
use Rattle.script_grammar.proofs.ServerWordLaws.{mapped_none, server_can_run, words_end}
use Rattle.script_grammar.proofs.server_words.read_server_words.Goals as goal

pub returns-clause-runs : goal.returns-clause-runs
returns-clause-runs c =
    let none : map string_bytes c.loop-rest.rest.now ≡ [] = mapped_none string_bytes c.loop-rest.rest.now
    c.in_default.len_below in
    let read = words_end c.loop-rest.draft (map string_bytes c.args.words.now) (map string_bytes c.loop-rest.rest.now)
    none c.loop-rest.invariant in
    rw c.into_script.ensures (server_can_run (map string_bytes c.args.words.now) c.loop-rest.draft.script read)

pub returns-clause-begins : goal.returns-clause-begins
returns-clause-begins c =
    let none : map string_bytes c.loop-rest.rest.now ≡ [] = mapped_none string_bytes c.loop-rest.rest.now
    c.in_default.len_below in
    let read = words_end c.loop-rest.draft (map string_bytes c.args.words.now) (map string_bytes c.loop-rest.rest.now)
    none c.loop-rest.invariant in
    rw c.into_script.ensures (server_can_run (map string_bytes c.args.words.now) c.loop-rest.draft.script read).begins
