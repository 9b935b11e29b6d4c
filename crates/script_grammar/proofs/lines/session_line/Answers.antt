use Rattle.std.proofs.Common.{rules, ◌≡◌, Result, sym, subst}
use Rattle.std.specs.Prelude.{IfErr}
use Rattle.script_words.specs.declared.reason.Reason.{Reason}
use Rattle.script_words.specs.Lines.{words_of}
use Rattle.script_grammar.specs.Setup.{Draft}
use Rattle.script_grammar.specs.Scripts.{call_in, call_line, session_line}
use Rattle.script_words.specs.Refusals.{RefusesLine}
use Rattle.script_grammar.proofs.lines.session_line.Goals as goal

pub returns-else-eq-5-clause-refused : goal.returns-else-eq-5-clause-refused
returns-else-eq-5-clause-refused c =
    let same : session_line c.args.draft.now c.args.word.now (words_of c.args.line.now)
    ≡ call_line c.args.draft.now (call_in c.args.word.now (words_of c.args.line.now)) = search rules in
    subst (λ (read : Result Draft Reason). IfErr c.call_line.result (λ e. RefusesLine read e)) (sym same)
    c.call_line.ensures.refused
