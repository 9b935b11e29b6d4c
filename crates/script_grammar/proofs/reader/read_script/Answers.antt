use Rattle.std.proofs.Common.{rules, ◌≡◌, ◌≤◌, Ok, [], length, subst}
use Rattle.script_grammar.specs.CanRun.{CanRun}
use Rattle.script_words.specs.Lines.{lines_of, read_by}
use Rattle.script_grammar.specs.Setup.{Draft}
use Rattle.script_grammar.specs.Scripts.{MAX_SCRIPT_LEN, line_by}
use Rattle.script_grammar.proofs.ScriptLaws.{lines_can_run}
use Rattle.script_grammar.proofs.reader.read_script.Goals as goal

pub returns-clause-runs : goal.returns-clause-runs
returns-clause-runs c =
    let le : length c.args.text.now ≤ MAX_SCRIPT_LEN = search rules in
    let read = subst (λ (d : Draft). read_by line_by 1 d (lines_of c.args.text.now) ≡ Ok c.in_ok-draft.draft)
    c.new.ensures c.in_ok-draft.ensures.ok in
    rw c.into_script.ensures (lines_can_run c.args.text.now c.in_ok-draft.draft le read)
