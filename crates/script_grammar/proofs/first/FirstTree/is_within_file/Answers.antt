use Rattle.std.proofs.Common.{rules, ◌≡◌, ◌∙◌}
use Rattle.std.specs.Prelude.{map}
use Rattle.machine_model.specs.FirstTree.{name_of}
use Rattle.script_grammar.proofs.FirstLaws.{any_named_by}
use Rattle.script_grammar.proofs.first.FirstTree.is_within_file.Goals as goal

pub returns : goal.returns
returns c =
    let names : c.as_slice.result.now ≡ map name_of c.args.self.now.files = search rules in
    c.is_within_any.ensures ∙ any_named_by c.as_slice.result.now c.args.name.now c.args.self.now.files names
