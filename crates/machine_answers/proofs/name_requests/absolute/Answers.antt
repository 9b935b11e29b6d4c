use Rattle.std.proofs.Common.{rules, ◌≡◌, ◌∙◌}
use Rattle.std.specs.Prelude.{flat_map}
use Rattle.machine_tree.specs.Names.{with_slash_before}
use Rattle.machine_tree.proofs.PathLaws.{slashed_name}
use Rattle.machine_answers.proofs.name_requests.absolute.Goals as goal

pub returns : goal.returns
returns c =
    let told : c.new-2.result ≡ flat_map with_slash_before c.args.name.now = search rules in
    told ∙ slashed_name c.args.name.now (λ e. search rules)
