use Rattle.std.proofs.Common.{rules, ◌≡◌, ap, ◌∙◌, Some, None, List}
use Rattle.std.specs.Option.{option_copied}
use Rattle.machine_model.specs.Components.{Name, text_of_name}
use Rattle.machine_model.specs.declared.node.Node.{Node}
use Rattle.machine_model.specs.Listing.{in_name_order}
use Rattle.machine_answers.proofs.ListingLaws.{dir_found}
use Rattle.machine_answers.proofs.machine.Machine.dir.Goals as goal

pub returns-in-Some : goal.returns-in-Some
returns-in-Some c =
    let tree = c.args.self.now.tree in
    let pairs : List (Name × Node) = c.sorted.result.now in
    let same : pairs ≡ in_name_order tree.names = search rules in
    let copied : Some c.in-Some.pair.now ≡ option_copied c.nth_of_kind.result = search rules in
    let name : c.written.result.now ≡ text_of_name c.in-Some.pair.now.0 = search rules in
    ap Some name ∙ dir_found tree pairs c.args.k (Some c.in-Some.pair.now) same (copied ∙ c.nth_of_kind.ensures)

pub returns-in-None : goal.returns-in-None
returns-in-None c =
    let tree = c.args.self.now.tree in
    let pairs : List (Name × Node) = c.sorted.result.now in
    let same : pairs ≡ in_name_order tree.names = search rules in
    let copied : None ≡ option_copied c.nth_of_kind.result = search rules in
    dir_found tree pairs c.args.k None same (copied ∙ c.nth_of_kind.ensures)
