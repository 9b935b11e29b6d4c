use Rattle.std.proofs.Common.{rules, ◌≡◌, Some}
use Rattle.machine_model.specs.declared.node.Node.TheVariants as node
use Rattle.machine_model.specs.FileTree.{node_at}
use Rattle.machine_answers.proofs.store.Store.open.Goals as goal

pub returns-in-Some-File : goal.returns-in-Some-File
returns-in-Some-File c =
    let there : node_at c.args.self.now.tree c.args.name ≡ Some (node.File c.in-Some-File.file) = search rules in
    rw there (c.open_there.ensures c.args.name)
