use Rattle.std.proofs.Common.{rules, ◌<◌, length}
use Rattle.machine_tree.proofs.PathLaws.{written_none, written_rest}
use Rattle.machine_tree.proofs.tree_name.unslashed.Goals as goal

pub returns-in-empty : goal.returns-in-empty
returns-in-empty c = λ name text.
    let none : length c.args.text.now < 1 = search rules in
    written_none name c.args.text.now text none

pub returns-in-len1-up : goal.returns-in-len1-up
returns-in-len1-up c = λ name text. written_rest name c.args.text.now text
