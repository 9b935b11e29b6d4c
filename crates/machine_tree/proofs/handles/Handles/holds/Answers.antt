use Rattle.std.proofs.Common.{◌∙◌, ap, sym, List, ℕ}
use Rattle.std.specs.List.{list_any}
use Rattle.machine_model.specs.FileTree.{opens_file}
use Rattle.machine_model.specs.declared.opened.Opened.{Opened}
use Rattle.machine_tree.proofs.NumberLaws.{held_values}
use Rattle.machine_tree.proofs.handles.Handles.holds.Goals as goal

pub returns : goal.returns
returns c = c.holds.ensures ∙ sym (held_values c.self.inside.by_number.entries c.args.file)
    ∙ ap (λ (w : List (List ℕ × Opened)). list_any (λ pair. opens_file c.args.file pair.1) w) c.self.view_is
