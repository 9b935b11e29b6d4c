use Rattle.std.proofs.Common.{rules, ◌≡◌, ◌≤◌, ◌-◌, ◌+◌, ◌∙◌, get_or, take, length, ap, ℕ}
use Rattle.std.specs.List.{flat_map}
use Rattle.machine_model.specs.Components.{Name, parent_of}
use Rattle.machine_tree.specs.Names.{with_slash_before}
use Rattle.machine_tree.proofs.PathLaws.{parent_text}
use Rattle.machine_tree.proofs.tree_name.TreeName.parent_written.Goals as goal

pub returns-in-Some : goal.returns-in-Some
returns-in-Some c =
    let name : Name = c.args.self.now in
    let last = c.in-Some.part.now in
    let text = c.as_slice-text.result.now in
    let told : text ≡ flat_map with_slash_before name = search rules in
    let some : 1 ≤ length name = search rules in
    let is : last ≡ get_or name (length name - 1) last = search rules in
    let end : c.saturating_sub-end.result ≡ length text - (1 + length last) = search rules in
    c.unslashed.ensures (parent_of name) (ap (λ (k : ℕ). take k text) end ∙ parent_text name last text told some is)
